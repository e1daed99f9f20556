use Rattle.std.proofs.Common.{cond, ltb, Bool, true, false, Option, Some, None, arith, ◌≡◌, ◌∙◌, ◌==◌, ℕ, List, length, take, drop, sym, ap, rules, tests, refl}
use Rattle.std.specs.List.{position_or_len}
use Rattle.std.specs.Prelude.{unwrap_or}
use Rattle.std.proofs.lemmas.List.{take_all}
use Rattle.std.proofs.lemmas.Bool.{ltb-false}
use Rattle.std.proofs.lemmas.Iterator.{YieldsList-from_slice}
use Rattle.std.proofs.lemmas.Iterator.Search.{position_from_yields_List}
use Rattle.resume.proofs.picking.at_sign.Goals as goal

-- up to the place, or all
cut-by : (text : List ℕ) (p place : ℕ) (r : Option ℕ) (b : Bool) → ltb p (length text) ≡ b → r ≡ cond b (Some p) None → place ≡ unwrap_or r (length text) → take place text ≡ take p text
cut-by text p place r true test is at = ap (λ k. take k text) (at ∙ ap (λ o. unwrap_or o (length text)) is)
cut-by text p place r false test is at =
    ap (λ k. take k text) (at ∙ ap (λ o. unwrap_or o (length text)) is) ∙ take_all (length text) text (omega arith)
    ∙ sym (take_all p text (ltb-false p (length text) test))

cut : (text : List ℕ) (p place : ℕ) (r : Option ℕ) → r ≡ cond (ltb p (length text)) (Some p) None → place ≡ unwrap_or r (length text) → take place text ≡ take p text
cut text p place r is at = cut-by text p place r (ltb p (length text)) refl is at

pub returns-clause-front : goal.returns-clause-front
returns-clause-front c =
    let place = position_from_yields_List (λ b. b == 64) _ _ _ c.position.ensures.ran (YieldsList-from_slice c.args.line.now cc) (λ x b q k. search (rules, tests)) in
    c.split_at.ensures.front ∙ cut c.args.line.now (position_or_len (λ b. b == 64) c.args.line.now) c.unwrap_or-place.result c.position.result place c.unwrap_or-place.ensures

pub returns-clause-back : goal.returns-clause-back
returns-clause-back c =
    c.split_at.ensures.back ∙ ap (λ (k : ℕ). drop k c.args.line.now) (sym c.split_at.ensures.front_len ∙ ap length (returns-clause-front c))
