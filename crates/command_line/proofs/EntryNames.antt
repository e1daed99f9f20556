-- The entry at a place, of its parts.
use Rattle.std.proofs.Common.{◌≡◌, ◌∙◌, ℕ, ◌<◌, ◌≤◌, Bool, true, false, ◌&&◌, List, [], Bor, Option, Some, None, IfSome, option_map, map, length, get_or, refl, sym, ap, arith, lt-ltb, le-ltb, ltb-true}
use Rattle.std.proofs.lemmas.List.{get_or-map, length-map}
use Rattle.commands.specs.declared.entry.EntryWords.{EntryWords}
use Rattle.commands.specs.Entries.{HasFourColons, behind_colon, behind_three, behind_two, entry_of, entry_value}
use Rattle.command_line.specs.EntryTexts.{entry_at, has_colon, has_four_colons, parts_of}

all-four : (a b c d : Bool) → a ≡ true → b ≡ true → c ≡ true → d ≡ true → (a && b && c && d) ≡ true
all-four a b c d p q r s = rw (p, q, r, s) refl

each-of-four : (a b c d : Bool) → (a && b && c && d) ≡ true → (a ≡ true) × (b ≡ true) × (c ≡ true) × (d ≡ true)
each-of-four true true true true is = (refl, refl, refl, refl)
each-of-four true true true false is = absurd (cc)
each-of-four true true false d is = absurd (cc)
each-of-four true false c d is = absurd (cc)
each-of-four false b c d is = absurd (cc)

pub four-colons : (text : List ℕ) → HasFourColons text → has_four_colons text ≡ true
four-colons text has =
    all-four (has_colon text) (has_colon (behind_colon text)) (has_colon (behind_two text)) (has_colon (behind_three text))
    (lt-ltb _ _ has.first) (lt-ltb _ _ has.second) (lt-ltb _ _ has.third) (lt-ltb _ _ has.fourth)

pub has-four-colons : (text : List ℕ) → has_four_colons text ≡ true → HasFourColons text
has-four-colons text is =
    let each = each-of-four (has_colon text) (has_colon (behind_colon text)) (has_colon (behind_two text)) (has_colon (behind_three text)) is in
    record {
      first = ltb-true _ _ each.0;
      second = ltb-true _ _ each.1;
      third = ltb-true _ _ each.2;
      fourth = ltb-true _ _ each.3;
    }

no-parts : (text : List ℕ) (b : Bool) → has_four_colons text ≡ b → ¬ HasFourColons text → None ≡ parts_of text
unfolding parts_of
no-parts text true is not = absurd (not (has-four-colons text is))
no-parts text false is not = rw is refl

some-parts : (text : List ℕ) → HasFourColons text → parts_of text ≡ Some (entry_of text)
unfolding parts_of
some-parts text has = rw (four-colons text has) refl

-- what a text is cut into are its parts
pub parts-cut : (r : Option EntryWords) (text : List ℕ) → IfSome r (λ words. entry_value words ≡ entry_of text) → IfSome r (λ _. HasFourColons text)
    → (r ≡ None → ¬ HasFourColons text) → option_map entry_value r ≡ parts_of text
parts-cut None text is has none = no-parts text (has_four_colons text) refl (none refl)
parts-cut (Some words) text is has none = ap Some is ∙ sym (some-parts text has)

-- behind the last text there is no entry
pub none-at : (texts : List (List ℕ)) (place : ℕ) → length texts ≤ place → None ≡ entry_at texts place
unfolding entry_at
none-at texts place behind = rw (le-ltb place (length texts) behind) refl

-- at a place before, it is that of the text there
pub some-at : (texts : List (Bor (List ℕ))) (place : ℕ) (e : Bor (List ℕ)) → place < length texts → parts_of (get_or texts place e).now ≡ entry_at (map (λ t. t.now) texts) place
unfolding entry_at
some-at texts place e within =
    let inside : place < length (map (λ t. t.now) texts) = omega (arith, within, length-map texts (λ t. t.now)) in
    rw (lt-ltb place (length (map (λ t. t.now) texts)) inside) (ap parts_of (sym (get_or-map (λ t. t.now) texts place e [] within)))
