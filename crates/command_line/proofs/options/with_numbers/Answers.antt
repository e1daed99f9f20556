use Rattle.std.proofs.Common.{◌∙◌, ℕ, ◌∷◌, [], map, take, get_or, ap, sym, subst, List, Bor, None}
use Rattle.std.proofs.lemmas.List.{map-append, take_more}
use Rattle.command_line.specs.Offered.{Offered, Offers, number_offered}
use Rattle.command_line.proofs.Adding.{number-is, offers-one}
use Rattle.command_line.proofs.options.with_numbers.Goals as goal

abbrev empty : Bor (List ℕ)
empty = record { ref_ptr = (0, 0); now = [] }

pub loop-option-preserved : goal.loop-option-preserved
loop-option-preserved c =
    let xs = c.args.numbers.now in
    let i = c.loop-option.option-index in
    let made = c.number_from.ensures in
    let is = number-is c.number_from.result (get_or xs i (empty, empty, empty, None)) made.rule made.alone made.value made.help in
    let more = offers-one c.args.options.items _ _ _ _ _ c.loop-option.invariant c.in_ok-options.ensures is in
    subst (λ (offered : List Offered). Offers c.args.options.items offered c.in_ok-options.options.items)
    (sym (ap (map number_offered) (take_more xs i _ c.loop-option-test.true) ∙ map-append number_offered (take i xs) (get_or xs i (empty, empty, empty, None) ∷ []))) more
