use Rattle.std.proofs.Common.{◌∙◌, ℕ, ◌∷◌, [], map, take, get_or, ap, sym, subst, List, Bor}
use Rattle.std.proofs.lemmas.List.{map-append, take_more}
use Rattle.command_line.specs.Offered.{Offered, Offers, flag_offered}
use Rattle.command_line.proofs.Adding.{flag-is, offers-one}
use Rattle.command_line.proofs.pack_options.with_flags.Goals as goal

abbrev empty : Bor (List ℕ)
empty = record { ref_ptr = (0, 0); now = [] }

pub loop-option-preserved : goal.loop-option-preserved
loop-option-preserved c =
    let xs = c.args.flags.now in
    let i = c.loop-option.option-index in
    let made = c.flag_from.ensures in
    let is = flag-is c.flag_from.result (get_or xs i (empty, empty)) made.rule made.alone made.bare made.help in
    let more = offers-one c.args.options.items _ _ _ _ _ c.loop-option.invariant c.in_ok-options.ensures is in
    subst (λ (offered : List Offered). Offers c.args.options.items offered c.in_ok-options.options.items)
    (sym (ap (map flag_offered) (take_more xs i _ c.loop-option-test.true) ∙ map-append flag_offered (take i xs) (get_or xs i (empty, empty) ∷ []))) more
