use Rattle.std.proofs.Common.{◌≡◌, ◌≢◌, None, [], ◌∷◌, ◌++◌, map, take, sym, ◌∙◌, ap, subst}
use Rattle.std.proofs.lemmas.List.{take_more, map-append}
use Rattle.std.proofs.lemmas.Result.{err_from_is_err_and}
use Rattle.std.specs.Option.{option_or}
use Rattle.psi_tables.specs.Association.{association, pat_fault}
use Rattle.psi_tables.specs.InForce.{choice_of}
use Rattle.psi_tables.proofs.Choosing.{last_or-none, last_or-next}
use Rattle.psi_tables.proofs.choice.choose.Goals as goal

pub loop-section-init : goal.loop-section-init
loop-section-init c = sym (last_or-none c.args.before)

pub loop-section-preserved : goal.loop-section-preserved
loop-section-preserved c =
    let i = c.loop-section.section-index in
    let section = c.section-item.result in
    let more = take_more c.args.found.now i section c.loop-section-test.true ∙ ap (λ x. take i c.args.found.now ++ x ∷ []) (sym c.section-item.is) in
    last_or-next (choice_of c.args.program) c.args.before c.loop-section.choice c.or-choice.result _ _ section.items c.loop-section.invariant
    (ap (map (λ section. section.items)) more ∙ map-append (λ section. section.items) (take i c.args.found.now) (section ∷ []))
    (c.or-choice.ensures ∙ ap (λ o. option_or o c.loop-section.choice) (c.in_ok-read_choice.ensures.value ∙ ap (choice_of c.args.program) c.deref.ensures.value))

pub returns-in_err-read_choice-clause-scarce : goal.returns-in_err-read_choice-clause-scarce
returns-in_err-read_choice-clause-scarce c =
    let told = err_from_is_err_and c.from_residual.result c.from_residual.ensures.1 in
    let i = c.loop-section.section-index in
    let good : pat_fault c.section-item.result.items ≡ None = ap pat_fault (sym c.deref.ensures.value) ∙ c.in_err-read_choice.ensures.scarce in
    let some = subst (λ section. (association section).entries ≢ []) c.deref.ensures.value c.in_err-read_choice.ensures.some in
    rw told.1 (i, c.section-item.result, c.loop-section-test.true, sym c.section-item.is, (good, some))
