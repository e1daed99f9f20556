use Rattle.std.proofs.Common.{ℕ, List, subst, [], ◌∷◌, ◌++◌, Some, None, map, take, sym, ◌∙◌, ap}
use Rattle.std.proofs.lemmas.List.{take_more, map-append}
use Rattle.std.proofs.lemmas.Result.{err_from_is_err_and}
use Rattle.std.specs.Option.{option_or}
use Rattle.psi_tables.specs.InForce.{tables_of}
use Rattle.psi_tables.specs.State.{TakesMemory}
use Rattle.psi_tables.proofs.Choosing.{last_or-none, last_or-next}
use Rattle.psi_tables.proofs.tables.last_tables.Goals as goal

pub returns-in_default-clause-value : goal.returns-in_default-clause-value
returns-in_default-clause-value c = rw c.in_default.is (sym (last_or-none None))

pub loop-section-init : goal.loop-section-init
loop-section-init c = sym (last_or-none None)

pub loop-section-preserved : goal.loop-section-preserved
loop-section-preserved c =
    let i = c.loop-section.section-index in
    let section = c.section-item.result in
    let more = take_more c.args.found.now i section c.loop-section-test.true ∙ ap (λ x. take i c.args.found.now ++ x ∷ []) (sym c.section-item.is) in
    last_or-next (tables_of c.in-Some.choice) None c.loop-section.tables c.or-tables.result _ _ section.items c.loop-section.invariant
    (ap (map (λ section. section.items)) more ∙ map-append (λ section. section.items) (take i c.args.found.now) (section ∷ []))
    (c.or-tables.ensures ∙ ap (λ o. option_or o c.loop-section.tables) (c.in_ok-read_tables.ensures.value ∙ ap (tables_of c.in-Some.choice) c.deref.ensures.value))

pub returns-in_err-read_tables-clause-scarce : goal.returns-in_err-read_tables-clause-scarce
returns-in_err-read_tables-clause-scarce c =
    let told = err_from_is_err_and c.from_residual.result c.from_residual.ensures.1 in
    let i = c.loop-section.section-index in
    let takes = subst (λ (x : List ℕ). TakesMemory (Some c.in-Some.choice) x) c.deref.ensures.value
    (c.in_err-read_tables.ensures.scarce, c.in_err-read_tables.ensures.some) in
    rw (told.1, c.in-Some.is) (i, c.section-item.result, c.loop-section-test.true, sym c.section-item.is, takes)
