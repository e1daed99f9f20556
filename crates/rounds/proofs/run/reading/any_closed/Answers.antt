use Rattle.std.proofs.Common.{◌≡◌, ◌∙◌, inl, inr, ℕ, [], Some, ap, sym, subst, arith}
use Rattle.std.specs.List.{slice_get}
use Rattle.std.proofs.lemmas.Bool.{cases_eq}
use Rattle.std.proofs.lemmas.List.{nil_from_length}
use Rattle.std.proofs.lemmas.Option.{get_or_from_slice_get, slice_get_within}
use Rattle.ingest.specs.declared.lane.Lane.{Lane}
use Rattle.rounds.proofs.run.reading.any_closed.Goals as goal

pub loop-lane-preserved : goal.loop-lane-preserved
loop-lane-preserved c k lane below at =
    elim (cases_eq k c.loop-lane.lane-index) as (λ _. lane.intake.filled ≡ []) [
      | inl q ↦
          let here : slice_get c.args.lanes.now c.loop-lane.lane-index ≡ Some lane = subst (λ (j : ℕ). slice_get c.args.lanes.now j ≡ Some lane) q at in
          let same : c.lane-item.result ≡ lane = c.lane-item.is ∙ get_or_from_slice_get c.args.lanes.now c.loop-lane.lane-index lane _ here in
          ap (λ (l : Lane). l.intake.filled) (sym same) ∙ nil_from_length c.lane-item.result.intake.filled (omega (arith, c.plans.ensures, c.if-plans-gt0.false))
      | inr q ↦ c.loop-lane.invariant k lane (omega (arith, below, q)) at
    ]

pub returns-clause-none : goal.returns-clause-none
returns-clause-none c none k lane at =
    c.loop-lane.invariant k lane (omega (arith, slice_get_within c.args.lanes.now k lane at, c.loop-lane-test.false, c.loop-lane.auto.lane-index-end)) at
