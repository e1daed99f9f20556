use Rattle.std.proofs.Common.{rules, ◌≡◌, ◌∙◌, length, ◌-◌, ◌<◌, Some, None, refl, ap, subst, arith}
use Rattle.std.specs.Prelude.{slice_get}
use Rattle.std.proofs.lemmas.Option.{slice_get_read}
use Rattle.cutter.specs.Plans.{SegmentPlan}
use Rattle.flow_core.specs.declared.slot.Slot.{Slot}
use Rattle.flow_core.specs.Sequences.{SequenceValue, HasPlace}
use Rattle.flow_core.proofs.Slotting.{none-of}
use Rattle.flow_core.proofs.sequence.Sequence.free_place.Goals as goal

pub returns-clause-free : goal.returns-clause-free
returns-clause-free c =
    let was : Slot = c.index-slot.result.now in
    let sequence : SequenceValue = record { rendition = c.self.inside.rendition; keys = c.self.inside.keys; start = c.self.inside.start; next = c.self.inside.next; slots = c.self.inside.slots.items } in
    let at = c.plan-plan.result.number - sequence.next in
    let lt : at < length sequence.slots = search rules in
    let there : slice_get sequence.slots at ≡ Some was = slice_get_read sequence.slots _ at was refl lt (search rules) in
    let none : was.segment ≡ None = none-of was.segment (search rules) in
    let free : was ≡ record { plan = was.plan; segment = None } = λ i. record { plan = was.plan; segment = none i } in
    let number : c.plan-plan.result.number ≡ c.args.segment.plan.number = ap (λ (p : SegmentPlan). p.number) c.plan-plan.ensures in
    let place : HasPlace sequence c.args.segment was.plan = record {
      ahead = omega (arith, c.if-plan-self.false, number);
      there = subst (λ n. slice_get sequence.slots (n - sequence.next) ≡ Some (record { plan = was.plan; segment = None })) number (there ∙ ap Some free);
      sealed = c.is_by.ensures.0 (search rules);
    } in
    (was.plan, subst (λ l. HasPlace l c.args.segment was.plan) c.self.view_is place)
