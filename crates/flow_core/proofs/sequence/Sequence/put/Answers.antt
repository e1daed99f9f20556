use Rattle.std.proofs.Common.{◌≡◌, ◌∙◌, ◌-◌, get_or, Some, None, sym, ap, subst, arith}
use Rattle.std.specs.Prelude.{slice_get, slice_set}
use Rattle.std.proofs.lemmas.List.{length-set}
use Rattle.segment_job.specs.Segments.{sealed_segment}
use Rattle.flow_core.specs.declared.slot.Slot.{Slot}
use Rattle.flow_core.specs.Sequences.{SequenceValue, IsRight, with_segment}
use Rattle.flow_core.proofs.Slotting.{slots-set}
use Rattle.flow_core.proofs.Placing.{right-place, place-plan}
use Rattle.flow_core.proofs.sequence.Sequence.put.Goals as goal

pub invariant_of-self : goal.invariant_of-self
invariant_of-self c =
    let sequence : SequenceValue = record { rendition = c.self.inside.rendition; keys = c.self.inside.keys; start = c.self.inside.start; next = c.self.inside.next; slots = c.self.inside.slots.items } in
    let was : Slot = c.index_mut.result.now in
    let right : IsRight sequence c.args.segment = subst (λ l. IsRight l c.args.segment) (sym c.self.view_is) c.requires.right in
    let place : c.args.at ≡ c.args.segment.plan.number - sequence.next = subst (λ (l : SequenceValue). c.args.at ≡ c.args.segment.plan.number - l.next) (sym c.self.view_is) c.requires.place in
    let read : was ≡ get_or sequence.slots c.args.at was = c.index_mut.ensures.value in
    let plan : was.plan ≡ c.args.segment.plan = place-plan sequence c.args.segment c.args.segment.plan c.args.at was (right-place sequence c.args.segment right) place read in
    let free : Slot = record { plan = c.args.segment.plan; segment = None } in
    let there : slice_get sequence.slots c.args.at ≡ Some free = ap (slice_get sequence.slots) place ∙ right.expected in
    let slot : Slot = record { plan = was.plan; segment = Some c.args.segment } in
    let own : c.args.segment ≡ sealed_segment sequence.keys was.plan = right.sealed ∙ ap (sealed_segment sequence.keys) (sym plan) in
    record {
      own = slots-set sequence.rendition sequence.keys sequence.next sequence.slots c.args.at slot free c.self.invariant.own there plan own;
      begun = c.self.invariant.begun;
      low = omega (arith, length-set sequence.slots c.args.at slot, c.self.invariant.low);
    }

pub returns : goal.returns
returns c =
    let sequence : SequenceValue = record { rendition = c.self.inside.rendition; keys = c.self.inside.keys; start = c.self.inside.start; next = c.self.inside.next; slots = c.self.inside.slots.items } in
    let was : Slot = c.index_mut.result.now in
    let right : IsRight sequence c.args.segment = subst (λ l. IsRight l c.args.segment) (sym c.self.view_is) c.requires.right in
    let place : c.args.at ≡ c.args.segment.plan.number - sequence.next = subst (λ (l : SequenceValue). c.args.at ≡ c.args.segment.plan.number - l.next) (sym c.self.view_is) c.requires.place in
    let read : was ≡ get_or sequence.slots c.args.at was = c.index_mut.ensures.value in
    let plan : was.plan ≡ c.args.segment.plan = place-plan sequence c.args.segment c.args.segment.plan c.args.at was (right-place sequence c.args.segment right) place read in
    let now : SequenceValue = record sequence { slots = slice_set sequence.slots c.args.at (record { plan = was.plan; segment = Some c.args.segment }) } in
    let put : now ≡ with_segment sequence c.args.segment = λ i. record sequence { slots = slice_set sequence.slots (place i) (record { plan = plan i; segment = Some c.args.segment }) } in
    put ∙ ap (λ l. with_segment l c.args.segment) c.self.view_is
