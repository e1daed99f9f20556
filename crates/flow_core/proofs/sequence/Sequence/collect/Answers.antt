use Rattle.std.proofs.Common.{rules, ◌≡◌, ◌∙◌, ◌<◌, length, get_or, sym, ap, subst}
use Rattle.cutter.specs.Lent.{lent}
use Rattle.segment_job.specs.Segments.{SealedSegment}
use Rattle.flow_core.specs.Sequences.{SequenceValue, IsRight}
use Rattle.flow_core.proofs.Placing.{place-right, none-came, other-wrong, place-inside, place-plan}
use Rattle.flow_core.proofs.sequence.Sequence.collect.Goals as goal

pub index-slot-requires : goal.index-slot-requires
index-slot-requires c =
    let inside : c.in_ok-at.at < length c.args.self.now.slots = place-inside c.args.self.now c.args.segment c.in_ok-at.ensures.free.0 c.in_ok-at.at c.in_ok-at.ensures.free.1 c.in_ok-at.ensures.place in
    let here : c.in_ok-at.at < length c.self.inside.slots.items = subst (λ (l : SequenceValue). c.in_ok-at.at < length l.slots) (sym c.self.view_is) inside in
    search rules

pub returns-then-not-is_expected-clause-fault : goal.returns-then-not-is_expected-clause-fault
returns-then-not-is_expected-clause-fault c =
    let plan = c.in_ok-at.ensures.free.0 in
    let place = c.in_ok-at.ensures.free.1 in
    let read = subst (λ (l : SequenceValue). c.index-slot.result.now ≡ get_or l.slots c.in_ok-at.at c.index-slot.result.now) c.self.view_is c.index-slot.ensures in
    let there : c.index-slot.result.now.plan ≡ plan = place-plan c.args.self.now c.args.segment plan c.in_ok-at.at c.index-slot.result.now place c.in_ok-at.ensures.place read in
    let own : lent c.plan-plan.result ≡ c.args.segment.plan = c.plan-plan.ensures ∙ ap (λ (s : SealedSegment). s.plan) c.in_ok-at.ensures.same in
    let differ : lent c.plan-plan.result ≡ lent c.plan.result → ⊥ = search rules in
    let wrong : c.args.segment.plan ≡ plan → ⊥ = λ e. differ (own ∙ e ∙ sym there ∙ sym c.plan.ensures) in
    (c.in_ok-at.ensures.same, none-came c.args.self.now c.args.segment plan place, other-wrong c.args.self.now c.args.segment plan place wrong)

pub put-requires-clause-right : goal.put-requires-clause-right
put-requires-clause-right c =
    let plan = c.in_ok-at.ensures.free.0 in
    let place = c.in_ok-at.ensures.free.1 in
    let read = subst (λ (l : SequenceValue). c.index-slot.result.now ≡ get_or l.slots c.in_ok-at.at c.index-slot.result.now) c.self.view_is c.index-slot.ensures in
    let there : c.index-slot.result.now.plan ≡ plan = place-plan c.args.self.now c.args.segment plan c.in_ok-at.at c.index-slot.result.now place c.in_ok-at.ensures.place read in
    let own : lent c.plan-plan.result ≡ c.args.segment.plan = c.plan-plan.ensures ∙ ap (λ (s : SealedSegment). s.plan) c.in_ok-at.ensures.same in
    let both : lent c.plan-plan.result ≡ lent c.plan.result = search rules in
    let right : IsRight c.args.self.now c.args.segment = place-right c.args.self.now c.args.segment plan place (sym there ∙ sym c.plan.ensures ∙ sym both ∙ own) in
    subst (IsRight c.args.self.now) (sym c.in_ok-at.ensures.same) right
