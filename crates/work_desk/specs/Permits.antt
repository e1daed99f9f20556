-- What may be sealed.
use Rattle.std.specs.Prelude.{◌≡◌, ℕ, List, All}
use Rattle.cutter.specs.Plans.{SegmentPlan}
use Rattle.flow_core.specs.declared.outcome.Outcome.{Outcome}
use Rattle.flow_core.specs.declared.outcome.Outcome.TheVariants.{Sealed, Refused, Held}
use Rattle.flow_core.specs.declared.outcome.Finished.{Finished}
use Rattle.flow_core.specs.Queues.{Claimed, QueueValue}

-- a gate lets through only what may be sealed
abbrev pub LetsOnly : (lets permits : ℕ → ℕ → Type 0) → Type 0
LetsOnly lets permits = (r n : ℕ) → lets r n → permits r n

-- what became of a plan isn't a segment that may not be sealed
abbrev pub IsPermitted : (ℕ → ℕ → Type 0) → Outcome → Type 0
IsPermitted permits (Sealed segment) = permits segment.plan.rendition segment.plan.number
IsPermitted permits Refused = Unit {0}
IsPermitted permits Held = Unit {0}

-- nor is any of these
abbrev pub ArePermitted : (ℕ → ℕ → Type 0) → List Finished → Type 0
ArePermitted permits done = All (λ (finished : Finished). IsPermitted permits finished.outcome) done

-- what became of a plan isn't the segment of another plan than those that may be fed
abbrev pub IsPlanned : (SegmentPlan → Type 0) → Outcome → Type 0
IsPlanned plans (Sealed segment) = plans segment.plan
IsPlanned plans Refused = Unit {0}
IsPlanned plans Held = Unit {0}

-- each plan that waits, is claimed or is done may be fed
pub record ArePlanned (plans : SegmentPlan → Type 0) (q : QueueValue) : Type 0 where
  pub waiting : All plans q.waiting
  pub claimed : All (λ (claim : Claimed). plans claim.plan) q.claimed
  pub done : All (λ (finished : Finished). plans finished.plan) q.done

-- a plan is known by its rendition and its number: no two that may be fed have the same
abbrev pub AreKnownByNumber : (SegmentPlan → Type 0) → Type 0
AreKnownByNumber plans = (a b : SegmentPlan) → plans a → plans b → a.rendition ≡ b.rendition → a.number ≡ b.number → a ≡ b
