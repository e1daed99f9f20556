-- What a worker makes of a plan.
use Rattle.std.specs.Prelude.{◌≡◌, ℕ, ◌<◌, ◌≤◌, List, Some, false, length, slice_get, true}
use Rattle.cutter.specs.Plans.{SegmentPlan}
use Rattle.segment_job.specs.Rotation.{KeyRotation}
use Rattle.segment_job.specs.Segments.{unsealed_segment, UnsealedSegment}
use Rattle.flow_core.specs.declared.outcome.Outcome.{Outcome}
use Rattle.flow_core.specs.declared.outcome.Outcome.TheVariants as TheOutcome
use Rattle.work_desk.specs.declared.sealing.Asked.{Asked}
use Rattle.work_desk.specs.declared.sealing.Why.{Why}
use Rattle.work_desk.specs.declared.sealing.Why.TheVariants.{Held, NoKeys, NoMemory}

-- a plan that was let through, and its segment under the keys of its rendition, which is to be sealed
pub record IsBegun (lets : ℕ → ℕ → Type 0) (keys : List KeyRotation) (plan : SegmentPlan) (made : UnsealedSegment) : Type 0 where
  pub passed : lets plan.rendition plan.number
  pub own_keys : KeyRotation
  pub stand : slice_get keys plan.rendition ≡ Some own_keys
  pub segment : made ≡ unsealed_segment own_keys plan

-- what a gate answered about a plan: it lets its segment through, or stops it
pub record IsAnswer (lets stops : ℕ → ℕ → Type 0) (plan : SegmentPlan) (asked : Asked) : Type 0 where
  pub lets_through : asked.passes ≡ true → lets plan.rendition plan.number
  pub stops_it : asked.passes ≡ false → stops plan.rendition plan.number

-- Nothing was sealed: what is held was stopped, and all else had been let through. There are no keys of its rendition, or there are.
abbrev pub IsTurnedAway : (lets stops : ℕ → ℕ → Type 0) → List KeyRotation → SegmentPlan → Why → Type 0
IsTurnedAway lets stops keys plan Held = stops plan.rendition plan.number
IsTurnedAway lets stops keys plan NoKeys = lets plan.rendition plan.number × (length keys ≤ plan.rendition)
IsTurnedAway lets stops keys plan NoMemory = lets plan.rendition plan.number × (plan.rendition < length keys)

-- what is handed in of a plan that isn't sealed
abbrev pub outcome_of : Why → Outcome
outcome_of Held = TheOutcome.Held
outcome_of NoKeys = TheOutcome.Refused
outcome_of NoMemory = TheOutcome.Refused
