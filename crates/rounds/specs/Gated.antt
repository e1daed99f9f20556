-- What the calling thread asks the gate: nothing is sealed without it, and what it tells of it is the gate's own word.
use Rattle.std.specs.Prelude.{◌≡◌, ◌⊎◌, ℕ, ◌<◌, length, Result, Ok, Err, IsErrOf, MatchResult}
use Rattle.cutter.specs.Plans.{SegmentPlan}
use Rattle.flow_core.specs.declared.feed_fault.Obstacle.{Obstacle}
use Rattle.flow_core.specs.declared.feed_fault.Obstacle.TheVariants.{Full, Closed, Twice, NoMemory as HadNone}
use Rattle.flow_core.specs.Steps.{NotFed}
use Rattle.flow_core.specs.Gatherings.{Gathering, awaited, sequence_at, missing_in}
use Rattle.flow_core.specs.Sequences.{Lacks}
use Rattle.ladder_items.specs.declared.fault.PackFault.{PackFault}
use Rattle.ladder_items.specs.declared.fault.PackFault.TheVariants.{Held, NoMemory}

-- a fault that names a segment as held back is the gate's own word: it stops that segment
abbrev pub IsGatesWord : (stops : ℕ → ℕ → Type 0) → PackFault → Type 0
IsGatesWord stops fault = (r n : ℕ) → fault ≡ Held r n → stops r n

-- a fault that names no segment as held back
abbrev pub IsUnheld : PackFault → Type 0
IsUnheld fault = (r n : ℕ) → fault ≡ Held r n → ⊥

-- this segment is told as held back, and the gate stops it
abbrev pub IsHeldBack : (stops : ℕ → ℕ → Type 0) → PackFault → Type 0
IsHeldBack stops fault = (r n : ℕ) × (fault ≡ Held r n) × stops r n

-- the calling thread sealed a plan that was let through: a collector lacks its segment no more, and fewer than before if it did
pub record SealsOwn (lets : ℕ → ℕ → Type 0) (plan : SegmentPlan) (old new : Gathering) : Type 0 where
  pub passed : lets plan.rendition plan.number
  pub fewer : Lacks (sequence_at old plan.rendition) plan → length (missing_in new.sequences) < length (missing_in old.sequences)
  pub has : Lacks (sequence_at new plan.rendition) plan → ⊥

-- A plan is in good hands: the desk has it, as its receipt says. Or the desk refused it, as its answer says, and it was let through and
-- the collector has its segment.
abbrev pub IsHandedOn : (lets : ℕ → ℕ → Type 0) → SegmentPlan → Gathering → Result SegmentPlan NotFed → Type 0
IsHandedOn lets plan g (Ok fed) = fed ≡ plan
IsHandedOn lets plan g (Err refused) =
    (refused.plan ≡ plan) × lets plan.rendition plan.number × (Lacks (sequence_at g plan.rendition) plan → ⊥)

-- it didn't seal a plan: the plan was held back, as the gate stops it, or was let through, and memory was wanting
abbrev pub IsUnsealed : (lets stops : ℕ → ℕ → Type 0) → SegmentPlan → PackFault → Type 0
IsUnsealed lets stops plan fault =
    (fault ≡ Held plan.rendition plan.number) × stops plan.rendition plan.number ⊎ ((fault ≡ NoMemory) × lets plan.rendition plan.number)

-- it didn't seal some plan whose segment a collector lacks
abbrev pub IsLeft : (lets stops : ℕ → ℕ → Type 0) → Gathering → PackFault → Type 0
IsLeft lets stops g fault = (plan : SegmentPlan) × Lacks (sequence_at g plan.rendition) plan × IsUnsealed lets stops plan fault

-- A fault that names no segment as held back is told where a segment was on its way to the outlet, so that fewer are awaited than before,
-- or where a plan whose segment a collector lacks was let through and not sealed.
abbrev pub IsOwnFault : (lets stops : ℕ → ℕ → Type 0) → Gathering → Gathering → PackFault → Type 0
IsOwnFault lets stops old new fault =
    IsUnheld fault → (awaited new.sequences < awaited old.sequences) ⊎ IsLeft lets stops new fault

-- it sealed a plan that a desk refused, and hands the desk's answer on, or tells why not
abbrev pub SealsOrTells : (lets stops : ℕ → ℕ → Type 0) → SegmentPlan → Gathering → Gathering
    → NotFed → Result (Result SegmentPlan NotFed) PackFault → Type 0
SealsOrTells lets stops plan old new refused result =
    MatchResult result (λ told. (told ≡ Err refused) × SealsOwn lets plan old new) (λ fault. IsUnsealed lets stops plan fault × (new ≡ old))

-- what follows from a desk's refusal: its want of memory is told, and a plan that it refused otherwise is sealed by the calling thread
abbrev pub FollowsRefusal : (lets stops : ℕ → ℕ → Type 0) → SegmentPlan → Gathering → Gathering
    → NotFed → Obstacle → Result (Result SegmentPlan NotFed) PackFault → Type 0
FollowsRefusal lets stops plan old new refused HadNone result = IsErrOf result NoMemory × (new ≡ old)
FollowsRefusal lets stops plan old new refused Full result = SealsOrTells lets stops plan old new refused result
FollowsRefusal lets stops plan old new refused Closed result = SealsOrTells lets stops plan old new refused result
FollowsRefusal lets stops plan old new refused Twice result = SealsOrTells lets stops plan old new refused result

-- what follows from a desk's answer to a plan: one that it took is left to the workers, and the desk's answer is handed on
abbrev pub Follows : (lets stops : ℕ → ℕ → Type 0) → SegmentPlan → Gathering → Gathering
    → Result SegmentPlan NotFed → Result (Result SegmentPlan NotFed) PackFault → Type 0
Follows lets stops plan old new (Ok fed) result = (result ≡ Ok (Ok fed)) × (new ≡ old)
Follows lets stops plan old new (Err refused) result = FollowsRefusal lets stops plan old new refused refused.why result
