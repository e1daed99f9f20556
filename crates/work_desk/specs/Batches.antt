-- What a worker begins.
use Rattle.std.specs.Prelude.{◌≡◌, ℕ, Option, None, Some, Result, Ok, Err}
use Rattle.std.specs.declared.io.traits.Write.{Ghosts}
use Rattle.cutter.specs.Plans.{SegmentPlan}
use Rattle.work_desk.specs.declared.sealing.Begun.{Begun}
use Rattle.work_desk.specs.declared.desk.Job.{Job}
use Rattle.work_desk.specs.declared.desk.Jobs.{Jobs}
use Rattle.work_desk.specs.declared.worker.Batch.{Batch}
use Rattle.work_desk.specs.Waiting.{Sight}

-- where a plan was begun, it was let through, and it's one of those that may be fed
abbrev pub IsLetThrough : {F : Type 0} {w : Ghosts F} → (ℕ → ℕ → Type 0) → (SegmentPlan → Type 0) → Option (Begun F w) → Type 0
IsLetThrough lets plans None = Unit {0}
IsLetThrough lets plans (Some begun) = lets begun.claim.plan.rendition begun.claim.plan.number × plans begun.claim.plan

-- so was each of a batch
pub record AreLetThrough {F : Type 0} {w : Ghosts F} (lets : ℕ → ℕ → Type 0) (plans : SegmentPlan → Type 0) (batch : Batch F w) : Type 0 where
  pub one : IsLetThrough lets plans batch.first
  pub two : IsLetThrough lets plans batch.second
  pub three : IsLetThrough lets plans batch.third
  pub four : IsLetThrough lets plans batch.fourth

-- a job that was claimed beside the first, if any was, is of a plan that may be fed
abbrev pub IsBesidePlanned : (SegmentPlan → Type 0) → Option (Result Job Sight) → Type 0
IsBesidePlanned plans None = Unit {0}
IsBesidePlanned plans (Some (Ok job)) = plans job.claim.plan
IsBesidePlanned plans (Some (Err seen)) = Unit {0}

-- each of a worker's jobs is of a plan that may be fed
pub record AreJobsPlanned (plans : SegmentPlan → Type 0) (jobs : Jobs) : Type 0 where
  pub one : plans jobs.job.claim.plan
  pub other : IsBesidePlanned plans jobs.beside

-- how many jobs were claimed beside the first
abbrev pub claims_in : Option (Result Job Sight) → ℕ
claims_in None = 0
claims_in (Some (Ok job)) = 1
claims_in (Some (Err seen)) = 0

-- a worker claimed one beside the first, unless none waited
abbrev pub IsPair : ℕ → Option (Result Job Sight) → Type 0
IsPair worker None = ⊥
IsPair worker (Some (Ok job)) = job.claim.worker ≡ worker
IsPair worker (Some (Err seen)) = seen.waiting ≡ 0
