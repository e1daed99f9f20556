-- Segments that no playlist lists any more, and how long they are kept (RFC 8216, 6.2.2).
use Rattle.std.specs.Prelude.{◌≡◌, ℕ, ◌+◌, ◌<◌, ◌≤◌, ◌⊎◌, List, length, take, drop, sum_by, get_or}
use Rattle.retention.specs.declared.step.Step.{Step}

abbrev pub no_step : Step
no_step = record { micros = 0; first = 0 }

-- how long some segments last together, in microseconds
abbrev pub time : List Step → ℕ
time steps = sum_by (λ step. step.micros) steps

abbrev pub step_at : List Step → ℕ → Step
step_at steps i = get_or steps i no_step

-- the place of the first segment that playlist i lists; it lists those from there to segment i
abbrev pub first_of : List Step → ℕ → ℕ
first_of steps i = (step_at steps i).first

-- how long segment n lasts
abbrev pub micros_of : List Step → ℕ → ℕ
micros_of steps n = (step_at steps n).micros

-- how long playlist i lasts
abbrev pub lasts : List Step → ℕ → ℕ
lasts steps i = time (drop (first_of steps i) (take (i + 1) steps))

-- how long ago playlist i came, in the stream's own time
abbrev pub since : List Step → ℕ → ℕ
since steps i = time (drop (i + 1) steps)

-- each playlist lists the last segment, and none lists a segment again that an earlier one had dropped
pub record AreSteps (steps : List Step) : Type 0 where
  pub listed : (i : ℕ) → i < length steps → first_of steps i ≤ i
  pub rises : (i j : ℕ) → i ≤ j → j < length steps → first_of steps i ≤ first_of steps j

-- Segment n may go: a playlist came that doesn't list it, and since then there passed the segment's own duration together with that of
-- any playlist before, and with the least time.
pub record MayGo (least : ℕ) (steps : List Step) (n : ℕ) : Type 0 where
  pub at : ℕ
  pub within : at < length steps
  pub out : n < first_of steps at
  pub short : micros_of steps n + least ≤ since steps at
  pub long : (i : ℕ) → i < at → micros_of steps n + lasts steps i ≤ since steps at

-- segments are kept from place j on: all before it may go, and the one there may not
pub record IsKeptFrom (least : ℕ) (steps : List Step) (j : ℕ) : Type 0 where
  pub gone : (n : ℕ) → n < j → MayGo least steps n
  pub kept : MayGo least steps j → ⊥

-- For its own duration and that of the longest playlist that ever listed it, no playlist has listed segment n.
pub record IsLongOut (steps : List Step) (n : ℕ) : Type 0 where
  pub at : ℕ
  pub within : at < length steps
  pub out : (i : ℕ) → at ≤ i → i < length steps → n < first_of steps i
  pub long : (i : ℕ) → i < length steps → first_of steps i ≤ n → micros_of steps n + lasts steps i ≤ since steps at

-- how long the longest playlist lasts, or the least time where that is longer
pub record IsLongest (least : ℕ) (steps : List Step) (most : ℕ) : Type 0 where
  pub at_least : least ≤ most
  pub all : (i : ℕ) → i < length steps → lasts steps i ≤ most
  pub some : (most ≡ least) ⊎ ((i : ℕ) × (i < length steps) × (lasts steps i ≡ most))

-- what a retention stands for: the least time that a segment is kept beyond its own duration, in microseconds, and all steps
pub record Kept : Type 0 where
  pub least : ℕ
  pub steps : List Step
