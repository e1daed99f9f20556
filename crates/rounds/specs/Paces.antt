-- When there is enough for the next round.
use Rattle.std.specs.Prelude.{◌⊎◌, ℕ, Bool, ◌-◌, ◌*◌, ◌<◌, ◌≤◌, ◌==◌, if◌then◌else◌, max, min, nat_le, List, length, sum_by}
use Rattle.ingest.specs.declared.lane.Lane.{Lane}
use Rattle.item_io.specs.Views.{OutletView, SourceView}
use Rattle.rounds.specs.declared.run.course.Course.{Course}
use Rattle.rounds.specs.declared.run.pace.Pace.{Pace}
use Rattle.rounds.specs.declared.run.setup.Setup.{Setup}
use Rattle.rounds.specs.declared.run.pace.TheConstants.{TURNS, TURNS_A_WORKER}
use Rattle.rounds.specs.Courses.{HadOneAtMost, NoneWaits, ReadsMore, ReadsOn, Rests, turns_in}

-- how many plans are closed and not swapped out, over all renditions
abbrev pub closed_in : List Lane → ℕ
closed_in lanes = sum_by (λ (lane : Lane). length lane.intake.filled) lanes

-- After how many turns one closed plan begins the next round: so many for each worker, and never fewer than the least.
abbrev pub enough_turns : ℕ → ℕ
enough_turns workers = max TURNS (TURNS_A_WORKER * workers)

-- the pace for so many workers and rounds of so many segments: where all of the round before is given, one for each worker is enough
abbrev pub pace_of : ℕ → ℕ → Pace
pace_of workers batch = record { least = min batch workers; most = batch; turns = enough_turns workers }

-- the pace of a run that is set up so
abbrev pub pace_in : {G R : Type 0} → Setup G R → Pace
pace_in setup = pace_of setup.workers setup.batch

-- How many closed plans begin the next round: one, once so many turns were had that what was read in them shouldn't grow; before that
-- the lesser number where all of the round before is given, and else the greater.
abbrev pub wanted : Pace → ℕ → ℕ → ℕ
wanted pace awaited turns = if nat_le pace.turns turns then 1 else (if awaited == 0 then pace.least else pace.most)

-- nothing is left to read, or a plan is closed, and so many are
abbrev pub HasEnough : {X Y : Type 0} → ℕ → Course X Y → Type 0
HasEnough least course = Rests course ⊎ ((0 < closed_in course.lanes.items) × (least ≤ closed_in course.lanes.items))

-- What is read is enough for the next round, by how many segments were awaited and how many turns were had meanwhile, or no source
-- that can't tell whether it's ready has turns left.
abbrev pub ReadsEnough : {X Y : Type 0} → (X → Bool) → Pace → ℕ → Course X Y → Course X Y → Type 0
ReadsEnough tells pace awaited old new = HasEnough (wanted pace awaited (turns_in new - turns_in old)) new ⊎ NoneWaits tells new

-- the same, by some number of segments that were awaited when the last was read
abbrev pub ReadsForNext : {X Y : Type 0} → (X → Bool) → Pace → Course X Y → Course X Y → Type 0
ReadsForNext tells pace old new = (awaited : ℕ) × ReadsEnough tells pace awaited old new

-- What is read stops with the turns that make it enough: before them, one of each rendition at the most, there wasn't enough.
pub record StopsSoon {X Y : Type 0} (input : SourceView X) (out : OutletView Y) (pace : Pace) (old new : Course X Y) : Type 0 where
  pub before : Course X Y
  pub reads_on : ReadsOn input out old before
  pub further : ReadsMore old before
  pub few : HasEnough (wanted pace 0 (turns_in before - turns_in old)) before → ⊥
  pub last : (k : ℕ) → HadOneAtMost input k before new
