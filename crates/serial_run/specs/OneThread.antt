-- What is true of a run on one thread alone.
use Rattle.std.specs.Prelude.{◌≡◌, ◌≢◌, ◌⊎◌, ℕ, ◌<◌, ◌≤◌, true, false, List, [], ◌++◌, length, Option, Some, None, slice_get}
use Rattle.std.specs.Io.KnownBytes.{IsAtEnd}
use Rattle.item_io.specs.Items.{ItemValue}
use Rattle.ingest.specs.declared.lane.Stop.{Stop}
use Rattle.ladder_items.specs.Ladder.{Ladder}
use Rattle.ladder_items.specs.Items.{part_at}
use Rattle.ladder_items.specs.Weave.{Event, AreLegal, after_all, blocks, none_of}
use Rattle.ingest.specs.declared.lane.Lane.{Lane}
use Rattle.ingest.specs.Inputs.{BringsWant, IsCutOff}
use Rattle.ingest.specs.Lanes.{StopsBy, IsTurned, is_good, made_of}
use Rattle.ingest.specs.Streams.{Taken, closed_of, fault_of}
use Rattle.item_io.specs.Views.{SourceView}
use Rattle.ladder_items.specs.Shown.{Shown}
use Rattle.ladder_items.specs.Runs.{Run, run_of}
use Rattle.ladder_items.specs.World.{NothingDue, stream_at, turns_of}
use Rattle.ladder_items.specs.Lanes.{HasGiven}
use Rattle.ladder_items.specs.Packed.{IsCutShort}
use Rattle.item_io.specs.declared.limits.TheConstants.{PIECE}
use Rattle.serial_run.specs.Dues.{due}
use Rattle.serial_run.specs.Leaving.{AreLeftAtStops, IsLeftAtStop}

-- A run that was stopped in a turn of rendition r: before that turn each rendition had given all that its bytes close, or
-- had stopped, and in the turn one read was made, of r alone.
pub record StopsAtOnce (ladder : Ladder) (r : ℕ) (streams : List (List ℕ)) (given : List ItemValue) : Type 0 where
  pub earlier : List (List ℕ)
  pub events : List Event
  pub legal : AreLegal (none_of ladder) events
  pub given_before : (rest : List ItemValue) × (given ≡ blocks ladder (none_of ladder) events ++ rest)
  pub each : (k : ℕ) → k < length ladder.renditions → (stop : Option Stop) × HasGiven stop ladder k (stream_at earlier k) (part_at (after_all (none_of ladder) events) k)
  pub piece : (more : List ℕ) × (length more ≤ PIECE) × (stream_at streams r ≡ stream_at earlier r ++ more)
  pub others : (k : ℕ) → (k ≡ r → ⊥) → stream_at streams k ≡ stream_at earlier k

-- Nothing was read or put.
pub record IsUnbegun {X Y : Type 0} (run : Run X Y) : Type 0 where
  pub unread : run.now ≡ run.before
  pub unput : run.outlet_now ≡ run.outlet

-- Something of rendition r was due once this piece came behind these bytes: it closed a segment more, or came to its good end.
pub record WasDue {X : Type 0} (input : SourceView X) (now : X) (ladder : Ladder) (r : ℕ) (stream piece : List ℕ) : Type 0 where
  pub stop : Option Stop
  pub stops : StopsBy stop r ladder.cut (stream ++ piece)
  pub good : is_good stop ≡ true → IsAtEnd (input.left now)
  pub some : ¬ ((made_of stop r ladder.cut (stream ++ piece) ≡ closed_of r ladder.cut stream) × (is_good stop ≡ false))

-- a rendition that went on, behind these bytes
abbrev pub taken_behind : Ladder → ℕ → List ℕ → Taken
taken_behind ladder r stream = record { rendition = r; settings = ladder.cut; stream = stream; ended = false; turned = closed_of r ladder.cut stream; filled = [] }

-- each rendition came to its good end
abbrev pub HaveAllEnded : {X Y : Type 0} → Run X Y → Ladder → List (List ℕ) → Type 0
HaveAllEnded {X} run ladder streams =
    (k : ℕ) → k < length ladder.renditions → (fault_of k ladder.cut (stream_at streams k) ≡ None)
    × ((b : X) → slice_get run.now k ≡ Some b → IsAtEnd (run.input.left b))

-- Why a run on one thread stops at once in a turn of rendition r, in which it read this piece: what was read may want memory, or something
-- of the rendition was due. Else memory may be wanted before the first turn alone, and for the report of renditions that all came to their
-- good ends.
abbrev pub StopsFor : {X Y : Type 0} → Run X Y → Ladder → ℕ → List (List ℕ) → List (List ℕ) → List ℕ → Type 0
StopsFor {X} run ladder r earlier streams piece =
    ((now : X) × (slice_get run.now r ≡ Some now)
    × (BringsWant run.input now (taken_behind ladder r (stream_at earlier r)) piece ⊎ WasDue run.input now ladder r (stream_at earlier r) piece))
    ⊎ (IsUnbegun run ⊎ HaveAllEnded run ladder streams)

-- The run was stopped at once: the items put are a prefix of a weave of prefixes, and nothing was read behind them. No read of
-- the rendition in whose turn it was stopped had failed: that is told itself.
pub record IsCutAtOnce {X Y : Type 0} (run : Run X Y) (ladder : Ladder) : Type 0 where
  pub cut : IsCutShort run ladder
  pub in_turn : ℕ
  pub within : (a : X) × (slice_get run.before in_turn ≡ Some a)
  pub at_once : StopsAtOnce ladder in_turn cut.streams cut.some.given
  pub why : StopsFor run ladder in_turn at_once.earlier cut.streams at_once.piece.0
  pub unfailed : (a b : X) → slice_get run.before in_turn ≡ Some a → slice_get run.now in_turn ≡ Some b → run.input.failures b ≡ run.input.failures a

-- Why a turn of rendition r stops a run: what its read brought may want memory, or something was due behind it. Its source is left
-- only where the rendition stopped.
abbrev pub StopsIn : {X : Type 0} → SourceView X → ℕ → X → X → Lane → Type 0
StopsIn input r old new lane =
    (IsCutOff input old new lane.intake × (input.is_left new ≡ false))
    ⊎ ((turned : Lane) × IsTurned input old new lane turned × IsLeftAtStop input turned.stop old new × (due r turned ≢ []))

-- A run was stopped in a turn of one rendition: until then all had their turns in order, round by round, and nothing that was due was
-- left; no other was read since, and in that turn memory may have been wanted, or something was due.
pub record StopsInOrder {X Y : Type 0} (run : Run X Y) (ladder : Ladder) : Type 0 where
  pub rounds : ℕ
  pub in_turn : ℕ
  pub few : rounds < run.most_reads
  pub earlier : List X
  pub put : Y
  pub lanes : List Lane
  pub shown : List Shown
  pub due : NothingDue (run_of run.input run.out run.most_reads run.before earlier run.outlet put) ladder (turns_of rounds in_turn) lanes shown
  pub left : AreLeftAtStops run.input run.before earlier lanes
  pub others : (k : ℕ) → (k ≡ in_turn → ⊥) → slice_get run.now k ≡ slice_get earlier k
  pub old : X
  pub old_there : slice_get earlier in_turn ≡ Some old
  pub new : X
  pub new_there : slice_get run.now in_turn ≡ Some new
  pub lane : Lane
  pub lane_there : slice_get lanes in_turn ≡ Some lane
  pub why : StopsIn run.input in_turn old new lane
