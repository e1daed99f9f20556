-- How a run on many threads ends, and what it has shown then.
use Rattle.std.specs.Prelude.{◌≡◌, ◌⊎◌, ℕ, ◌+◌, ◌≤◌, List, [], ◌++◌, false, length, replicate, sum, Option}
use Rattle.live_board.specs.Snapshots.{Known, SnapshotFacts}
use Rattle.live_board.specs.Counts.{counts_shown}
use Rattle.live_board.specs.declared.totals.Totals.{Totals}
use Rattle.ingest.specs.declared.lane.Stop.{Stop}
use Rattle.ladder_items.specs.declared.fault.PackFault.{PackFault}
use Rattle.ladder_items.specs.declared.fault.PackFault.TheVariants.{NoMemory, Settings as SettingsFault}
use Rattle.ladder_items.specs.declared.report.Report.{Report}
use Rattle.ladder_items.specs.Ladder.{Ladder, IsAllowed}
use Rattle.ladder_items.specs.Weave.{none_of}
use Rattle.item_io.specs.Views.{OutletView, SourceView}
use Rattle.ladder_items.specs.Runs.{Run, run_of}
use Rattle.ladder_items.specs.Faults.{Sayings, Says}
use Rattle.ladder_items.specs.Putting.{PutAll}
use Rattle.ladder_items.specs.Packed.{IsPacked, HasHalted}
use Rattle.rounds.specs.Showing.{shown_by}
use Rattle.rounds.specs.declared.run.ran.Ran.{Ran}
use Rattle.rounds.specs.declared.run.setup.Endpoints.{Endpoints}
use Rattle.rounds.specs.Courses.{IsCutShown, Start}
use Rattle.limits.specs.declared.TheConstants.{LEAST, MOST_WORKERS}

-- what no segments are together
abbrev pub no_totals : Totals
no_totals = record { micros = 0; bytes = 0; peak = 0; average = 0 }

-- no rendition has a segment or an end, and no playlist a text
abbrev pub none_shown : ℕ → SnapshotFacts
none_shown n = record { counts = replicate n 0; ended = replicate n false; totals = replicate n no_totals; media = replicate n []; frames = replicate n []; master = [] }

-- 1 to 64 workers, and the publisher shows as many renditions as the settings have, of which none has a segment
abbrev pub FitsThreads : Ladder → ℕ → List ℕ → Type 0
FitsThreads ladder workers counts = (LEAST ≤ workers) × (workers ≤ MOST_WORKERS) × (counts ≡ replicate (length ladder.renditions) 0)

-- besides, the settings are allowed, and there are as many inputs as renditions
abbrev pub Fits : Ladder → ℕ → ℕ → List ℕ → Type 0
Fits ladder inputs workers counts =
    IsAllowed ladder × (inputs ≡ length ladder.renditions) × FitsThreads ladder workers counts

-- The run ended well. Behind each segment and each end one snapshot was shown, that of its moment, and no other. All that the
-- workers claimed and the calling thread sealed was given, or thrown away; what the calling thread sealed was given.
pub record IsPackedShown {X Y : Type 0} (run : Run X Y) (ladder : Ladder) (workers : ℕ) (old new : List SnapshotFacts) (report : Report) : Type 0 where
  pub packed : IsPacked run ladder report
  pub shown : new ≡ old ++ shown_by ladder (none_of ladder) packed.weave.events
  pub each : length report.workers.items ≡ workers
  pub total : sum report.workers.items + report.own ≡ sum report.counts.items + report.thrown
  pub own : report.own ≤ sum report.counts.items

-- Each rendition went to its end, rendition r to this one: behind each segment and each end one snapshot was shown.
pub record IsHaltedShown {X Y : Type 0} (run : Run X Y) (ladder : Ladder) (r : ℕ) (stop : Option Stop) (old new : List SnapshotFacts) : Type 0 where
  pub halted : HasHalted run ladder r stop
  pub shown : new ≡ old ++ shown_by ladder (none_of ladder) halted.weave.events

-- nothing was read, put or shown, since the run doesn't fit
pub record IsUnfit {X Y : Type 0} (run : Run X Y) (ladder : Ladder) (workers : ℕ) (old new : List SnapshotFacts) : Type 0 where
  pub unfit : Fits ladder (length run.before) workers (counts_shown old) → ⊥
  pub unread : run.now ≡ run.before
  pub unput : PutAll run.out run.outlet run.outlet_now []
  pub unshown : new ≡ old

-- what each fault says of a run, and of what it has shown
abbrev pub of_shown : {X Y : Type 0} → Run X Y → Ladder → ℕ → List SnapshotFacts → List SnapshotFacts → Sayings
of_shown run ladder workers old new = record {
  refused = IsUnfit run ladder workers old new;
  halted = λ r stop. IsHaltedShown run ladder r stop old new;
  unput = IsCutShown run ladder old new × (run.out.failures run.outlet_now ≡ run.out.failures run.outlet + 1);
  wanting = IsCutShown run ladder old new × (run.out.failures run.outlet_now ≡ run.out.failures run.outlet);
  held = λ r n. IsCutShown run ladder old new × (run.out.failures run.outlet_now ≡ run.out.failures run.outlet);
}

abbrev pub FaultSaysShown : {X Y : Type 0} → Run X Y → Ladder → ℕ → List SnapshotFacts → List SnapshotFacts → PackFault → Type 0
FaultSaysShown run ladder workers old new fault = Says (of_shown run ladder workers old new) fault

-- A run that doesn't fit reads, puts and shows nothing, and Settings is told.
abbrev pub IsTurnedAway : {X Y : Type 0} → Run X Y → Ladder → ℕ → List SnapshotFacts → List SnapshotFacts → PackFault → Type 0
IsTurnedAway run ladder workers old new fault =
    (Fits ladder (length run.before) workers (counts_shown old) → ⊥) → (fault ≡ SettingsFault)
    × (run.now ≡ run.before) × PutAll run.out run.outlet run.outlet_now [] × (new ≡ old)

-- where a run begins that gets these inputs, this outlet and this publisher, and may read an input so often
abbrev pub start_of : {X Y : Type 0} → List X → Y → Known → ℕ → Start X Y
start_of sources outlet shows reads = record { sources = sources; outlet = outlet; shows = shows; reads = reads }

-- where a run begins that gets these endpoints
abbrev pub start_at : {X Y : Type 0} → Endpoints X Y → Start X Y
start_at ends = start_of ends.sources.items ends.outlet ends.publisher ends.reads

-- a run, from where it began to what it gave back
abbrev pub run_to : {X Y : Type 0} → SourceView X → OutletView Y → Start X Y → Ran X Y → Run X Y
run_to input out start ran = run_of input out start.reads start.sources ran.sources.items start.outlet ran.outlet

-- the settings, the inputs and the publisher of a run fit, and it has 1 to 64 workers
abbrev pub FitsStart : {X Y : Type 0} → Ladder → ℕ → Start X Y → Type 0
FitsStart ladder workers start = Fits ladder (length start.sources) workers (counts_shown start.shows.list)

-- the run ended well
abbrev pub EndsPacked : {X Y : Type 0} → SourceView X → OutletView Y → Ladder → ℕ → Start X Y → Ran X Y → Report → Type 0
EndsPacked input out ladder workers start ran report = IsPackedShown (run_to input out start ran) ladder workers start.shows.list ran.publisher.list report

-- it ended by a fault
abbrev pub EndsFaulted : {X Y : Type 0} → SourceView X → OutletView Y → Ladder → ℕ → Start X Y → Ran X Y → PackFault → Type 0
EndsFaulted input out ladder workers start ran fault = FaultSaysShown (run_to input out start ran) ladder workers start.shows.list ran.publisher.list fault

-- where it doesn't fit, it was turned away
abbrev pub EndsAway : {X Y : Type 0} → SourceView X → OutletView Y → Ladder → ℕ → Start X Y → Ran X Y → PackFault → Type 0
EndsAway input out ladder workers start ran fault = IsTurnedAway (run_to input out start ran) ladder workers start.shows.list ran.publisher.list fault

-- why a run isn't begun: it doesn't fit, or memory is wanting though workers and publisher fit
abbrev pub IsUnbegun : Ladder → ℕ → ℕ → List ℕ → PackFault → Type 0
IsUnbegun ladder inputs workers counts fault =
    (fault ≡ SettingsFault) × (Fits ladder inputs workers counts → ⊥) ⊎ ((fault ≡ NoMemory) × Fits ladder inputs workers counts)
