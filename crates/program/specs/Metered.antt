-- The metrics of a run at one time of it.
use Rattle.std.specs.Prelude.{◌≡◌, ◌⊎◌, ℕ, ◌-◌, List, [], IfSome, IsSome, Option, None, Some, fold, length, map, option_copied, replicate, sum}
use Rattle.std.specs.Arc.{arc_value}
use Rattle.std.specs.List.{range_with_len}
use Rattle.std.specs.String.{string_bytes}
use Rattle.ghost_list.specs.Lists.{IsBeginning}
use Rattle.ladder_items.specs.declared.fault.PackFault.{PackFault}
use Rattle.live_board.specs.Snapshots.{SnapshotFacts}
use Rattle.metrics.specs.Glances.{IsOfTheLast}
use Rattle.metrics.specs.Metrics.{metrics_text}
use Rattle.metrics.specs.Seens.{again_at, unseen}
use Rattle.metrics.specs.Told.{told_at}
use Rattle.metrics.specs.declared.glance.Glance.{Glance}
use Rattle.metrics.specs.declared.known.InputSample.{InputSample}
use Rattle.metrics.specs.declared.known.Known.{Known}
use Rattle.metrics.specs.declared.sample.RunSample.{RunSample}
use Rattle.metrics.specs.declared.seen.Sighting.{Sighting}
use Rattle.read_ahead.specs.Sources.{inputs_of}
use Rattle.read_ahead.specs.declared.view.InputsView.{InputsView}
use Rattle.program.specs.Faulted.{named_in}
use Rattle.program.specs.declared.bulletin.Bulletin.{Bulletin}
use Rattle.program.specs.declared.bulletin.TheConstants.{RENDITIONS}
use Rattle.program.specs.declared.file_answers.Put.{Put}
use Rattle.program.specs.declared.told.Tellings.{Tellings}
use Rattle.program.specs.declared.watching.LastLook.{LastLook}
use Rattle.program.specs.declared.metrics_writer.Writer.{Writer}

-- what was seen of each rendition, once they are seen again with these counts
abbrev pub seen_then : List Sighting → List ℕ → ℕ → List Sighting
seen_then seen counts now = map (again_at seen counts now) (range_with_len 0 (length seen))

-- what was seen was seen again at some time with these counts
abbrev pub IsSeenAgain : List Sighting → List ℕ → List Sighting → Type 0
IsSeenAgain seen counts next = (now : ℕ) × (next ≡ seen_then seen counts now)

-- what was seen stands, or was seen again
abbrev pub IsSeenOn : List Sighting → List ℕ → List Sighting → Type 0
IsSeenOn seen counts next = (next ≡ seen) ⊎ IsSeenAgain seen counts next

-- one sample of each input that a view shows; none where there is no view
abbrev pub AreSamplesOf : Option InputsView → List InputSample → Type 0
AreSamplesOf None inputs = inputs ≡ []
AreSamplesOf (Some view) inputs = length inputs ≡ inputs_of view

-- how a run stands: how many of the segments that are complete aren't shown yet, and how many were removed
abbrev pub run_sample : ℕ → Bulletin → Glance → RunSample
run_sample start told glance = record { start = start; waiting = told.completed - sum glance.counts.items; removed = told.removed }

-- A text is the metrics at this time of a run that began then: of what a board shows of renditions of these names, when they were
-- seen first, how their inputs stand, and by which faults they ended, those that were told and the last one.
pub record IsMetered (names : List (List ℕ)) (start : ℕ) (glance : Glance) (told : Bulletin) (seen : List Sighting) (inputs : List InputSample) (last : Option PackFault) (now : ℕ) (text : List ℕ) : Type 0 where
  pub known : Known
  pub seen_is : known.seen.now ≡ seen
  pub inputs_are : known.inputs.now ≡ inputs
  pub faults_are : map option_copied known.faults.now ≡ named_in (fold named_in (replicate RENDITIONS None) told.faults) last
  pub text_is : text ≡ metrics_text (run_sample start told glance) (map (told_at names glance known now) (range_with_len 0 (length names)))

-- A text is the metrics, at some time of it, of the run that a writer writes of, by what it knew of it before, and after it looked.
pub record IsTextOf (old new : Writer) (glance : Glance) (last : Option PackFault) (text : List ℕ) : Type 0 where
  pub now : ℕ
  pub told : Bulletin
  pub inputs : List InputSample
  pub samples : AreSamplesOf old.inputs inputs
  pub again : new.seen.items ≡ seen_then old.seen.items glance.counts.items now
  pub metered : IsMetered (map string_bytes old.names.items) old.start glance told new.seen.items inputs last now text

-- the writer's file was replaced by such a text
pub record IsFileOf (old new : Writer) (glance : Glance) (last : Option PackFault) (put : Put) : Type 0 where
  pub path_is : put.path.value ≡ old.path
  pub text : IsTextOf old new glance last put.bytes.items

-- it is the writer of the same run
abbrev pub StaysWriter : Writer → Writer → Type 0
StaysWriter old new = new ≡ record old { seen = new.seen; unwritten = new.unwritten }

-- what a writer's file holds last is a text of its run by this last fault, of the last of what a board showed, which begins with this
pub record IsLastFile (begun : Writer) (shown : List SnapshotFacts) (last : Option PackFault) (put : Put) : Type 0 where
  pub old : Writer
  pub new : Writer
  pub list : List SnapshotFacts
  pub glance : Glance
  pub stays : StaysWriter begun old
  pub begins : IsBeginning shown list
  pub is_last : IsOfTheLast list glance
  pub file : IsFileOf old new glance last put

-- what is left of a writer that looked for the last time: it holds such a file, or told that it can't
pub record IsLastLook (begun : Writer) (shown : List SnapshotFacts) (last : Option PackFault) (look : LastLook) : Type 0 where
  pub stays : StaysWriter begun look.writer
  pub put : IfSome look.put (IsLastFile begun shown last)
  pub untold : look.put ≡ None → IsSome look.writer.unwritten

-- a writer of a run that begins: of renditions of these names, to this path, by this view of its inputs and what it tells of itself
pub record IsWriterFor (names : List (List ℕ)) (path : List ℕ) (view : Option InputsView) (tellings : Tellings) (writer : Writer) : Type 0 where
  pub names_are : map string_bytes writer.names.items ≡ names
  pub seen_is : writer.seen.items ≡ replicate (length names) unseen
  pub path_is : string_bytes writer.path ≡ path
  pub inputs_are : writer.inputs ≡ view
  pub told_is : arc_value writer.told ≡ tellings
  pub untold : writer.unwritten ≡ None
