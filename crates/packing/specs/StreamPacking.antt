-- What `one` read and wrote.
use Rattle.std.specs.Prelude.{◌≡◌, ℕ, List, [], ◌∷◌, ◌++◌, ◌⊎◌, length, Option, Some, None}
use Rattle.std.specs.Io.KnownBytes.{Consumes, IsAtEnd, Appends}
use Rattle.item_io.specs.Items.{ItemValue}
use Rattle.item_io.specs.ItemLines.{lines_of, WritesUpTo}
use Rattle.ladder_items.specs.declared.fault.PackFault.{PackFault}
use Rattle.ingest.specs.declared.lane.Stop.{Stop}
use Rattle.ingest.specs.declared.lane.Stop.TheVariants.{Good, Cut, Read as ReadFailed}
use Rattle.ladder_items.specs.Ladder.{Ladder, IsAllowed}
use Rattle.ladder_items.specs.Items.{Part, part_at}
use Rattle.ladder_items.specs.Weave.{Weaves}
use Rattle.ladder_items.specs.Lanes.{IsWhole, HasGiven, HasBegun}
use Rattle.ladder_items.specs.Faults.{Sayings, Says}
use Rattle.ingest.specs.Streams.{Stays, as_cut}
use Rattle.commands.specs.Streams.{ReadsAll}
use Rattle.item_io.specs.declared.limits.TheConstants.{READS}

-- All that the reader gave was packed, and the writer got the lines of all segments and playlists.
pub record WritesPacked (ladder : Ladder) (left left_then held held_then : Option (List ℕ)) : Type 0 where
  pub stream : List ℕ
  pub parts : List Part
  pub items : List ItemValue
  pub read : ReadsAll left left_then stream
  pub whole : IsWhole ladder 0 stream (part_at parts 0)
  pub weave : Weaves ladder parts items
  pub written : Appends held held_then (lines_of items)

-- where a stream's fault is told, the reader came to its end, or the fault stands however the stream goes on
abbrev pub FaultStands : Option Stop → Ladder → List ℕ → Option (List ℕ) → Type 0
FaultStands None ladder stream left_then = Unit {0}
FaultStands (Some (Good gone)) ladder stream left_then = IsAtEnd left_then
FaultStands (Some (Cut told)) ladder stream left_then = IsAtEnd left_then ⊎ Stays 0 ladder.cut stream (as_cut told)
FaultStands (Some ReadFailed) ladder stream left_then = Unit {0}

-- The stream stopped this way, and the writer got the lines of all that comes before.
pub record StopsPacking (ladder : Ladder) (left left_then held held_then : Option (List ℕ)) (stop : Option Stop) : Type 0 where
  pub stream : List ℕ
  pub parts : List Part
  pub items : List ItemValue
  pub consumed : Consumes left left_then stream
  pub stands : FaultStands stop ladder stream left_then
  pub given : HasGiven stop ladder 0 stream (part_at parts 0)
  pub weave : Weaves ladder parts items
  pub written : Appends held held_then (lines_of items)

-- The work was cut off behind the items given: with the rest they are what a prefix of the stream gives.
pub record CutsPackingOff (ladder : Ladder) (left left_then : Option (List ℕ)) (given rest : List ItemValue) : Type 0 where
  pub stream : List ℕ
  pub parts : List Part
  pub consumed : Consumes left left_then stream
  pub begun : HasBegun ladder 0 left_then stream (part_at parts 0)
  pub weave : Weaves ladder parts (given ++ rest)

-- For want of memory: the writer got the lines of these items, and nothing else.
pub record WantsMemory (ladder : Ladder) (left left_then held held_then : Option (List ℕ)) : Type 0 where
  pub given : List ItemValue
  pub rest : List ItemValue
  pub cut : CutsPackingOff ladder left left_then given rest
  pub written : Appends held held_then (lines_of given)

-- At a put that failed: the writer got the lines of these items, and a prefix of the lines of the next one.
pub record FailsToPut (ladder : Ladder) (left left_then held held_then : Option (List ℕ)) : Type 0 where
  pub given : List ItemValue
  pub next : ItemValue
  pub more : List ItemValue
  pub cut : CutsPackingOff ladder left left_then given (next ∷ more)
  pub written : WritesUpTo held held_then given next

-- Nothing was read or written, since the settings aren't allowed or aren't those of one rendition.
pub record RefusesSettings (ladder : Ladder) (left left_then held held_then : Option (List ℕ)) : Type 0 where
  pub refused : (IsAllowed ladder × (length ladder.renditions ≡ 1)) → ⊥
  pub unread : left_then ≡ left
  pub unwritten : Appends held held_then []

-- what each fault of the one rendition says
abbrev pub of_one : Ladder → Option (List ℕ) → Option (List ℕ) → Option (List ℕ) → Option (List ℕ) → Sayings
of_one ladder left left_then held held_then = record {
  refused = RefusesSettings ladder left left_then held held_then;
  halted = λ r stop. (r ≡ 0) × StopsPacking ladder left left_then held held_then stop;
  unput = FailsToPut ladder left left_then held held_then;
  wanting = WantsMemory ladder left left_then held held_then;
  held = λ r n. ⊥;
}

abbrev pub PackingSays : Ladder → Option (List ℕ) → Option (List ℕ) → Option (List ℕ) → Option (List ℕ) → PackFault → Type 0
PackingSays ladder left left_then held held_then fault = Says (of_one ladder left left_then held held_then) fault

-- no read failed, and no put
pub record NoneFailed (failed_reads failed_puts : ℕ) : Type 0 where
  pub reads : failed_reads ≡ 0
  pub puts : failed_puts ≡ 0

-- what the way in which a stream stopped says of how many reads gave bytes, and how many reads and puts failed
abbrev pub StopCounts : Option Stop → ℕ → ℕ → ℕ → Type 0
StopCounts None reads failed_reads failed_puts = (reads ≡ READS) × NoneFailed failed_reads failed_puts
StopCounts (Some (Good gone)) reads failed_reads failed_puts = NoneFailed failed_reads failed_puts
StopCounts (Some (Cut told)) reads failed_reads failed_puts = NoneFailed failed_reads failed_puts
StopCounts (Some ReadFailed) reads failed_reads failed_puts = (failed_reads ≡ 1) × (failed_puts ≡ 0)

-- what each fault says of them
abbrev pub of_counts : ℕ → ℕ → ℕ → Sayings
of_counts reads failed_reads failed_puts = record {
  refused = (reads ≡ 0) × NoneFailed failed_reads failed_puts;
  halted = λ r stop. StopCounts stop reads failed_reads failed_puts;
  unput = (failed_reads ≡ 0) × (failed_puts ≡ 1);
  wanting = NoneFailed failed_reads failed_puts;
  held = λ r n. ⊥;
}

abbrev pub CountsSay : ℕ → ℕ → ℕ → PackFault → Type 0
CountsSay reads failed_reads failed_puts fault = Says (of_counts reads failed_reads failed_puts) fault
