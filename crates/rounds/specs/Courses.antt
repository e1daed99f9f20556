-- A run under way on many threads.
use Rattle.std.specs.Prelude.{◌≡◌, ◌≢◌, ◌⊎◌, ℕ, ◌+◌, ◌<◌, ◌≤◌, ◌^◌, List, [], ◌∷◌, ◌++◌, All, length, sum, Option, None, Some, slice_get, slice_set, slice_index_or, Bool, true, false}
use Rattle.cutter.specs.Plans.{SegmentPlan}
use Rattle.item_io.specs.Items.{ItemValue}
use Rattle.live_board.specs.Snapshots.{SnapshotFacts, Known}
use Rattle.live_board.specs.Counts.{counts_shown}
use Rattle.item_io.specs.Views.{Leaves, OutletView, SourceView}
use Rattle.ingest.specs.declared.lane.Lane.{Lane}
use Rattle.ingest.specs.declared.lane.Stop.{Stop}
use Rattle.ingest.specs.Lanes.{is_good, IsTurned}
use Rattle.ladder_items.specs.declared.fault.PackFault.{PackFault}
use Rattle.ladder_items.specs.declared.fault.PackFault.TheVariants.{NoMemory}
use Rattle.ladder_items.specs.Ladder.{Ladder, IsAllowed}
use Rattle.ladder_items.specs.Items.{Part, shown_all}
use Rattle.ladder_items.specs.Giving.{IsGoing, IsNext}
use Rattle.ladder_items.specs.Weave.{End, Event, Row, after, after_all, block, blocks, none_of}
use Rattle.ladder_items.specs.Faults.{Sayings, Says}
use Rattle.ladder_items.specs.Putting.{PutAll, PutSome, of_failures}
use Rattle.ladder_items.specs.Runs.{Run, run_of}
use Rattle.ladder_items.specs.World.{World, HaveRoom}
use Rattle.ladder_items.specs.Packed.{IsCutShort}
use Rattle.rounds.specs.declared.giving.broadcast.Broadcast.{Broadcast}
use Rattle.rounds.specs.declared.run.course.Course.{Course}
use Rattle.rounds.specs.Showing.{snapshot_of, shown_by, counts_of, ends_of}
use Rattle.item_io.specs.declared.limits.TheConstants.{READS}

-- a segment or an end was given after these parts, and a snapshot published
pub record Gave {X Y : Type 0} (out : OutletView Y) (ladder : Ladder) (parts : List Part) (e : Event) (old new : Course X Y) (list list_now : List SnapshotFacts) : Type 0 where
  pub puts : PutAll out old.outlet new.outlet (block ladder parts e)
  pub shown : new.playlists.items ≡ shown_all ladder (after parts e)
  pub ends : new.ended.items ≡ ends_of (after parts e)
  pub shows : list_now ≡ list ++ snapshot_of ladder (after parts e) ∷ []

-- its items were put in part, or no snapshot was published
pub record GaveSome {X Y : Type 0} (out : OutletView Y) (ladder : Ladder) (parts : List Part) (e : Event) (old new : Course X Y) (list list_now : List SnapshotFacts) : Type 0 where
  pub some : PutSome out old.outlet new.outlet (block ladder parts e)
  pub unshown : list_now ≡ list

-- the same, of a run and its publisher
abbrev pub Gives : {X Y R : Type 0} → OutletView Y → Ladder → List Part → Event → Broadcast X Y R → Broadcast X Y R → Type 0
Gives out ladder parts e old new = Gave out ladder parts e old.course new.course old.held.publisher.list new.held.publisher.list

-- the same, where it was given in part
abbrev pub GivesSome : {X Y R : Type 0} → OutletView Y → Ladder → List Part → Event → Broadcast X Y R → Broadcast X Y R → Type 0
GivesSome out ladder parts e old new = GaveSome out ladder parts e old.course new.course old.held.publisher.list new.held.publisher.list

-- this plan is the next of rendition r behind some parts, of which the ended ones are noted
abbrev pub IsNextOf : {X Y : Type 0} → Ladder → ℕ → SegmentPlan → Course X Y → Type 0
IsNextOf ladder r plan course = (parts : List Part) × IsNext ladder r parts course.playlists.items plan × (course.ended.items ≡ ends_of parts)

-- rendition r goes on behind some parts, of which the ended ones are noted
abbrev pub GoesOn : {X Y : Type 0} → Ladder → ℕ → Course X Y → Type 0
GoesOn ladder r course = (parts : List Part) × IsGoing ladder r parts course.playlists.items × (course.ended.items ≡ ends_of parts)

-- behind all parts that a segment is next to, it was given and published
abbrev pub GivesNext : {X Y R : Type 0} → OutletView Y → Ladder → ℕ → SegmentPlan → Broadcast X Y R → Broadcast X Y R → Type 0
GivesNext out ladder r plan old new =
    (parts : List Part) → IsNext ladder r parts old.course.playlists.items plan → old.course.ended.items ≡ ends_of parts → Gives out ladder parts (Row r plan) old new

-- and in part
abbrev pub GivesNextInPart : {X Y R : Type 0} → OutletView Y → Ladder → ℕ → SegmentPlan → Broadcast X Y R → Broadcast X Y R → Type 0
GivesNextInPart out ladder r plan old new =
    (parts : List Part) → IsNext ladder r parts old.course.playlists.items plan → GivesSome out ladder parts (Row r plan) old new

-- behind all parts that rendition r goes on behind, its end was given and published
abbrev pub GivesItsEnd : {X Y R : Type 0} → OutletView Y → Ladder → ℕ → Broadcast X Y R → Broadcast X Y R → Type 0
GivesItsEnd out ladder r old new =
    (parts : List Part) → IsGoing ladder r parts old.course.playlists.items → old.course.ended.items ≡ ends_of parts → Gives out ladder parts (End r) old new

-- and in part
abbrev pub GivesItsEndInPart : {X Y R : Type 0} → OutletView Y → Ladder → ℕ → Broadcast X Y R → Broadcast X Y R → Type 0
GivesItsEndInPart out ladder r old new =
    (parts : List Part) → IsGoing ladder r parts old.course.playlists.items → GivesSome out ladder parts (End r) old new

-- nothing was read
pub record ReadsNone {X Y : Type 0} (old new : Course X Y) : Type 0 where
  pub sources : new.sources ≡ old.sources
  pub lanes : new.lanes ≡ old.lanes
  pub turns : new.turns ≡ old.turns
  pub reads : new.reads ≡ old.reads

-- where a run began: its inputs, its outlet, what its publisher had shown, and how many reads of an input may give a byte
pub record Start (X Y : Type 0) : Type 0 where
  pub sources : List X
  pub outlet : Y
  pub shows : Known
  pub reads : ℕ

-- how many turns rendition k had
abbrev pub turns_at : {X Y : Type 0} → Course X Y → ℕ → ℕ
turns_at course k = slice_index_or course.turns.items k 0

-- A rendition that stopped so, or goes on, had so many turns of at most so many. Its source was left where no turn follows, and wasn't
-- left since its last read where one does.
pub record IsLeftInTime {X : Type 0} (input : SourceView X) (reads turns : ℕ) (stop : Option Stop) (source : X) : Type 0 where
  pub stops : stop ≢ None → input.is_left source ≡ true
  pub rests : reads ≤ turns → input.is_left source ≡ true
  pub goes_on : stop ≡ None → 0 < turns → turns < reads → input.is_left source ≡ false

-- each source was left in time
abbrev pub AreLeftInTime : {X Y : Type 0} → SourceView X → Course X Y → Type 0
AreLeftInTime {X} input course =
    (k : ℕ) (lane : Lane) (source : X) → slice_get course.lanes.items k ≡ Some lane → slice_get course.sources.items k ≡ Some source
    → IsLeftInTime input course.reads (turns_at course k) lane.stop source

-- each of these sources was left, and not read since
abbrev pub AreLeft : {X : Type 0} → SourceView X → List X → Type 0
AreLeft input sources = All (λ source. input.is_left source ≡ true) sources

-- the source at r was left, and no other changed
pub record LeavesAt {X : Type 0} (input : SourceView X) (r : ℕ) (old new : List X) : Type 0 where
  pub source : X
  pub source_now : X
  pub was : slice_get old r ≡ Some source
  pub is : new ≡ slice_set old r source_now
  pub left : Leaves input source source_now

-- rendition k hasn't stopped, nor had all its turns
pub record HasTurns {X Y : Type 0} (k : ℕ) (course : Course X Y) : Type 0 where
  pub lane : Lane
  pub there : slice_get course.lanes.items k ≡ Some lane
  pub going : lane.stop ≡ None
  pub below : turns_at course k < course.reads

-- no other rendition than r had a turn
pub record OthersStay {X Y : Type 0} (r : ℕ) (old new : Course X Y) : Type 0 where
  pub turns : (k : ℕ) → k ≢ r → turns_at new k ≡ turns_at old k
  pub lanes : (k : ℕ) → k ≢ r → slice_get new.lanes.items k ≡ slice_get old.lanes.items k
  pub sources : (k : ℕ) → k ≢ r → slice_get new.sources.items k ≡ slice_get old.sources.items k

-- rendition k had no turn, and is as it was
pub record HadNone {X Y : Type 0} (k : ℕ) (old new : Course X Y) : Type 0 where
  pub turns : turns_at new k ≡ turns_at old k
  pub lanes : slice_get new.lanes.items k ≡ slice_get old.lanes.items k
  pub sources : slice_get new.sources.items k ≡ slice_get old.sources.items k

-- rendition k had one turn, in which its input was read once
pub record HadOne {X Y : Type 0} (input : SourceView X) (k : ℕ) (old new : Course X Y) : Type 0 where
  pub turns : turns_at new k ≡ turns_at old k + 1
  pub source : X
  pub source_now : X
  pub lane : Lane
  pub lane_now : Lane
  pub source_was : slice_get old.sources.items k ≡ Some source
  pub source_is : slice_get new.sources.items k ≡ Some source_now
  pub lane_was : slice_get old.lanes.items k ≡ Some lane
  pub lane_is : slice_get new.lanes.items k ≡ Some lane_now
  pub turned : IsTurned input source source_now lane lane_now

-- rendition k had one turn at the most
abbrev pub HadOneAtMost : {X Y : Type 0} → SourceView X → ℕ → Course X Y → Course X Y → Type 0
HadOneAtMost input k old new = HadNone k old new ⊎ HadOne input k old new

-- no source that can't tell whether it's ready has turns left
abbrev pub NoneWaits : {X Y : Type 0} → (X → Bool) → Course X Y → Type 0
NoneWaits {X} tells course = (k : ℕ) (source : X) → slice_get course.sources.items k ≡ Some source → tells source ≡ false → HasTurns k course → ⊥

-- how many turns all had together
abbrev pub turns_in : {X Y : Type 0} → Course X Y → ℕ
turns_in course = sum course.turns.items

-- A run under way. `waiting` are the plans of each rendition that were swapped out and not given yet.
pub record IsOn {X Y : Type 0} (input : SourceView X) (out : OutletView Y) (ladder : Ladder) (start : Start X Y) (course : Course X Y) (shows : Known) (waiting : ℕ → List SegmentPlan) : Type 0 where
  pub world : World (run_of input out course.reads start.sources course.sources.items start.outlet course.outlet) ladder (turns_at course) course.lanes.items course.playlists.items waiting
  pub ends : course.ended.items ≡ ends_of (after_all (none_of ladder) world.events)
  pub list : shows.list ≡ start.shows.list ++ shown_by ladder (none_of ladder) world.events
  pub counts : counts_shown shows.list ≡ counts_of course.playlists.items
  pub board : shows.board ≡ start.shows.board
  pub allowed : IsAllowed ladder
  pub limit : course.reads ≡ start.reads
  pub counted : length course.turns.items ≡ length ladder.renditions
  pub turns : (k : ℕ) → turns_at course k ≤ course.reads
  pub most : course.reads ≤ READS
  pub left : AreLeftInTime input course
  pub room : HaveRoom input course.reads start.sources
  pub failures : out.failures start.outlet < 2 ^ 63

-- Of what some events give these items were put, and these snapshots were shown: all, or all but the last. Nothing was shown
-- that wasn't put whole.
pub record ShownBut (ladder : Ladder) (events : List Event) (given : List ItemValue) (old new : List SnapshotFacts) : Type 0 where
  pub front : List Event
  pub back : List Event
  pub all : events ≡ front ++ back
  pub few : length back ≤ 1
  pub shown : new ≡ old ++ shown_by ladder (none_of ladder) front
  pub whole : (rest : List ItemValue) × (given ≡ blocks ladder (none_of ladder) front ++ rest)

-- The run was stopped: what was put and what was shown begin one list of events.
pub record IsCutShown {X Y : Type 0} (run : Run X Y) (ladder : Ladder) (old new : List SnapshotFacts) : Type 0 where
  pub cut : IsCutShort run ladder
  pub shows : ShownBut ladder cut.weave.events cut.some.given old new

-- what a fault that stops a run at once says of the outlet's count of failures, where a segment may be held back too
abbrev pub of_sudden : ℕ → ℕ → Sayings
of_sudden old new = record (of_failures old new) { held = λ r n. new ≡ old }

abbrev pub SaysSudden : PackFault → ℕ → ℕ → Type 0
SaysSudden fault old new = Says (of_sudden old new) fault

-- a run that was stopped at once by a fault
pub record IsStopped {X Y : Type 0} (input : SourceView X) (out : OutletView Y) (ladder : Ladder) (start : Start X Y) (course : Course X Y) (shows : Known) (fault : PackFault) : Type 0 where
  pub cut : IsCutShown (run_of input out course.reads start.sources course.sources.items start.outlet course.outlet) ladder start.shows.list shows.list
  pub says : SaysSudden fault (out.failures start.outlet) (out.failures course.outlet)
  pub limit : course.reads ≡ start.reads
  pub board : shows.board ≡ start.shows.board

-- some run stands here
abbrev pub IsRun : {X Y : Type 0} → SourceView X → OutletView Y → Course X Y → Type 0
IsRun {X} {Y} input out course =
    (ladder : Ladder) × (start : Start X Y) × (shows : Known) × (waiting : ℕ → List SegmentPlan) × IsOn input out ladder start course shows waiting

-- each run that stands there stands here
abbrev pub ReadsOn : {X Y : Type 0} → SourceView X → OutletView Y → Course X Y → Course X Y → Type 0
ReadsOn {X} {Y} input out old new =
    (ladder : Ladder) (start : Start X Y) (shows : Known) (waiting : ℕ → List SegmentPlan)
    → IsOn input out ladder start old shows waiting → IsOn input out ladder start new shows waiting

-- each run that stands there was stopped here for want of memory
abbrev pub ReadsShort : {X Y : Type 0} → SourceView X → OutletView Y → Course X Y → Course X Y → Type 0
ReadsShort {X} {Y} input out old new =
    (ladder : Ladder) (start : Start X Y) (shows : Known) (waiting : ℕ → List SegmentPlan)
    → IsOn input out ladder start old shows waiting → IsStopped input out ladder start new shows NoMemory

-- a rendition that has stopped stays as it stopped
abbrev pub StayStopped : List Lane → List Lane → Type 0
StayStopped old new = (k : ℕ) (lane : Lane) → slice_get old k ≡ Some lane → lane.stop ≢ None → (now : Lane) × (slice_get new k ≡ Some now) × (now.stop ≡ lane.stop)

-- some turns more were had, or nothing was closed; what has stopped stays so
pub record ReadsMore {X Y : Type 0} (old new : Course X Y) : Type 0 where
  pub more : turns_in old ≤ turns_in new
  pub stays : turns_in new ≡ turns_in old → new.lanes ≡ old.lanes
  pub stopped : StayStopped old.lanes.items new.lanes.items

-- the run stands here between two rounds: no plan waits
abbrev pub IsBetween : {X Y R : Type 0} → SourceView X → OutletView Y → Ladder → Start X Y → Broadcast X Y R → Type 0
IsBetween input out ladder start at = IsOn input out ladder start at.course at.held.publisher (λ k. [])

-- some run does
abbrev pub IsSomeBetween : {X Y R : Type 0} → SourceView X → OutletView Y → Ladder → Broadcast X Y R → Type 0
IsSomeBetween {X} {Y} input out ladder at = (start : Start X Y) × IsBetween input out ladder start at

-- each run that stands there between two rounds stands here between two rounds
abbrev pub StaysBetween : {X Y R : Type 0} → SourceView X → OutletView Y → Ladder → Broadcast X Y R → Broadcast X Y R → Type 0
StaysBetween {X} {Y} input out ladder old new = (start : Start X Y) → IsBetween input out ladder start old → IsBetween input out ladder start new

-- each run that stands there between two rounds was stopped here by a fault
abbrev pub StopsBetween : {X Y R : Type 0} → SourceView X → OutletView Y → Ladder → Broadcast X Y R → Broadcast X Y R → PackFault → Type 0
StopsBetween {X} {Y} input out ladder old new fault =
    (start : Start X Y) → IsBetween input out ladder start old → IsStopped input out ladder start new.course new.held.publisher fault

-- no rendition is read any further: each has stopped, or had all its turns
abbrev pub Rests : {X Y : Type 0} → Course X Y → Type 0
Rests course = (k : ℕ) (lane : Lane) → slice_get course.lanes.items k ≡ Some lane → lane.stop ≡ None → course.reads ≤ turns_at course k

-- a plan of some rendition is closed and not swapped out
abbrev pub HasClosed : List Lane → Type 0
HasClosed lanes = (k : ℕ) × (lane : Lane) × (slice_get lanes k ≡ Some lane) × (lane.intake.filled ≢ [])

-- nothing is closed and not swapped out
abbrev pub NoneClosed : List Lane → Type 0
NoneClosed lanes = (k : ℕ) (lane : Lane) → slice_get lanes k ≡ Some lane → lane.intake.filled ≡ []

-- the end of rendition r is due: its input ended well, nothing of it is closed and not swapped out, and its end wasn't given
abbrev pub IsEndDue : {X Y : Type 0} → ℕ → Course X Y → Type 0
IsEndDue r course = (lane : Lane) → slice_get course.lanes.items r ≡ Some lane
    → (is_good lane.stop ≡ true) × (lane.intake.filled ≡ []) × (slice_index_or course.ended.items r false ≡ false)

-- the end of some rendition is due
abbrev pub HasEndDue : {X Y : Type 0} → Ladder → Course X Y → Type 0
HasEndDue ladder course = (r : ℕ) × (r < length ladder.renditions) × IsEndDue r course

-- of each rendition of which nothing is closed and not swapped out, it is noted whether a good end was given
abbrev pub HasGoodEnds : {X Y : Type 0} → Ladder → Course X Y → Type 0
HasGoodEnds ladder course =
    (k : ℕ) (lane : Lane) → k < length ladder.renditions → slice_get course.lanes.items k ≡ Some lane → lane.intake.filled ≡ []
    → slice_index_or course.ended.items k false ≡ is_good lane.stop

-- A run was stopped at a place between two rounds where the end of a rendition was due, or plans were closed, and nothing was shown since.
pub record StopsAt {X Y R : Type 0} (input : SourceView X) (out : OutletView Y) (ladder : Ladder) (old new : Broadcast X Y R) : Type 0 where
  pub before : Broadcast X Y R
  pub stays : StaysBetween input out ladder old before
  pub due : HasEndDue ladder before.course ⊎ HasClosed before.course.lanes.items
  pub unshown : new.held.publisher.list ≡ before.held.publisher.list

-- all that was read and closed was given, each good end too, and no rendition is read any further
pub record IsAllGiven {X Y : Type 0} (course : Course X Y) : Type 0 where
  pub rests : Rests course
  pub filled : NoneClosed course.lanes.items
  pub ended : (k : ℕ) (lane : Lane) → slice_get course.lanes.items k ≡ Some lane → slice_index_or course.ended.items k false ≡ is_good lane.stop
