-- A round: plans are expected, and segments come for them.
use Rattle.std.specs.Prelude.{◌≡◌, ◌≢◌, ◌⊎◌, ℕ, ◌+◌, ◌-◌, ◌<◌, ◌≤◌, sum, List, [], ◌∷◌, ◌++◌, map, length, Some, slice_get, slice_index_or, slice_set, false}
use Rattle.cutter.specs.Plans.{SegmentPlan}
use Rattle.flow_core.specs.declared.slot.Slot.{Slot}
use Rattle.flow_core.specs.Slots.{leading, one_more}
use Rattle.flow_core.specs.Gatherings.{Gathering, awaited, missing_in, sequence_at, sequences_from}
use Rattle.flow_core.specs.Sequences.{SequenceValue}
use Rattle.live_board.specs.Snapshots.{Known}
use Rattle.ingest.specs.declared.lane.Lane.{Lane}
use Rattle.ingest.specs.Lanes.{HasBroken, is_good}
use Rattle.item_io.specs.Views.{OutletView, SourceView}
use Rattle.ladder_items.specs.declared.fault.PackFault.{PackFault}
use Rattle.ladder_items.specs.declared.fault.PackFault.TheVariants.{NoMemory}
use Rattle.ladder_items.specs.Ladder.{Ladder, RenditionValue, rendition_at}
use Rattle.rounds.specs.declared.giving.broadcast.Broadcast.{Broadcast}
use Rattle.rounds.specs.declared.round.machine.Round.{Round}
use Rattle.rounds.specs.declared.run.between.BetweenRounds.{BetweenRounds}
use Rattle.rounds.specs.declared.run.course.Course.{Course}
use Rattle.rounds.specs.declared.run.pace.Pace.{Pace}
use Rattle.rounds.specs.Courses.{Start, HadOneAtMost, IsBetween, IsOn, IsStopped, ReadsMore, ReadsNone, turns_in}
use Rattle.rounds.specs.Gated.{IsUnheld}
use Rattle.rounds.specs.Paces.{HasEnough, wanted}
use Rattle.rounds.specs.Showing.{counts_of}

-- the plans that a rendition of a collector expects, in order
abbrev pub expected : SequenceValue → List SegmentPlan
expected sequence = map (λ (slot : Slot). slot.plan) sequence.slots

-- the same plans are expected
pub record Keeps (old new : Gathering) : Type 0 where
  pub most : new.most ≡ old.most
  pub count : length new.sequences ≡ length old.sequences
  pub each : (k : ℕ) → ((sequence_at new k).keys ≡ (sequence_at old k).keys) × ((sequence_at new k).next ≡ (sequence_at old k).next)
      × (expected (sequence_at new k) ≡ expected (sequence_at old k))

-- the renditions of a collector are the ladder's, under their keys
pub record HasKeys (ladder : Ladder) (g : Gathering) : Type 0 where
  pub each : length g.sequences ≡ length ladder.renditions
  pub keys : (k : ℕ) → k < length g.sequences → (sequence_at g k).keys ≡ (rendition_at ladder k).keys

-- no sealed segment stands in front of any rendition: what could be given was
abbrev pub NoneReady : Gathering → Type 0
NoneReady g = (k : ℕ) → leading (sequence_at g k).slots ≡ 0

-- how many segments stand in slots
abbrev pub segments_in : List Slot → ℕ
segments_in [] = 0
segments_in (slot ∷ slots) = one_more slot.segment 0 + segments_in slots

-- the numbers of the first plans that weren't handed out, and how many segments came for plans from there on
abbrev pub gathered : List SequenceValue → ℕ
gathered [] = 0
gathered (sequence ∷ sequences) = sequence.next + segments_in sequence.slots + gathered sequences

-- the plans of a rendition among lists of plans, one for each rendition
abbrev pub unfed_of : List (List SegmentPlan) → ℕ → List SegmentPlan
unfed_of unfed k = slice_index_or unfed k []

-- A run in a round: what waits is what the collector expects, and behind it what isn't fed yet. Each rendition of the
-- collector stands behind the segments that were given of it.
pub record InRound {X Y : Type 0} (input : SourceView X) (out : OutletView Y) (ladder : Ladder) (start : Start X Y) (unfed : List (List SegmentPlan)) (course : Course X Y) (shows : Known) (g : Gathering) : Type 0 where
  pub waiting : ℕ → List SegmentPlan
  pub on : IsOn input out ladder start course shows waiting
  pub waits : (k : ℕ) → waiting k ≡ expected (sequence_at g k) ++ unfed_of unfed k
  pub each : length g.sequences ≡ length ladder.renditions
  pub all : length unfed ≡ length ladder.renditions
  pub nexts : (k : ℕ) → k < length g.sequences → (sequence_at g k).next ≡ slice_index_or (counts_of course.playlists.items) k 0
  pub keys : (k : ℕ) → k < length g.sequences → (sequence_at g k).keys ≡ (rendition_at ladder k).keys

-- the run stands here in a round, of which these plans aren't fed yet
abbrev pub StandsIn : {X Y L M P R : Type 0} → SourceView X → OutletView Y → Ladder → Start X Y → List (List SegmentPlan) → Round X Y L M P R → Type 0
StandsIn input out ladder start unfed at = InRound input out ladder start unfed at.broadcast.course at.broadcast.held.publisher at.collector

-- some run stands here in a round
abbrev pub IsSomewhere : {X Y L M P R : Type 0} → SourceView X → OutletView Y → Ladder → Round X Y L M P R → Type 0
IsSomewhere {X} {Y} input out ladder at = (start : Start X Y) × (unfed : List (List SegmentPlan)) × StandsIn input out ladder start unfed at

-- each run that stands there stands here now
abbrev pub Moves : {X Y L M P R : Type 0} → SourceView X → OutletView Y → Ladder → Round X Y L M P R → Round X Y L M P R → Type 0
Moves {X} {Y} input out ladder old new =
    (start : Start X Y) (unfed : List (List SegmentPlan)) → StandsIn input out ladder start unfed old → StandsIn input out ladder start unfed new

-- the run was stopped here by a fault
abbrev pub StopsIn : {X Y L M P R : Type 0} → SourceView X → OutletView Y → Ladder → Start X Y → Round X Y L M P R → PackFault → Type 0
StopsIn input out ladder start at fault = IsStopped input out ladder start at.broadcast.course at.broadcast.held.publisher fault

-- each run that stands there was stopped by a fault
abbrev pub Breaks : {X Y L M P R : Type 0} → SourceView X → OutletView Y → Ladder → Round X Y L M P R → Round X Y L M P R → PackFault → Type 0
Breaks {X} {Y} input out ladder old new fault =
    (start : Start X Y) (unfed : List (List SegmentPlan)) → StandsIn input out ladder start unfed old → StopsIn input out ladder start new fault

-- In a round, what is read stops with the turns that make it enough for the next one: before them, one of each rendition at the
-- most, there wasn't enough, by the segments that were awaited and the turns that were had then.
pub record StopsInTime {X Y L M P R : Type 0} (input : SourceView X) (out : OutletView Y) (ladder : Ladder) (pace : Pace) (old new : Round X Y L M P R) : Type 0 where
  pub before : Round X Y L M P R
  pub moves : Moves input out ladder old before
  pub further : ReadsMore old.broadcast.course before.broadcast.course
  pub few : HasEnough (wanted pace (awaited before.collector.sequences) (turns_in before.broadcast.course - turns_in old.broadcast.course)) before.broadcast.course → ⊥
  pub last : (k : ℕ) → HadOneAtMost input k before.broadcast.course new.broadcast.course

-- no more right segments were taken than were gathered
abbrev pub IsFair : {X Y L M P R : Type 0} → Round X Y L M P R → Round X Y L M P R → Type 0
IsFair old new = new.taker.right + gathered old.collector.sequences ≤ old.taker.right + gathered new.collector.sequences

-- each right segment that was taken was gathered, and no other
abbrev pub IsExact : {X Y L M P R : Type 0} → Round X Y L M P R → Round X Y L M P R → Type 0
IsExact old new = new.taker.right + gathered old.collector.sequences ≡ old.taker.right + gathered new.collector.sequences

-- what was taken stays taken, and no more is missing than before
abbrev pub LosesNone : {X Y L M P R : Type 0} → Round X Y L M P R → Round X Y L M P R → Type 0
LosesNone old new =
    (old.taker.pass.count ≤ new.taker.pass.count) × (length (missing_in new.collector.sequences) ≤ length (missing_in old.collector.sequences))

-- in a round nothing was read
abbrev pub ReadsNoneIn : {X Y L M P R : Type 0} → Round X Y L M P R → Round X Y L M P R → Type 0
ReadsNoneIn old new = ReadsNone old.broadcast.course new.broadcast.course

-- nothing is in front of rendition r
abbrev pub IsDry : {X Y L M P R : Type 0} → ℕ → Round X Y L M P R → Type 0
IsDry r at = leading (sequence_at at.collector r).slots ≡ 0

-- but for rendition r, the collector is as it was
abbrev pub KeepsOthers : {X Y L M P R : Type 0} → ℕ → Round X Y L M P R → Round X Y L M P R → Type 0
KeepsOthers r old new = (k : ℕ) → k ≢ r → sequence_at new.collector k ≡ sequence_at old.collector k

-- what was gathered and what is missing are as many as before, and nothing was taken
abbrev pub KeepsCounts : {X Y L M P R : Type 0} → Round X Y L M P R → Round X Y L M P R → Type 0
KeepsCounts old new =
    (gathered new.collector.sequences ≡ gathered old.collector.sequences)
    × (length (missing_in new.collector.sequences) ≡ length (missing_in old.collector.sequences)) × (new.taker ≡ old.taker)

-- some run stands here, and `plan` is the first of rendition r that isn't fed yet
abbrev pub IsFirstUnfed : {X Y L M P R : Type 0} → SourceView X → OutletView Y → Ladder → ℕ → SegmentPlan → Round X Y L M P R → Type 0
IsFirstUnfed {X} {Y} input out ladder r plan at =
    (start : Start X Y) × (unfed : List (List SegmentPlan)) × (left : List SegmentPlan) × StandsIn input out ladder start unfed at × (unfed_of unfed r ≡ plan ∷ left)

-- each run of which that plan is the first that isn't fed stands here, with it fed
abbrev pub FeedsPlan : {X Y L M P R : Type 0} → SourceView X → OutletView Y → Ladder → ℕ → SegmentPlan → Round X Y L M P R → Round X Y L M P R → Type 0
FeedsPlan {X} {Y} input out ladder r plan old new =
    (start : Start X Y) (unfed : List (List SegmentPlan)) (left : List SegmentPlan) → unfed_of unfed r ≡ plan ∷ left
    → StandsIn input out ladder start unfed old → StandsIn input out ladder start (slice_set unfed r left) new

-- some run stands here, of which these plans of rendition r aren't fed yet
abbrev pub IsUnfed : {X Y L M P R : Type 0} → SourceView X → OutletView Y → Ladder → ℕ → List SegmentPlan → Round X Y L M P R → Type 0
IsUnfed {X} {Y} input out ladder r spool at =
    (start : Start X Y) × (unfed : List (List SegmentPlan)) × StandsIn input out ladder start unfed at × (unfed_of unfed r ≡ spool)

-- each run of which those plans of rendition r weren't fed stands here, with them fed
abbrev pub FeedsSpool : {X Y L M P R : Type 0} → SourceView X → OutletView Y → Ladder → ℕ → List SegmentPlan → Round X Y L M P R → Round X Y L M P R → Type 0
FeedsSpool {X} {Y} input out ladder r spool old new =
    (start : Start X Y) (unfed : List (List SegmentPlan)) → unfed_of unfed r ≡ spool
    → StandsIn input out ladder start unfed old → StandsIn input out ladder start (slice_set unfed r []) new

-- or was stopped by a fault
abbrev pub BreaksSpool : {X Y L M P R : Type 0} → SourceView X → OutletView Y → Ladder → ℕ → List SegmentPlan → Round X Y L M P R → Round X Y L M P R → PackFault → Type 0
BreaksSpool {X} {Y} input out ladder r spool old new fault =
    (start : Start X Y) (unfed : List (List SegmentPlan)) → unfed_of unfed r ≡ spool
    → StandsIn input out ladder start unfed old → StopsIn input out ladder start new fault

-- some run stands here, of which none of these plans is fed yet
abbrev pub HasAllUnfed : {X Y L M P R : Type 0} → SourceView X → OutletView Y → Ladder → List (List SegmentPlan) → Round X Y L M P R → Type 0
HasAllUnfed {X} {Y} input out ladder spools at = (start : Start X Y) × StandsIn input out ladder start spools at

-- each run of which none of those plans was fed stands here, with all of them fed
abbrev pub FeedsAll : {X Y L M P R : Type 0} → SourceView X → OutletView Y → Ladder → List (List SegmentPlan) → Round X Y L M P R → Round X Y L M P R → Type 0
FeedsAll {X} {Y} input out ladder spools old new =
    (start : Start X Y) → StandsIn input out ladder start spools old
    → (left : List (List SegmentPlan)) × StandsIn input out ladder start left new × ((k : ℕ) → unfed_of left k ≡ [])

-- or was stopped by a fault
abbrev pub BreaksAll : {X Y L M P R : Type 0} → SourceView X → OutletView Y → Ladder → List (List SegmentPlan) → Round X Y L M P R → Round X Y L M P R → PackFault → Type 0
BreaksAll {X} {Y} input out ladder spools old new fault =
    (start : Start X Y) → StandsIn input out ladder start spools old → StopsIn input out ladder start new fault

-- the run stands here, and what waits are the plans of these full spools
abbrev pub IsFull : {X Y R : Type 0} → SourceView X → OutletView Y → Ladder → Start X Y → List (List SegmentPlan) → Broadcast X Y R → Type 0
IsFull input out ladder start spools at = IsOn input out ladder start at.course at.held.publisher (unfed_of spools)

-- some run does
abbrev pub IsSomeFull : {X Y R : Type 0} → SourceView X → OutletView Y → Ladder → List (List SegmentPlan) → Broadcast X Y R → Type 0
IsSomeFull {X} {Y} input out ladder spools at = (start : Start X Y) × IsFull input out ladder start spools at

-- each rendition's full spool has what its lane had closed, and the lane stopped as before, or goes on
abbrev pub TakesClosed : List Lane → List Lane → List (List SegmentPlan) → Type 0
TakesClosed old new full = (k : ℕ) (lane now : Lane) → k < length full → slice_get old k ≡ Some lane → slice_get new k ≡ Some now
    → (unfed_of full k ≡ lane.intake.filled) × (now.stop ≡ lane.stop)

-- Ends are given when they are due: a rendition with nothing unfed in its full spool is ended exactly where its lane is good.
abbrev pub HasDueEnds : {X Y : Type 0} → Ladder → List (List SegmentPlan) → Course X Y → Type 0
HasDueEnds ladder spools course =
    (k : ℕ) (lane : Lane) → k < length ladder.renditions → slice_get course.lanes.items k ≡ Some lane → unfed_of spools k ≡ []
    → slice_index_or course.ended.items k false ≡ is_good lane.stop

-- the spools of each run of which no plan waits were swapped out
abbrev pub SwapsOut : {X Y : Type 0} → SourceView X → OutletView Y → Course X Y → Course X Y → List (List SegmentPlan) → Type 0
SwapsOut {X} {Y} input out old new full =
    (ladder : Ladder) (start : Start X Y) (shows : Known)
    → IsOn input out ladder start old shows (λ k. []) → IsOn input out ladder start new shows (unfed_of full)

-- each run of which no plan waits was stopped for want of memory
abbrev pub SwapsShort : {X Y : Type 0} → SourceView X → OutletView Y → Course X Y → Course X Y → Type 0
SwapsShort {X} {Y} input out old new =
    (ladder : Ladder) (start : Start X Y) (shows : Known)
    → IsOn input out ladder start old shows (λ k. []) → IsStopped input out ladder start new shows NoMemory

-- of each run of which no plan of rendition r waits, those of its full spool wait
abbrev pub SwapsOne : {X Y : Type 0} → SourceView X → OutletView Y → ℕ → Course X Y → Course X Y → List SegmentPlan → Type 0
SwapsOne {X} {Y} input out r old new full =
    (ladder : Ladder) (start : Start X Y) (shows : Known) (waiting still : ℕ → List SegmentPlan)
    → waiting r ≡ [] → still r ≡ full → ((k : ℕ) → (k ≡ r → ⊥) → still k ≡ waiting k)
    → IsOn input out ladder start old shows waiting → IsOn input out ladder start new shows still

-- the collector expects nothing yet, and each of its renditions stands behind the segments that were given of it
abbrev pub IsBehind : {X Y L M P R : Type 0} → Ladder → Round X Y L M P R → Type 0
IsBehind ladder at =
    at.collector.sequences ≡ sequences_from 0 (map (λ (r : RenditionValue). r.keys) ladder.renditions) (counts_of at.broadcast.course.playlists.items)

-- A round that read for the next one stopped with the turns that made it enough: before them, one of each rendition at the most, each
-- run that stood there with these full spools stood in the round, with all of them fed, and there wasn't enough.
pub record ReadsInTime {X Y R : Type 0} (input : SourceView X) (out : OutletView Y) (ladder : Ladder) (spools : List (List SegmentPlan)) (pace : Pace)
    (old new : Broadcast X Y R) : Type 0 where
  pub before : Broadcast X Y R
  pub collector : Gathering
  pub stands : (start : Start X Y) → IsFull input out ladder start spools old
      → (left : List (List SegmentPlan)) × InRound input out ladder start left before.course before.held.publisher collector × ((k : ℕ) → unfed_of left k ≡ [])
  pub further : ReadsMore old.course before.course
  pub few : HasEnough (wanted pace (awaited collector.sequences) (turns_in before.course - turns_in old.course)) before.course → ⊥
  pub last : (k : ℕ) → HadOneAtMost input k before.course new.course

-- What the calling thread made of each run that stood there with these full spools: all of them was given. It took no more right
-- segments than were given, and read no more than makes it enough for the next round.
pub record IsDriven {X Y R : Type 0} (input : SourceView X) (out : OutletView Y) (ladder : Ladder) (spools : List (List SegmentPlan)) (pace : Pace)
    (old : Broadcast X Y R) (right : ℕ) (new : Broadcast X Y R) (right_now : ℕ) : Type 0 where
  pub on : (start : Start X Y) → IsFull input out ladder start spools old → IsBetween input out ladder start new
  pub further : ReadsMore old.course new.course
  pub fair : right_now + sum (counts_of old.course.playlists.items) ≤ right + sum (counts_of new.course.playlists.items)
  pub soon : turns_in old.course < turns_in new.course → ReadsInTime input out ladder spools pace old new

-- a round whose numbers stand in the books
pub record IsRound {X Y R : Type 0} (input : SourceView X) (out : OutletView Y) (ladder : Ladder) (spools : List (List SegmentPlan)) (pace : Pace)
    (old new : BetweenRounds X Y R) : Type 0 where
  pub driven : IsDriven input out ladder spools pace old.broadcast old.books.right new.broadcast new.books.right
  pub rounds : new.books.rounds ≡ old.books.rounds + 1
  pub each : length new.books.workers.items ≡ length old.books.workers.items

-- each run that stood there with these full spools was stopped by a fault
abbrev pub IsBroken : {X Y R : Type 0} → SourceView X → OutletView Y → Ladder → List (List SegmentPlan) → Broadcast X Y R → Broadcast X Y R → PackFault → Type 0
IsBroken {X} {Y} input out ladder spools old new fault =
    (start : Start X Y) → IsFull input out ladder start spools old → IsStopped input out ladder start new.course new.held.publisher fault

-- how many plans there are in some spools
abbrev pub plans_in : List (List SegmentPlan) → ℕ
plans_in [] = 0
plans_in (spool ∷ spools) = length spool + plans_in spools

-- how many snapshots were shown
abbrev pub snapshots_in : {X Y R : Type 0} → Broadcast X Y R → ℕ
snapshots_in at = length at.held.publisher.list

-- how many there will be once all that is awaited in a round was given
abbrev pub due_in : {X Y L M P R : Type 0} → Round X Y L M P R → ℕ
due_in at = snapshots_in at.broadcast + awaited at.collector.sequences

-- fewer snapshots than so many were shown, unless the fault names a segment as held back
abbrev pub ShowsFewer : {X Y R : Type 0} → Broadcast X Y R → ℕ → PackFault → Type 0
ShowsFewer at many fault = IsUnheld fault → snapshots_in at < many

-- A run was stopped in a round with these full spools: memory was wanting in the turn of a rendition, or fewer snapshots were shown
-- than the spools have plans.
abbrev pub StopsShort : {X Y R : Type 0} → List (List SegmentPlan) → Broadcast X Y R → Broadcast X Y R → PackFault → Type 0
StopsShort spools old new fault = HasBroken new.course.lanes.items ⊎ ShowsFewer new (snapshots_in old + plans_in spools) fault
