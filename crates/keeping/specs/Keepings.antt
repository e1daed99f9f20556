-- Segments that are taken away from a folder once no player can want them (RFC 8216, 6.2.2).
use Rattle.std.specs.Prelude.{◌≡◌, ◌≢◌, ◌^◌, ◌⊎◌, ℕ, zero, suc, ◌+◌, ◌-◌, ◌<◌, ◌≤◌, ◌==◌, Bool, true, false, not, ◌&&◌, Some, List, [], ◌∷◌, ◌++◌, length, take, drop, map, filter, sum_by, nat_lt, slice_get, slice_index_or}
use Rattle.std.specs.List.{All, Contains}
use Rattle.playlist_text.specs.MediaLines.{Entry, Listing}
use Rattle.playlist_text.specs.Names.{is_name}
use Rattle.folder.specs.Moves.{Move, Remove}
use Rattle.item_io.specs.Items.{ItemValue, PlaylistValue, SegmentItem, MediaItem, FramesItem, MasterItem}
use Rattle.item_io.specs.FileNames.{segment_file_name}
use Rattle.media_reading.specs.MediaTexts.{IsListing, listing_text}
use Rattle.media_reading.specs.MediaTexts.{WantsMemory}
use Rattle.retention.specs.declared.step.Step.{Step}
use Rattle.retention.specs.Steps.{IsKeptFrom, Kept, MayGo, first_of}

-- A rendition whose segments are taken away: its name, the number of its first segment, how many of them were taken away, and its
-- retention; the microseconds of each segment that was listed when it began; the numbers of older segments, which an earlier run left
-- behind, and how many of those were taken away.
pub record KeepingValue : Type 0 where
  pub name : List ℕ
  pub base : ℕ
  pub gone : ℕ
  pub kept : Kept
  pub before : List ℕ
  pub older : List ℕ
  pub swept : ℕ

-- the steps of segments that were listed from the first one on when a rendition began
abbrev pub steps_before : List ℕ → List Step
steps_before micros = map (λ m. record { micros = m; first = 0 }) micros

-- the numbers before this one
abbrev pub below : ℕ → List ℕ → List ℕ
below base numbers = filter (λ n. nat_lt n base) numbers

-- a rendition of which no segment was listed yet
abbrev pub new_keeping : List ℕ → ℕ → ℕ → KeepingValue
new_keeping name base least = record {
  name = name;
  base = base;
  gone = 0;
  kept = record { least = least; steps = [] };
  before = [];
  older = [];
  swept = 0;
}

-- one that goes on behind these rows, of which the first has number base
abbrev pub resumed_keeping : List ℕ → ℕ → ℕ → List ℕ → List ℕ → KeepingValue
resumed_keeping name base least earlier older = record {
  name = name;
  base = base;
  gone = 0;
  kept = record { least = least; steps = steps_before earlier };
  before = earlier;
  older = below base older;
  swept = 0;
}

-- The step of a media playlist: how long its last segment lasts, and the place of its first one.
pub record IsStepOf (base : ℕ) (text : List ℕ) (step : Step) : Type 0 where
  pub listing : Listing
  pub sound : IsListing listing
  pub is_text : text ≡ listing_text listing
  pub last : Entry
  pub is_last : slice_get listing.entries (length listing.entries - 1) ≡ Some last
  pub micros : step.micros ≡ last.micros
  pub first : listing.sequence ≡ base + step.first

-- The text is a media playlist that begins no earlier than any that was told.
pub record GoesOn (k : KeepingValue) (text : List ℕ) : Type 0 where
  pub step : Step
  pub is_step : IsStepOf k.base text step
  pub rises : (i : ℕ) → i < length k.kept.steps → first_of k.kept.steps i ≤ step.first

-- it was told the next playlist
pub record IsNoted (old new : KeepingValue) (text : List ℕ) : Type 0 where
  pub step : Step
  pub is_step : IsStepOf old.base text step
  pub now : new ≡ record old { kept = record old.kept { steps = old.kept.steps ++ step ∷ [] } }

-- The text is a media playlist that may be told next: it begins no earlier than the last one that was told, and lists the next segment,
-- before which there are fewer than 2^52.
pub record ComesNext (k : KeepingValue) (text : List ℕ) : Type 0 where
  pub step : Step
  pub is_step : IsStepOf k.base text step
  pub rises : first_of k.kept.steps (length k.kept.steps - 1) ≤ step.first
  pub listed : step.first ≤ length k.kept.steps
  pub few : length k.kept.steps < 2 ^ 52

-- some segments of a rendition are taken away, from this number on
abbrev pub removals : List ℕ → ℕ → ℕ → List Move
removals name number zero = []
removals name number (suc n) = Remove (segment_file_name name number) ∷ removals name (number + 1) n

-- the segments of these numbers are taken away
abbrev pub removals_of : List ℕ → List ℕ → List Move
removals_of name numbers = map (λ n. Remove (segment_file_name name n)) numbers

-- Some of those that may go were taken away, from the first one on that wasn't before; and where one has gone, so were some older
-- ones, each of which left the playlists earlier.
pub record LetsGo (old new : KeepingValue) (made made_then : List Move) : Type 0 where
  pub count : ℕ
  pub more : ℕ
  pub now : new ≡ record old { gone = old.gone + count; swept = old.swept + more }
  pub may_go : (n : ℕ) → n < old.gone + count → MayGo old.kept.least old.kept.steps n
  pub some_went : 0 < more → 0 < old.gone + count
  pub up_to : old.swept + more ≤ length old.older
  pub few : more ≤ 64
  pub earlier : All (λ n. n < old.base) (take more (drop old.swept old.older))
  pub made_are : made_then ≡ made ++ (removals old.name (old.base + old.gone) count ++ removals_of old.name (take more (drop old.swept old.older)))

-- Once a segment has gone, all older ones were taken away, or 64 more.
abbrev pub SweepsOn : KeepingValue → KeepingValue → Type 0
SweepsOn old new = 0 < new.gone → (new.swept ≡ length new.older) ⊎ (new.swept ≡ old.swept + 64)

-- A segment that may go is there still: the next one, or, where one has gone, an older one, of which fewer than 64 were taken away.
abbrev pub IsLeft : KeepingValue → KeepingValue → Type 0
IsLeft old new = MayGo new.kept.least new.kept.steps new.gone ⊎ ((0 < new.gone) × (new.swept < length new.older) × (new.swept < old.swept + 64))

-- It is the rendition that it was: of its retention and of what was taken away there may only be more.
pub record Stays (old new : KeepingValue) : Type 0 where
  pub name : new.name ≡ old.name
  pub base : new.base ≡ old.base
  pub least : new.kept.least ≡ old.kept.least
  pub told : List Step
  pub steps : new.kept.steps ≡ old.kept.steps ++ told
  pub before : new.before ≡ old.before
  pub older : new.older ≡ old.older
  pub gone : old.gone ≤ new.gone
  pub swept : old.swept ≤ new.swept

abbrev pub no_keeping : KeepingValue
no_keeping = new_keeping [] 0 0

abbrev pub keeping_at : List KeepingValue → ℕ → KeepingValue
keeping_at renditions r = slice_index_or renditions r no_keeping

-- there are as many renditions, and each is the one that it was
pub record Stay (old new : List KeepingValue) : Type 0 where
  pub len : length new ≡ length old
  pub each : (r : ℕ) → Stays (keeping_at old r) (keeping_at new r)

-- it became of rendition r as `Is` says, and each other one is as it was
pub record AreAsOf (r : ℕ) (old new : List KeepingValue) (Is : KeepingValue → KeepingValue → Type 0) : Type 0 where
  pub len : length new ≡ length old
  pub is : Is (keeping_at old r) (keeping_at new r)
  pub others : (o : ℕ) → o ≢ r → keeping_at new o ≡ keeping_at old o

-- where there is a rendition r it became so of it
abbrev pub IfAny : ℕ → List KeepingValue → List KeepingValue → (KeepingValue → KeepingValue → Type 0) → Type 0 → Type 0
IfAny r old new Is Same = ((r < length old) × AreAsOf r old new Is) ⊎ ((length old ≤ r) × (new ≡ old) × Same)

-- A media playlist is noted for its rendition, unless it is the last, which lists no new segment.
abbrev pub NotedUnless : Bool → PlaylistValue → List KeepingValue → List KeepingValue → Type 0
NotedUnless true p old new = new ≡ old
NotedUnless false p old new = IfAny p.rendition old new (λ before now. IsNoted before now p.text) (Unit {0})

abbrev pub AreNotedBy : ItemValue → List KeepingValue → List KeepingValue → Type 0
AreNotedBy (SegmentItem s) old new = new ≡ old
AreNotedBy (MediaItem p) old new = NotedUnless p.ended p old new
AreNotedBy (FramesItem p) old new = new ≡ old
AreNotedBy (MasterItem text) old new = new ≡ old

-- it has this name if it is this rendition, and only then
abbrev pub HasNameIf : KeepingValue → List ℕ → ℕ → ℕ → Type 0
HasNameIf k name r rendition = (name ≡ k.name → r ≡ rendition) × (r ≡ rendition → name ≡ k.name)

-- A media playlist is that of the rendition of its name, and of no other, and goes on from those that the rendition was told.
pub record IsInTurn (p : PlaylistValue) (renditions : List KeepingValue) : Type 0 where
  pub own : (r : ℕ) → r < length renditions → p.name ≡ (keeping_at renditions r).name → r ≡ p.rendition
  pub named : p.rendition < length renditions → p.name ≡ (keeping_at renditions p.rendition).name
  pub goes_on : p.rendition < length renditions → GoesOn (keeping_at renditions p.rendition) p.text

-- each rendition has this name if it is this one, and only then
abbrev pub HasOwnName : List KeepingValue → List ℕ → ℕ → Type 0
HasOwnName renditions name rendition = (r : ℕ) → r < length renditions → HasNameIf (keeping_at renditions r) name r rendition

-- Only a media playlist is looked at: one of another name than its rendition's, or one of a rendition that is told of it.
abbrev pub MayBeRefused : ItemValue → List KeepingValue → Type 0
MayBeRefused (SegmentItem s) renditions = ⊥
MayBeRefused (MediaItem p) renditions = ¬ HasOwnName renditions p.name p.rendition ⊎ (p.rendition < length renditions)
MayBeRefused (FramesItem p) renditions = ⊥
MayBeRefused (MasterItem text) renditions = ⊥

-- A media playlist that is the last lists no new segment.
abbrev pub FollowsUnless : Bool → KeepingValue → List ℕ → Type 0
FollowsUnless true k text = GoesOn k text
FollowsUnless false k text = ComesNext k text

-- A media playlist has its own rendition's name, and may be told that, where there is such a rendition.
abbrev pub MayComeNext : ItemValue → List KeepingValue → Type 0
MayComeNext (SegmentItem s) renditions = Unit {0}
MayComeNext (MediaItem p) renditions =
    HasOwnName renditions p.name p.rendition × (p.rendition < length renditions → FollowsUnless p.ended (keeping_at renditions p.rendition) p.text)
MayComeNext (FramesItem p) renditions = Unit {0}
MayComeNext (MasterItem text) renditions = Unit {0}

-- Only for a media playlist memory can be wanted: for what its text says, or where it may be told next.
abbrev pub MayWantMemory : ItemValue → List KeepingValue → Type 0
MayWantMemory (SegmentItem s) renditions = ⊥
MayWantMemory (MediaItem p) renditions = WantsMemory p.text ⊎ ComesNext (keeping_at renditions p.rendition) p.text
MayWantMemory (FramesItem p) renditions = ⊥
MayWantMemory (MasterItem text) renditions = ⊥

abbrev pub ComesInTurn : ItemValue → List KeepingValue → Type 0
ComesInTurn (SegmentItem s) renditions = Unit {0}
ComesInTurn (MediaItem p) renditions = IsInTurn p renditions
ComesInTurn (FramesItem p) renditions = Unit {0}
ComesInTurn (MasterItem text) renditions = Unit {0}

-- Behind the I-frame playlist, the last item of a block, segments of its rendition are taken away.
abbrev pub GoBehind : ItemValue → List KeepingValue → List KeepingValue → List Move → List Move → Type 0
GoBehind (SegmentItem s) old new made made_then = (new ≡ old) × (made_then ≡ made)
GoBehind (MediaItem p) old new made made_then = (new ≡ old) × (made_then ≡ made)
GoBehind (FramesItem p) old new made made_then = IfAny p.rendition old new (λ before now. LetsGo before now made made_then) (made_then ≡ made)
GoBehind (MasterItem text) old new made made_then = (new ≡ old) × (made_then ≡ made)

-- none of its segments is left that may go
abbrev pub AllWent : ItemValue → List KeepingValue → Type 0
AllWent (SegmentItem s) renditions = Unit {0}
AllWent (MediaItem p) renditions = Unit {0}
AllWent (FramesItem p) renditions = p.rendition < length renditions →
    IsKeptFrom (keeping_at renditions p.rendition).kept.least (keeping_at renditions p.rendition).kept.steps (keeping_at renditions p.rendition).gone
AllWent (MasterItem text) renditions = Unit {0}

-- behind the last item of a block, a segment of its rendition is left that may go
abbrev pub IsLeftBehind : ItemValue → List KeepingValue → List KeepingValue → Type 0
IsLeftBehind (SegmentItem s) old new = ⊥
IsLeftBehind (MediaItem p) old new = ⊥
IsLeftBehind (FramesItem p) old new = (p.rendition < length new) × IsLeft (keeping_at old p.rendition) (keeping_at new p.rendition)
IsLeftBehind (MasterItem text) old new = ⊥

-- behind the last item of a block, older segments of its rendition were taken away as they may be
abbrev pub SweptBehind : ItemValue → List KeepingValue → List KeepingValue → Type 0
SweptBehind (SegmentItem s) old new = Unit {0}
SweptBehind (MediaItem p) old new = Unit {0}
SweptBehind (FramesItem p) old new = p.rendition < length new → SweepsOn (keeping_at old p.rendition) (keeping_at new p.rendition)
SweptBehind (MasterItem text) old new = Unit {0}

-- how many segments of some renditions were taken away
abbrev pub removed_of : List KeepingValue → ℕ
removed_of renditions = sum_by (λ k. k.gone + k.swept) renditions

-- the texts of a rendition's media playlists, but for the last
abbrev pub with_text : Bool → List ℕ → List (List ℕ) → List (List ℕ)
with_text true text texts = text ∷ texts
with_text false text texts = texts

abbrev pub texts_of : ℕ → List ItemValue → List (List ℕ)
texts_of r [] = []
texts_of r (SegmentItem s ∷ items) = texts_of r items
texts_of r (MediaItem p ∷ items) = with_text (not p.ended && (p.rendition == r)) p.text (texts_of r items)
texts_of r (FramesItem p ∷ items) = texts_of r items
texts_of r (MasterItem text ∷ items) = texts_of r items

-- the steps of these playlists, one each
abbrev pub AreStepsOf : ℕ → List (List ℕ) → List Step → Type 0
AreStepsOf base [] [] = Unit {0}
AreStepsOf base (text ∷ texts) (step ∷ steps) = IsStepOf base text step × AreStepsOf base texts steps
AreStepsOf base [] (step ∷ steps) = ⊥
AreStepsOf base (text ∷ texts) [] = ⊥

-- its retention was told these playlists, behind what was listed when it began
pub record IsTold (k : KeepingValue) (texts : List (List ℕ)) : Type 0 where
  pub told : List Step
  pub all : k.kept.steps ≡ steps_before k.before ++ told
  pub are : AreStepsOf k.base texts told

-- each retention was told the media playlists of its rendition among these items
abbrev pub AreTold : List KeepingValue → List ItemValue → Type 0
AreTold renditions items = (r : ℕ) → r < length renditions → IsTold (keeping_at renditions r) (texts_of r items)

-- this number is that of a segment that was taken away: of one that the rendition began with or was told, or of an older one
abbrev pub WentOf : KeepingValue → ℕ → Type 0
WentOf k number = ((n : ℕ) × (n < k.gone) × (number ≡ k.base + n)) ⊎ ((0 < k.gone) × Contains (take k.swept k.older) number)

-- A playlist was told that begins behind this number.
abbrev pub IsPassed : KeepingValue → ℕ → Type 0
IsPassed k number =
    (i : ℕ) × (i < length k.kept.steps) × (0 < first_of k.kept.steps i) × (number < k.base + first_of k.kept.steps i)

-- each of these names is that of a segment that was taken away, behind which a playlist began that was told
pub record IsGone (renditions : List KeepingValue) (name : List ℕ) : Type 0 where
  pub r : ℕ
  pub number : ℕ
  pub one : r < length renditions
  pub gone : WentOf (keeping_at renditions r) number
  pub passed : IsPassed (keeping_at renditions r) number
  pub named : name ≡ segment_file_name (keeping_at renditions r).name number

abbrev pub AreGone : List (List ℕ) → List KeepingValue → Type 0
AreGone names renditions = (name : List ℕ) → Contains names name → IsGone renditions name

-- The text is a media playlist that begins behind this number: it lists no segment up to it.
pub record BeginsBehind (number : ℕ) (text : List ℕ) : Type 0 where
  pub listing : Listing
  pub sound : IsListing listing
  pub is_text : text ≡ listing_text listing
  pub behind : number < listing.sequence

-- each media playlist of this name among these items does
abbrev pub AllBeginBehind : List ℕ → ℕ → List ItemValue → Type 0
AllBeginBehind name number [] = Unit {0}
AllBeginBehind name number (SegmentItem s ∷ items) = AllBeginBehind name number items
AllBeginBehind name number (MediaItem p ∷ items) = (p.name ≡ name → BeginsBehind number p.text) × AllBeginBehind name number items
AllBeginBehind name number (FramesItem p ∷ items) = AllBeginBehind name number items
AllBeginBehind name number (MasterItem text ∷ items) = AllBeginBehind name number items

-- Of these items the media playlists of this name, from one of them to the last, begin behind this number.
pub record IsUnlisted (name : List ℕ) (number : ℕ) (items : List ItemValue) : Type 0 where
  pub served : is_name name ≡ true
  pub first : List ItemValue
  pub playlist : PlaylistValue
  pub more : List ItemValue
  pub all : items ≡ first ++ MediaItem playlist ∷ more
  pub named : playlist.name ≡ name
  pub behind : AllBeginBehind name number (MediaItem playlist ∷ more)

-- The last media playlist of each rendition among these items begins behind each number that was passed.
abbrev pub AreUnlisted : List KeepingValue → List ItemValue → Type 0
AreUnlisted renditions items = (r : ℕ) → r < length renditions → (number : ℕ) → IsPassed (keeping_at renditions r) number →
    IsUnlisted (keeping_at renditions r).name number items
