-- Sources that read ahead.
use Rattle.std.specs.Prelude.{◌≡◌, ◌≢◌, ◌⊎◌, ℕ, zero, suc, ◌+◌, ◌-◌, ◌<◌, ◌≤◌, Bool, true, false, ◌&&◌, List, [], ◌∷◌, ◌++◌, length, take, drop, max, if◌then◌else◌, Option, Some, None, slice_index_or}
use Rattle.std.specs.Time.{instant_nanos}
use Rattle.std.specs.declared.time.Duration.{Duration}
use Rattle.std.specs.declared.time.Instant.{Instant}
use Rattle.std.specs.Io.KnownBytes.{IsAtEnd, prepend_known}
use Rattle.item_io.specs.Views.{SourceView, source_view}
use Rattle.rtrb.specs.Ring.{known_items, received}
use Rattle.std.specs.Arc.{arc_value}
use Rattle.read_ahead.specs.Messages.{untold}
use Rattle.read_ahead.specs.Shares.{backlog_of, room_for}
use Rattle.read_ahead.specs.declared.backlog.Backlog.{Backlog}
use Rattle.read_ahead.specs.declared.backlogs.Backlogs.{Backlogs}
use Rattle.read_ahead.specs.declared.view.InputsView.{InputsView}
use Rattle.read_ahead.specs.declared.incoming.Incoming.{Incoming}
use Rattle.read_ahead.specs.declared.incoming.Phase.{Phase}
use Rattle.read_ahead.specs.declared.incoming.Piece.{Piece}
use Rattle.read_ahead.specs.declared.incoming.Phase.TheVariants.{Opening, Going, Ended, Failed}
use Rattle.read_ahead.specs.declared.message.Message.{Message}
use Rattle.read_ahead.specs.declared.message.Message.TheVariants as Told

-- the bytes that weren't given yet, where the input tells them: those of the front block, and those that weren't told
abbrev pub rest_of : {I : Type 0} → (I → Option (List ℕ)) → Incoming I → Option (List ℕ)
rest_of holds i = prepend_known (drop i.at i.front.items) (untold holds (received i.consumer))

-- the bytes of the front block that were passed last, so many of them
abbrev pub passed_of : {I : Type 0} → ℕ → Incoming I → List ℕ
passed_of count i = take count (drop (i.at - count) i.front.items)

-- the bytes that a read gave: those that the front block has passed, where they are lent, or those at the buffer's front
abbrev pub bytes_of_piece : {I : Type 0} → Piece → Incoming I → List ℕ → List ℕ
bytes_of_piece piece i buffer = if piece.is_lent then passed_of piece.given.count i else take piece.given.count buffer

-- the input was asked for; while it's being opened nothing else was told, and its end was told only where no byte is left
pub record IsSound {I : Type 0} (holds : I → Option (List ℕ)) (i : Incoming I) : Type 0 where
  pub some : 0 < length (received i.consumer)
  pub within : i.at ≤ length i.front.items
  pub opening : i.phase ≡ Opening → length (received i.consumer) ≡ 1
  pub empty : i.phase ≡ Opening → i.front.items ≡ []
  pub ended : i.phase ≡ Ended → IsAtEnd (untold holds (received i.consumer))

-- where the source was left, its input is no longer opened, and no more comes of it
abbrev pub StopsIfLeft : Bool → Phase → Type 0
StopsIfLeft is_left phase = is_left ≡ true → (phase ≢ Opening) × (phase ≢ Going)

-- nothing can be given at once: the front block is used up, and the next one doesn't lie ready, or none comes
pub record IsDry {I : Type 0} (i : Incoming I) : Type 0 where
  pub used : length i.front.items ≤ i.at
  pub none : (i.phase ≡ Going) → known_items i.consumer ≡ []

-- a read would answer at once, without a look at how long the input has been silent: a byte lies ready, or the end, or a failure
abbrev pub LiesReady : {I : Type 0} → Incoming I → Type 0
LiesReady i = (i.at < length i.front.items) ⊎ (i.phase ≡ Ended) ⊎ (i.phase ≡ Failed) ⊎ (0 < length (known_items i.consumer))

-- it would wait
pub record Waits {I : Type 0} (i : Incoming I) : Type 0 where
  pub used : length i.front.items ≤ i.at
  pub unended : i.phase ≢ Ended
  pub unfailed : i.phase ≢ Failed
  pub none : known_items i.consumer ≡ []

-- a source, as its callers see it: the bytes that are left, where the input tells them, how many reads gave a byte, how many
-- failed, and whether it was left and not read since; its input's number, whether that is a plain file, for how long it may be silent,
-- and how many bytes of it may lie ready; how many inputs were opened together
pub record Seen : Type 0 where
  pub left : Option (List ℕ)
  pub reads : ℕ
  pub failures : ℕ
  pub is_left : Bool
  pub number : ℕ
  pub is_file : Bool
  pub stall : Option Duration
  pub room : ℕ
  pub inputs : ℕ

-- an input that is read ahead, as a run sees it
abbrev pub ahead_input : SourceView Seen
ahead_input = source_view (λ s. s.left) (λ s. s.reads) (λ s. s.failures) (λ s. s.is_left)

-- whether the input of this number is a plain file
abbrev pub is_file_of : Backlogs → ℕ → Bool
is_file_of backlogs number = slice_index_or backlogs.files.items number false

-- how many bytes of it may lie ready, but for a block that was put where none did
abbrev pub room_of : Backlogs → ℕ → ℕ
room_of backlogs number = room_for backlogs.limits.ahead (length backlogs.taken.items) (is_file_of backlogs number)

-- what callers see of a source that wasn't read yet: of an input of this number that has these bytes
abbrev pub new_seen : Backlogs → ℕ → Option (List ℕ) → Seen
new_seen backlogs number left = record {
  left = left;
  reads = 0;
  failures = 0;
  is_left = false;
  number = number;
  is_file = is_file_of backlogs number;
  stall = backlogs.limits.stall;
  room = room_of backlogs number;
  inputs = length backlogs.taken.items;
}

-- of inputs that have these bytes, from this number on
abbrev pub all_seen : Backlogs → ℕ → List (Option (List ℕ)) → List Seen
all_seen backlogs number [] = []
all_seen backlogs number (left ∷ rest) = new_seen backlogs number left ∷ all_seen backlogs (number + 1) rest

-- of what comes of this input
abbrev pub seen_first : {I : Type 0} → (I → Option (List ℕ)) → Incoming I → Seen
seen_first holds i = new_seen (arc_value i.backlogs) i.number (rest_of holds i)

-- a run may begin with the input: it is open, or opening it may wait for a writer
pub record MayBegin {I : Type 0} (i : Incoming I) : Type 0 where
  pub stands : i.phase ≢ Failed
  pub waits : i.phase ≡ Opening → i.may_wait ≡ true

-- whether a run may begin with the input isn't known: it is being opened, and that may not wait, or the moment for it isn't over
pub record IsUnknown {I : Type 0} (is_over : Bool) (i : Incoming I) : Type 0 where
  pub opening : i.phase ≡ Opening
  pub unawaited : (is_over && i.may_wait) ≡ false

-- how an input stands that was being opened, by what was told next
abbrev pub opened_by : {I : Type 0} → Message I → Phase
opened_by (Told.Asked s n) = Failed
opened_by (Told.Opened o) = Going
opened_by (Told.Bytes block) = Failed
opened_by Told.End = Failed
opened_by Told.Failed = Failed
opened_by (Told.Refused r) = Failed

-- how an open one stands
abbrev pub going_by : {I : Type 0} → Message I → Phase
going_by (Told.Asked s n) = Failed
going_by (Told.Opened o) = Failed
going_by (Told.Bytes block) = Going
going_by Told.End = Ended
going_by Told.Failed = Failed
going_by (Told.Refused r) = Failed

-- The next message was taken, and the input stands as that says.
abbrev pub TakesNext : {I : Type 0} → (Message I → Phase) → List (Message I) → List (Message I) → Phase → Type 0
TakesNext {I} phase_by before now phase = (message : Message I) × (now ≡ before ++ message ∷ []) × (phase ≡ phase_by message)

-- The next message was taken, and the input stands as that says; or none came, and it has failed.
abbrev pub StandsBy : {I : Type 0} → (Message I → Phase) → List (Message I) → List (Message I) → Phase → Type 0
StandsBy {I} phase_by before now phase = ((now ≡ before) × (phase ≡ Failed)) ⊎ TakesNext phase_by before now phase

-- No message was taken, and an open input stands as it did; or some were, and it stands as the last of them says.
abbrev pub StandsByLast : {I : Type 0} → List (Message I) → List (Message I) → Phase → Phase → Type 0
StandsByLast {I} before now old new = ((now ≡ before) × (new ≡ old)) ⊎ ((more : List (Message I)) × TakesNext going_by (before ++ more) now new)

-- for how long an input was waited for since then, in nanoseconds: nothing where no more of it is given, or it isn't waited for
abbrev pub silence_of : Bool → Option Instant → Option Instant → ℕ
silence_of true since now = 0
silence_of false None now = 0
silence_of false (Some since) None = 0
silence_of false (Some since) (Some now) = instant_nanos now - instant_nanos since

-- how long that one of the first n inputs was waited for that was waited for the longest, in nanoseconds
abbrev pub longest_silence : Option Instant → List Backlog → List (Option Instant) → ℕ → ℕ
longest_silence now backlogs since zero = 0
longest_silence now backlogs since (suc n) =
    max (longest_silence now backlogs since n) (silence_of (backlog_of backlogs n).left (slice_index_or since n None) now)

-- how many inputs a view shows
abbrev pub inputs_of : InputsView → ℕ
inputs_of view = length (arc_value view.backlogs).taken.items
