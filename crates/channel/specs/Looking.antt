-- Whether the keys of a ladder open what its playlists list.
use Rattle.std.specs.Prelude.{◌≡◌, ◌≢◌, ⊤, ℕ, ◌<◌, Option, Some, None, List, [], ◌∷◌, All, slice_get}
use Rattle.item_io.specs.FileNames.{segment_file_name}
use Rattle.media_playlist.specs.Rows.{SegmentRow}
use Rattle.media_playlist.specs.Lines.{entry_of}
use Rattle.ladder_items.specs.Ladder.{RenditionValue}
use Rattle.hls_check.specs.Unpacking.{Packed, packed, HasBytes, HasHead, IsTold}
use Rattle.hls_check.specs.declared.fault.UnpackFault.{UnpackFault}
use Rattle.hls_check.specs.declared.fault.UnpackFault.TheVariants.{NoMemory as NoMemoryToUnpack}
use Rattle.channel.specs.Faults.{of_unpacking}
use Rattle.resume.specs.Restoring.{RestoredValue}
use Rattle.channel_folder.specs.declared.fault.WhyNot.TheVariants.{Lost}
use Rattle.limits.specs.declared.TheConstants.{MOST_KEYS}
use Rattle.channel.specs.declared.fault.ResumingFault.{ResumingFault}
use Rattle.channel.specs.declared.fault.ResumingFault.TheVariants.{Unread, Outlet, NoMemory, Not, OtherKeys}

-- a segment that is listed alone, with its bytes and under the salt and the keys of its rendition
abbrev pub alone : RenditionValue → SegmentRow → List ℕ → Packed
alone rendition row bytes = packed rendition.salt (entry_of row ∷ []) (bytes ∷ []) rendition.keys.keys

-- its file is there, and opens under the key of its index to a segment's head and what is behind it
pub record OpensAsListed (Gives : List ℕ → List ℕ → Type 0) (rendition : RenditionValue) (row : SegmentRow) : Type 0 where
  pub bytes : List ℕ
  pub gives : Gives (segment_file_name rendition.name row.number) bytes
  pub opens : HasHead (alone rendition row bytes) 0

-- its file is there, and doesn't
pub record IsClosed (Gives : List ℕ → List ℕ → Type 0) (rendition : RenditionValue) (row : SegmentRow) : Type 0 where
  pub bytes : List ℕ
  pub gives : Gives (segment_file_name rendition.name row.number) bytes
  pub closed : ¬ HasHead (alone rendition row bytes) 0

-- why the file of a segment of rendition r isn't read
abbrev pub IsReadFault : Type 0 → Type 0 → Type 0 → ℕ → ℕ → ResumingFault → Type 0
IsReadFault Refuses Wants Lacks r number Unread = Refuses
IsReadFault Refuses Wants Lacks r number Outlet = ⊥
IsReadFault Refuses Wants Lacks r number NoMemory = Wants
IsReadFault Refuses Wants Lacks r number (Not q why) = (q ≡ r) × (why ≡ Lost number) × Lacks
IsReadFault Refuses Wants Lacks r number (OtherKeys q key) = ⊥

-- why what rendition r lists under this key doesn't unpack: memory is wanted only for a segment with bytes
abbrev pub IsPackedFault : Packed → ℕ → ℕ → ResumingFault → Type 0
IsPackedFault p r key fault = (why : UnpackFault) × (fault ≡ of_unpacking r key why) × IsTold p why × (why ≡ NoMemoryToUnpack → HasBytes p)

-- why a segment alone, which rendition r lists under this key, isn't opened
abbrev pub IsShutFault : Packed → ℕ → ℕ → ResumingFault → Type 0
IsShutFault p r key Unread = ⊥
IsShutFault p r key Outlet = ⊥
IsShutFault p r key NoMemory = ⊤
IsShutFault p r key (Not q why) = ⊥
IsShutFault p r key (OtherKeys q k) = (q ≡ r) × (k ≡ key) × ¬ HasHead p 0

-- why a segment of rendition r isn't opened: its file can't be read, isn't there, or doesn't open
abbrev pub IsRowFault : (List ℕ → Type 0) → (List ℕ → List ℕ → Type 0) → (List ℕ → Type 0) → ℕ → RenditionValue → SegmentRow → ResumingFault → Type 0
IsRowFault Shut Gives Lacks r rendition row Unread = Shut (segment_file_name rendition.name row.number)
IsRowFault Shut Gives Lacks r rendition row Outlet = ⊥
IsRowFault Shut Gives Lacks r rendition row NoMemory = ⊤
IsRowFault Shut Gives Lacks r rendition row (Not q why) =
    (q ≡ r) × (why ≡ Lost row.number) × Lacks (segment_file_name rendition.name row.number)
IsRowFault Shut Gives Lacks r rendition row (OtherKeys q key) = (q ≡ r) × (key ≡ row.key) × IsClosed Gives rendition row

-- the row at a place is the last one of its key
pub record IsLastOfKey (rows : List SegmentRow) (i : ℕ) (row : SegmentRow) : Type 0 where
  pub at : slice_get rows i ≡ Some row
  pub last : (j : ℕ) (other : SegmentRow) → i < j → slice_get rows j ≡ Some other → other.key ≢ row.key

-- of each key that rows have, the last segment opens
abbrev pub KeysOpen : (List ℕ → List ℕ → Type 0) → RenditionValue → List SegmentRow → Type 0
KeysOpen Gives rendition rows = (i : ℕ) (row : SegmentRow) → IsLastOfKey rows i row → OpensAsListed Gives rendition row

-- The last segment of a key isn't opened, and those of keys whose last segment comes later are.
pub record IsKeyFault (Shut : List ℕ → Type 0) (Gives : List ℕ → List ℕ → Type 0) (Lacks : List ℕ → Type 0) (r : ℕ) (rendition : RenditionValue)
    (rows : List SegmentRow) (fault : ResumingFault) : Type 0 where
  pub place : ℕ
  pub row : SegmentRow
  pub last : IsLastOfKey rows place row
  pub behind : (i : ℕ) (other : SegmentRow) → place < i → IsLastOfKey rows i other → OpensAsListed Gives rendition other
  pub told : IsRowFault Shut Gives Lacks r rendition row fault

-- the rows of earlier runs that a rendition goes on behind
abbrev pub rows_of : Option RestoredValue → List SegmentRow
rows_of None = []
rows_of (Some r) = r.earlier

-- their keys are of those that may be
abbrev pub TakeTurns : List (Option RestoredValue) → Type 0
TakeTurns found = (r : ℕ) (one : Option RestoredValue) → slice_get found r ≡ Some one → All (λ row. row.key < MOST_KEYS) (rows_of one)

-- the keys of each rendition open what was found of it
abbrev pub AllKeysOpen : (List ℕ → List ℕ → Type 0) → List RenditionValue → List (Option RestoredValue) → Type 0
AllKeysOpen Gives renditions found = (r : ℕ) (rendition : RenditionValue) (one : Option RestoredValue) → slice_get renditions r ≡ Some rendition →
    slice_get found r ≡ Some one → KeysOpen Gives rendition (rows_of one)

-- those of one don't, and it is the first of which they don't
pub record IsLookFault (Shut : List ℕ → Type 0) (Gives : List ℕ → List ℕ → Type 0) (Lacks : List ℕ → Type 0) (renditions : List RenditionValue)
    (found : List (Option RestoredValue)) (fault : ResumingFault) : Type 0 where
  pub r : ℕ
  pub rendition : RenditionValue
  pub one : Option RestoredValue
  pub rendition_is : slice_get renditions r ≡ Some rendition
  pub one_is : slice_get found r ≡ Some one
  pub before : (q : ℕ) (other : RenditionValue) (that : Option RestoredValue) → q < r → slice_get renditions q ≡ Some other →
      slice_get found q ≡ Some that → KeysOpen Gives other (rows_of that)
  pub is : IsKeyFault Shut Gives Lacks r rendition (rows_of one) fault
