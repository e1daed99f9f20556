-- What the playlists in place list, wherever a process is stopped that takes segments away.
use Rattle.std.specs.Prelude.{◌≡◌, ◌≢◌, ℕ, ◌++◌, Bool, true, false, Option, Some, None, List, [], ◌∷◌, codes}
use Rattle.std.specs.List.{All, Contains}
use Rattle.playlist_text.specs.Lines.{text_of}
use Rattle.playlist_text.specs.Names.{is_name}
use Rattle.folder.specs.Moves.{Files, Move, Remove, Same, is_hidden, standing}
use Rattle.folder.specs.Kills.{KillMayLeave}
use Rattle.folder.specs.PowerLoss.{PowerLossMayLeave}
use Rattle.folder.specs.Prefixes.{HasPrefix, IsFailedPut}
use Rattle.folder.specs.Pruning.{SameBut, other_moves, pruned_names}
use Rattle.folder.specs.Puts.{staged_after}
use Rattle.folder.specs.Syncing.{moves_when, placings_when}
use Rattle.item_io.specs.Items.{ItemValue, PlaylistValue, FramesItem, MasterItem, MediaItem, SegmentItem}
use Rattle.item_io.specs.FolderMoves.{ends_block, put_of, puts_of}
use Rattle.keeping.specs.Keepings.{AllBeginBehind, BeginsBehind, IsGone, IsUnlisted, KeepingValue, keeping_at}

-- the files of a rendition's playlists
abbrev pub media_file : List ℕ → List ℕ
media_file name = name ++ codes ".m3u8"

abbrev pub frames_file : List ℕ → List ℕ
frames_file name = name ++ codes ".iframes.m3u8"

-- a line that is a URI: it isn't blank, and doesn't begin with '#' as tags and comments do (RFC 8216, 4.1)
abbrev pub IsUri : List ℕ → Type 0
IsUri [] = ⊥
IsUri (b ∷ line) = b ≢ 35

-- Each URI of an I-frame playlist is a line of this media playlist: it lists no segment that this one doesn't.
pub record ListsNoMore (media frames : List ℕ) : Type 0 where
  pub lines : List (List ℕ)
  pub media_is : media ≡ text_of lines
  pub frame_lines : List (List ℕ)
  pub frames_is : frames ≡ text_of frame_lines
  pub listed : All (λ line. IsUri line → Contains lines line) frame_lines

-- The text is an I-frame playlist that lists only segments which a media playlist lists that begins behind this number.
pub record FramesBeginBehind (number : ℕ) (text : List ℕ) : Type 0 where
  pub media : List ℕ
  pub begins : BeginsBehind number media
  pub no_more : ListsNoMore media text

-- Behind each media playlist stands the I-frame playlist of its rendition, which lists no segment that it doesn't list, and such a
-- playlist stands nowhere else.
abbrev pub FramesFollowOn : Option PlaylistValue → List ItemValue → Type 0
FramesFollowOn None [] = Unit {0}
FramesFollowOn None (SegmentItem s ∷ items) = FramesFollowOn None items
FramesFollowOn None (MediaItem p ∷ items) = (is_name p.name ≡ true) × FramesFollowOn (Some p) items
FramesFollowOn None (FramesItem q ∷ items) = ⊥
FramesFollowOn None (MasterItem text ∷ items) = FramesFollowOn None items
FramesFollowOn (Some p) [] = Unit {0}
FramesFollowOn (Some p) (SegmentItem s ∷ items) = ⊥
FramesFollowOn (Some p) (MediaItem m ∷ items) = ⊥
FramesFollowOn (Some p) (FramesItem q ∷ items) = (q.name ≡ p.name) × ListsNoMore p.text q.text × FramesFollowOn None items
FramesFollowOn (Some p) (MasterItem text ∷ items) = ⊥

abbrev pub FramesFollow : List ItemValue → Type 0
FramesFollow items = FramesFollowOn None items

-- the file of this name is in place, and so are its bytes
pub record HasIn (files : Files) (file : List ℕ) (Is : List ℕ → Type 0) : Type 0 where
  pub text : List ℕ
  pub in_place : files file ≡ Some text
  pub so : Is text

-- A segment of this name was taken away. The media playlist of its rendition that is in place begins behind it, so it doesn't list it;
-- and the I-frame playlist in place lists only segments that such a media playlist lists.
pub record IsMissed (renditions : List KeepingValue) (files : Files) (name : List ℕ) : Type 0 where
  pub went : IsGone renditions name
  pub unlisted : HasIn files (media_file (keeping_at renditions went.r).name) (BeginsBehind went.number)
  pub frames : HasIn files (frames_file (keeping_at renditions went.r).name) (FramesBeginBehind went.number)

-- Whatever stood in the folder before these moves: behind them no playlist in place lists a segment that was taken away.
abbrev pub NoneIsListed : List Move → List KeepingValue → Type 0
NoneIsListed made renditions = (files : Files) (name : List ℕ) → Contains (pruned_names made) name → IsMissed renditions (standing files made) name

-- a prefix of these items is left, but that segments may be missing which were taken away, and which no playlist in place lists
pub record IsLeftUnlisted (items : List ItemValue) (renditions : List KeepingValue) (files left : Files) : Type 0 where
  pub whole : Files
  pub prefix : HasPrefix files (puts_of items) whole
  pub but : SameBut (IsMissed renditions left) left whole

-- A segment of this name went behind these moves. All of the first items were in place then, and nothing was staged; the last media
-- playlist of its rendition among them doesn't list it, and neither does any behind them.
pub record WentBehind (syncs : Bool) (renditions : List KeepingValue) (items : List ItemValue) (before : List Move) (name : List ℕ) : Type 0 where
  pub went : IsGone renditions name
  pub put : List ItemValue
  pub rest : List ItemValue
  pub all : items ≡ put ++ rest
  pub moves : other_moves before ≡ moves_when syncs (puts_of put)
  pub whole : staged_after [] (puts_of put) ≡ []
  pub unlisted : IsUnlisted (keeping_at renditions went.r).name went.number put
  pub later : AllBeginBehind (keeping_at renditions went.r).name went.number rest

-- so went each file that is served and that one of these moves removed
abbrev pub WentInTurn : Bool → List Move → List KeepingValue → List ItemValue → Type 0
WentInTurn syncs made renditions items =
    (before behind : List Move) (name : List ℕ) → made ≡ before ++ Remove name ∷ behind → is_hidden name ≡ false → WentBehind syncs renditions items before name

-- what a put of this item did that failed behind those
abbrev pub IsFailedBehind : Bool → List ItemValue → ItemValue → List Move → Type 0
IsFailedBehind syncs items item more =
    IsFailedPut (placings_when syncs (ends_block item) (staged_after [] (puts_of items)) (put_of item)) (put_of item) more

-- Whatever stood in the folder before these moves: so it is wherever a kill stops them.
abbrev pub EachKillLeavesUnlisted : List Move → List ItemValue → List KeepingValue → Type 0
EachKillLeavesUnlisted made items renditions =
    (files : Files) (left : Files) → KillMayLeave files made left → IsLeftUnlisted items renditions files left

-- And, where it was on the disk, wherever a loss of power does.
abbrev pub EachLossOfPowerLeavesUnlisted : List Move → List ItemValue → List KeepingValue → Type 0
EachLossOfPowerLeavesUnlisted made items renditions =
    (files : Files) (left : Files) → PowerLossMayLeave files (Same files) made left → IsLeftUnlisted items renditions files left
