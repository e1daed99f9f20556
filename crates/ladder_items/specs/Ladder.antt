-- The renditions of a ladder, and the settings that they share.
use Rattle.std.specs.Prelude.{◌≡◌, ℕ, ◌+◌, ◌*◌, ◌<◌, ◌≤◌, Bool, true, false, List, [], map, length, All, Option, Some, None, get_or}
use Rattle.segment_job.specs.Rotation.{KeyRotation}
use Rattle.media_playlist.specs.declared.row.Gone.{Gone}
use Rattle.media_playlist.specs.Gone.{IsSmall}
use Rattle.media_playlist.specs.Listed.{nothing_gone}
use Rattle.media_playlist.specs.Rows.{SegmentRow}
use Rattle.cutter.specs.declared.settings.CutSettings.{CutSettings}
use Rattle.ladder_items.specs.declared.settings.Kind.{Kind}
use Rattle.ladder_items.specs.declared.settings.Kind.TheVariants.{Live, Event}
use Rattle.ladder_items.specs.declared.settings.TheConstants.{MOST_EARLIER}
use Rattle.ladder_items.specs.Shown.{AreNextRows}
use Rattle.master_playlist.specs.Listed.{Listed}
use Rattle.master_playlist.specs.Faults.{fault_of}
use Rattle.limits.specs.declared.TheConstants.{TICKS, LEAST, MOST_TARGET, MOST_FRAME, MOST_GAP, MOST_PACKETS, MOST_PROGRAM, MOST_RENDITIONS, MOST_WINDOW, MOST_QUEUE, LAST_SEGMENT, MOST_KEYS}

-- a rendition: its name and codecs as bytes, its size in pixels, the keys of its segments, the salt of their vectors, what is
-- gone of earlier runs, and the rows of theirs that are still listed
pub record RenditionValue : Type 0 where
  pub name : List ℕ
  pub codecs : List ℕ
  pub width : ℕ
  pub height : ℕ
  pub keys : KeyRotation
  pub salt : Option (List ℕ)
  pub gone : Gone
  pub earlier : List SegmentRow

-- all renditions, how their streams are cut, which segments are listed, the least number of segments to list, and how many
-- segments may be on their way
pub record Ladder : Type 0 where
  pub renditions : List RenditionValue
  pub cut : CutSettings
  pub kind : Kind
  pub window : ℕ
  pub queue : ℕ

abbrev pub no_rendition : RenditionValue
no_rendition = record { name = []; codecs = []; width = 0; height = 0; keys = record { keys = []; period = 0; salt = None; first = 0 }; salt = None; gone = nothing_gone; earlier = [] }

abbrev pub rendition_at : Ladder → ℕ → RenditionValue
rendition_at ladder r = get_or ladder.renditions r no_rendition

-- whether playlists list all segments
abbrev pub is_event : Kind → Bool
is_event Live = false
is_event Event = true

-- the least number of segments that a playlist lists behind removed ones: an event has none removed, and asks for none
abbrev pub least_listed : Kind → ℕ → ℕ
least_listed Live window = window
least_listed Event window = 0

-- how a master playlist lists a rendition with these rates
abbrev pub listed : RenditionValue → ℕ → ℕ → ℕ → ℕ → Listed
listed rendition p a fp fa = record {
  name = rendition.name;
  codecs = rendition.codecs;
  width = rendition.width;
  height = rendition.height;
  peak = p;
  average = a;
  frame_peak = fp;
  frame_average = fa;
}

-- a rendition of which nothing is measured yet
abbrev pub unmeasured : RenditionValue → Listed
unmeasured rendition = listed rendition 0 0 0 0

-- a program that may be asked for
abbrev pub IsProgram : Option ℕ → Type 0
IsProgram None = Unit {0}
IsProgram (Some program) = (LEAST ≤ program) × (program ≤ MOST_PROGRAM)

-- settings of a cutter within their limits
pub record IsCutAllowed (cut : CutSettings) : Type 0 where
  pub program : IsProgram cut.program
  pub target : (LEAST ≤ cut.target) × (cut.target ≤ MOST_TARGET)
  pub segment : (LEAST ≤ cut.segment) × (cut.segment ≤ cut.target * TICKS)
  pub gap : (LEAST ≤ cut.gap) × (cut.gap ≤ MOST_GAP)
  pub frame : (LEAST ≤ cut.frame) × (cut.frame ≤ MOST_FRAME)
  pub most : (LEAST ≤ cut.most) × (cut.most ≤ MOST_PACKETS)

-- a rendition of which nothing came before
pub record IsNew (rendition : RenditionValue) : Type 0 where
  pub first : rendition.keys.first ≡ 0
  pub gone : rendition.gone ≡ nothing_gone
  pub earlier : rendition.earlier ≡ []

-- playlists of an event list all segments from the first one on (RFC 8216, 4.3.3.5): nothing is gone that they would number
abbrev pub HasAll : Kind → Gone → Type 0
HasAll Live gone = Unit {0}
HasAll Event gone = (gone.rows ≡ 0) × (gone.discontinuities ≡ 0)

-- A rendition goes on from what came before: its earlier rows follow on what is gone, their keys are of those that may be, its
-- first segment has the next number behind them, and no count is past the last number.
pub record GoesOn (kind : Kind) (target : ℕ) (rendition : RenditionValue) : Type 0 where
  pub first : rendition.keys.first ≡ rendition.gone.rows + length rendition.earlier
  pub few : length rendition.earlier ≤ MOST_EARLIER
  pub follow : AreNextRows target rendition.gone.rows rendition.earlier
  pub turns : All (λ row. row.key < MOST_KEYS) rendition.earlier
  pub limit : rendition.keys.first ≤ LAST_SEGMENT
  pub discontinuities : rendition.gone.discontinuities + length rendition.earlier ≤ LAST_SEGMENT
  pub small : IsSmall rendition.gone
  pub all : HasAll kind rendition.gone

-- settings within their limits, whose keys hold their salts and whose renditions go on from what came before, whether or not
-- a master playlist can list them
pub record IsWithinLimits (ladder : Ladder) : Type 0 where
  pub renditions : (LEAST ≤ length ladder.renditions) × (length ladder.renditions ≤ MOST_RENDITIONS)
  pub cut : IsCutAllowed ladder.cut
  pub window : (LEAST ≤ ladder.window) × (ladder.window ≤ MOST_WINDOW)
  pub queue : (LEAST ≤ ladder.queue) × (ladder.queue ≤ MOST_QUEUE)
  pub salts : All (λ rendition. rendition.keys.salt ≡ rendition.salt) ladder.renditions
  pub go_on : All (GoesOn ladder.kind ladder.cut.target) ladder.renditions

-- settings that a run takes: their renditions can be listed besides
pub record IsAllowed (ladder : Ladder) : Type 0 where
  pub within : IsWithinLimits ladder
  pub listable : fault_of (map unmeasured ladder.renditions) ≡ None
