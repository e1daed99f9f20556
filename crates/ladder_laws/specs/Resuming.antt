-- A run that goes on behind another one: what the two give together.
use Rattle.std.specs.Prelude.{◌≡◌, ℕ, List, ◌++◌, length}
use Rattle.cutter.specs.Plans.{SegmentPlan}
use Rattle.playlist_text.specs.Lines.{text_of}
use Rattle.media_playlist.specs.Lines.{media_lines}
use Rattle.media_playlist.specs.Listed.{Pushed, listed, gone_of}
use Rattle.media_playlist.specs.Seen.{with_more}
use Rattle.ladder_items.specs.Ladder.{Ladder, rendition_at}
use Rattle.ladder_items.specs.Rows.{rows_of}
use Rattle.ladder_items.specs.Shown.{in_window}
use Rattle.item_io.specs.Items.{PlaylistValue}
use Rattle.ladder_items.specs.Items.{Part, part_at, shown_of}

-- the window of rendition r behind the segments of these plans
abbrev pub window_of : Ladder → ℕ → List SegmentPlan → Pushed
window_of ladder r plans = in_window (shown_of ladder (rendition_at ladder r) plans)

-- The later ladder has the same target and kind, and its rendition r goes on from these plans of the earlier one, wherever that
-- run was cut off: under the same name and salt, behind the rows that were listed then and what was gone before them.
pub record GoesOnFrom (ladder later : Ladder) (r : ℕ) (plans : List SegmentPlan) : Type 0 where
  pub target : later.cut.target ≡ ladder.cut.target
  pub kind : later.kind ≡ ladder.kind
  pub name : (rendition_at later r).name ≡ (rendition_at ladder r).name
  pub salt : (rendition_at later r).salt ≡ (rendition_at ladder r).salt
  pub gone : (rendition_at later r).gone ≡ gone_of (window_of ladder r plans)
  pub earlier : (rendition_at later r).earlier ≡ listed (window_of ladder r plans)

-- one window over the rows of both runs: of these plans of the earlier one, and of more of the later one
abbrev pub window_of_both : Ladder → Ladder → ℕ → List SegmentPlan → List SegmentPlan → Pushed
window_of_both ladder later r plans more = with_more (window_of ladder r plans) (rows_of (rendition_at later r).keys more)

-- A media playlist that the later run puts, behind these plans of the earlier one, shows one window over the rows of both runs: of
-- its own those of the plans that were given up to there.
pub record IsOfBoth (ladder later : Ladder) (plans : List SegmentPlan) (parts : List Part) (media : PlaylistValue) : Type 0 where
  pub given : List SegmentPlan
  pub rest : List SegmentPlan
  pub plans_are : (part_at parts media.rendition).plans ≡ given ++ rest
  pub count_is : media.count ≡ length given
  pub text_is : media.text ≡ text_of (media_lines (window_of_both ladder later media.rendition plans given) media.ended)
