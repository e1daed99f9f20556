-- What settings and playlists keep.
use Rattle.std.specs.Prelude.{◌≡◌, ◌*◌, ◌<◌, ◌≤◌, ◌^◌, false, length, take, drop, IfSome}
use Rattle.std.specs.Arc.{arc_value}
use Rattle.std.specs.String.{string_bytes}
use Rattle.playlist_text.specs.Lines.{text_of}
use Rattle.media_playlist.specs.Lines.{media_lines, iframe_lines}
use Rattle.media_playlist.specs.Listed.{duration}
use Rattle.ladder_items.specs.declared.settings.Rendition.TheInside.{Inside as RenditionInside}
use Rattle.ladder_items.specs.declared.settings.Settings.TheInside.{Inside as SettingsInside}
use Rattle.ladder_items.specs.declared.playlists.Playlists.TheInside.{Inside}
use Rattle.ladder_items.specs.Ladder.{RenditionValue, Ladder}
use Rattle.ladder_items.specs.Shown.{Shown, segment_rates, frame_rates, bytes_of}
use Rattle.limits.specs.declared.TheConstants.{MOST_PACKETS}

abbrev pub rendition_value : RenditionInside → RenditionValue
rendition_value r = record { name = string_bytes r.name; codecs = string_bytes r.codecs; width = r.width; height = r.height; keys = r.keys; salt = r.salt; gone = r.gone; earlier = r.earlier.items }

abbrev pub ladder : SettingsInside → Ladder
ladder s = record { renditions = s.renditions.items; cut = s.cut; kind = s.kind; window = s.window; queue = s.queue }

abbrev pub shown : Inside → Shown
shown p = record {
  name = p.window.name;
  target = p.window.target;
  window = p.window.window;
  event = p.window.event;
  salt = p.window.salt;
  gone = p.window.gone;
  earlier = take p.earlier p.window.rows;
  rows = drop p.earlier p.window.rows;
  ended = p.ended;
}

-- the earlier rows are among those of the window; until the playlists end, the meters are those of all its rows, and the sums
-- are those of the run's own; the kept texts are those of playlists that go on, and none is kept before the first row
pub record IsTied (p : Inside) : Type 0 where
  pub within : p.earlier ≤ length p.window.rows
  pub segments : p.ended ≡ false → p.segments ≡ record { target = p.window.target; spans = segment_rates p.window.rows }
  pub frames : p.ended ≡ false → p.frames ≡ record { target = p.window.target; spans = frame_rates p.window.rows }
  pub micros : p.ended ≡ false → p.micros ≡ duration (drop p.earlier p.window.rows)
  pub bytes : p.ended ≡ false → p.bytes ≡ bytes_of (drop p.earlier p.window.rows)
  pub few : p.ended ≡ false → length (frame_rates p.window.rows) ≤ MOST_PACKETS * length p.window.rows
  pub small : p.ended ≡ false → p.micros ≤ 2 ^ 32 * length p.window.rows
  pub fits : p.ended ≡ false → p.bytes ≤ 2 ^ 32 * length p.window.rows
  pub media : IfSome p.media (λ text. string_bytes (arc_value text) ≡ text_of (media_lines p.window false))
  pub iframes : IfSome p.iframes (λ text. string_bytes (arc_value text) ≡ text_of (iframe_lines p.window false))
  pub media_rows : IfSome p.media (λ text. 0 < length p.window.rows)
  pub iframe_rows : IfSome p.iframes (λ text. 0 < length p.window.rows)
