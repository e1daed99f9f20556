use Rattle.std.proofs.Common.{◌≡◌, ℕ, List, ◌++◌, length}
use Rattle.std.specs.Prelude.{All}
use Rattle.playlist_text.specs.Lines.{text_of}
use Rattle.media_reading.specs.MediaTexts.{IsLine}
use Rattle.resume.specs.Picking.{no_picks, pick_lines}
use Rattle.resume.specs.Picked.{picks_of}
use Rattle.resume.proofs.picking.pick.Given as goal

abbrev pub invariant-line : goal.invariant-line
invariant-line l = record {
  lines : List (List ℕ);
  whole : text_of lines ++ l.rest ≡ l.text;
  each : All IsLine lines;
  picked : picks_of l.picked ≡ pick_lines no_picks lines;
}

abbrev pub decreases-line : goal.decreases-line
decreases-line l = length l.rest
