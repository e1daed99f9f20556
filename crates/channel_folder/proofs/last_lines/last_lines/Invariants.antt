use Rattle.std.proofs.Common.{◌≡◌, ℕ, List, ◌++◌, length, codes}
use Rattle.std.specs.Prelude.{All}
use Rattle.playlist_text.specs.Lines.{text_of}
use Rattle.playlist_text.specs.Uris.{escaped}
use Rattle.media_reading.specs.MediaTexts.{IsLine}
use Rattle.channel_folder.specs.ReadTexts.{untold, tell_lines}
use Rattle.channel_folder.proofs.last_lines.last_lines.Given as goal

abbrev pub invariant-line : goal.invariant-line
invariant-line l = record {
  lines : List (List ℕ);
  whole : text_of lines ++ l.rest ≡ l.text;
  each : All IsLine lines;
  told : (name : List ℕ) → l.front ≡ escaped name ++ codes "." → l.told ≡ tell_lines name untold lines;
}

abbrev pub decreases-line : goal.decreases-line
decreases-line l = length l.rest
