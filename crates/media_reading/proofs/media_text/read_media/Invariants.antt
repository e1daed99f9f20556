use Rattle.std.proofs.Common.{◌≡◌, ℕ, ◌+◌, List, ◌++◌, length, Some}
use Rattle.std.specs.Prelude.{All}
use Rattle.playlist_text.specs.Lines.{text_of}
use Rattle.media_reading.specs.MediaTexts.{IsLine}
use Rattle.media_reading.specs.State.{fresh, steps, progress_of}
use Rattle.media_reading.proofs.media_text.read_media.Given as goal

abbrev pub invariant-line : goal.invariant-line
invariant-line l = record {
  lines : List (List ℕ);
  whole : text_of lines ++ l.rest ≡ l.text;
  each : All IsLine lines;
  taken : steps fresh lines ≡ Some (progress_of l.reading);
  number : l.number ≡ length lines + 1;
}

abbrev pub decreases-line : goal.decreases-line
decreases-line l = length l.rest
