use Rattle.percent_encoding.specs.Iter.{encoded_text}
use Rattle.playlist_text.specs.Uris.{escaped}
use Rattle.media_reading.proofs.Fronts.{IsFront}
use Rattle.media_reading.proofs.spelled.strip_name.Given as goal

abbrev pub invariant-loop-piece : goal.invariant-loop-piece
invariant-loop-piece l = IsFront l.text (escaped l.name) l.rest (encoded_text l.piece-iterator)
