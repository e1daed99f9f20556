use Rattle.std.proofs.Common.{drop}
use Rattle.hex.specs.Hex.{encode_upper}
use Rattle.media_reading.proofs.Fronts.{IsFront}
use Rattle.media_reading.proofs.spelled.strip_digits.Given as goal

abbrev pub invariant-loop-byte : goal.invariant-loop-byte
invariant-loop-byte l = IsFront l.text (encode_upper l.bytes) l.rest (encode_upper (drop l.byte-index l.bytes))
