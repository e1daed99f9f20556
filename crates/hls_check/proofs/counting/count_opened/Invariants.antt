use Rattle.std.proofs.Common.{map}
use Rattle.hls_check.specs.Unpacking.{packed}
use Rattle.hls_check.proofs.Counted.{CountedSoFar}
use Rattle.hls_check.proofs.counting.count_opened.Given as goal

abbrev pub invariant-loop-i : goal.invariant-loop-i
invariant-loop-i l = CountedSoFar (packed l.salt l.entries (map (λ s. s.items) l.segments) l.keys) l.i l.headless l.bytes
