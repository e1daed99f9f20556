use Rattle.std.proofs.Common.{ℕ, ◌<◌, map}
use Rattle.hls_check.specs.Unpacking.{packed, IsThere}
use Rattle.hls_check.proofs.opening.first_missing.Given as goal

abbrev pub invariant-loop-i : goal.invariant-loop-i
invariant-loop-i l =
    (j : ℕ) → j < l.i → IsThere (packed l.fn._salt l.entries (map (λ s. s.items) l.segments) l.keys) j
