use Rattle.std.proofs.Common.{◌≡◌, ℕ, ◌<◌, map, length, get_or, []}
use Rattle.hls_check.specs.Unpacking.{packed}
use Rattle.hls_check.specs.Texts.{OpensAlone}
use Rattle.hls_check.proofs.opening.open_segments.Given as goal

abbrev pub invariant-loop-i : goal.invariant-loop-i
invariant-loop-i l = record {
  each_one : length l.texts.items ≡ l.i;
  opens : (j : ℕ) → j < l.i → OpensAlone (packed l.salt l.entries (map (λ s. s.items) l.segments) l.keys) j (get_or (map (λ t. t.items) l.texts.items) j []);
}
