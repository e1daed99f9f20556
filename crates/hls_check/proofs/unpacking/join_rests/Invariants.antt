use Rattle.std.proofs.Common.{◌≡◌, ℕ, List, ◌<◌, map, length, get_or, []}
use Rattle.std.specs.List.{concat}
use Rattle.hls_check.specs.Unpacking.{BeginsWithHead}
use Rattle.hls_check.proofs.unpacking.join_rests.Given as goal

abbrev pub invariant-loop-i : goal.invariant-loop-i
invariant-loop-i l = record {
  rests : List (List ℕ);
  each_one : length rests ≡ l.i;
  begins : (j : ℕ) → j < l.i → BeginsWithHead (get_or (map (λ t. t.items) l.texts) j []) (get_or rests j []);
  joined : l.joined.items ≡ concat rests;
}
