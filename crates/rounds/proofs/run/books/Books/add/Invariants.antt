use Rattle.std.proofs.Common.{◌≡◌, ◌+◌, ◌<◌, ◌≤◌, ℕ, length, take}
use Rattle.std.specs.Prelude.{sum, slice_index_or}
use Rattle.rounds.proofs.run.books.Books.add.Given as goal

abbrev pub invariant-loop-i : goal.invariant-loop-i
invariant-loop-i l = record {
  total : sum l.workers.items ≡ sum l.fn.self.workers.items + sum (take l.i l.claims);
  each : length l.workers.items ≡ length l.fn.self.workers.items;
  done : (k : ℕ) → k < l.i → slice_index_or l.workers.items k 0 ≡ slice_index_or l.fn.self.workers.items k 0 + slice_index_or l.claims k 0;
  left : (k : ℕ) → l.i ≤ k → slice_index_or l.workers.items k 0 ≡ slice_index_or l.fn.self.workers.items k 0;
}
