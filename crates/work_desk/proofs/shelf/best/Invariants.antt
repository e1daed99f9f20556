use Rattle.std.proofs.Common.{◌≤◌, ◌<◌, ℕ, length, map}
use Rattle.std.specs.Prelude.{slice_index_or, vec_capacity}
use Rattle.work_desk.specs.Shelves.{misfit}
use Rattle.work_desk.proofs.shelf.best.Given as goal

-- none so far fits less badly
abbrev pub invariant-loop-i : goal.invariant-loop-i
invariant-loop-i l = (l.best < length l.buffers)
    × ((k : ℕ) → k < l.i → misfit l.bytes (slice_index_or (map vec_capacity l.buffers) l.best 0) ≤ misfit l.bytes (slice_index_or (map vec_capacity l.buffers) k 0))
