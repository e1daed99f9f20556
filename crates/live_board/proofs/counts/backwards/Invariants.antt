use Rattle.std.proofs.Common.{ℕ, ◌<◌, ◌≤◌, slice_index}
use Rattle.live_board.proofs.counts.backwards.Given as goal

abbrev pub invariant-loop-rendition : goal.invariant-loop-rendition
invariant-loop-rendition l = (r : ℕ) → r < l.rendition → slice_index l.fn.old r ≤ slice_index l.fn.new r
