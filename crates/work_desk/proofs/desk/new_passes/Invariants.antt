use Rattle.std.proofs.Common.{◌≡◌, ◌+◌, ℕ, Some, length, slice_get}
use Rattle.work_desk.proofs.desk.new_passes.Given as goal

-- each pass so far has its number, and the rest has a part for each that is to come
abbrev pub invariant-loop-number : goal.invariant-loop-number
invariant-loop-number g l = (l.rest.parts + l.number ≡ l.workers) × (l.rest.amount ≡ 0) × (length l.passes.items ≡ l.number)
    × ((i : ℕ) (pass : _) → slice_get l.passes.items i ≡ Some pass → (pass.number ≡ i) × (pass.count ≡ 0))
