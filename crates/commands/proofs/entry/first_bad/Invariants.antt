use Rattle.std.proofs.Common.{ℕ, ◌<◌, List, map, slice_index_or}
use Rattle.commands.specs.Entries.{IsGood}
use Rattle.commands.proofs.entry.first_bad.Given as goal

abbrev pub invariant-loop-place : goal.invariant-loop-place
invariant-loop-place l = (k : ℕ) (d : List ℕ) → k < l.place → IsGood (slice_index_or (map (λ t. t.now) l.texts) k d)
