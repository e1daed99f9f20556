use Rattle.std.proofs.Common.{ℕ, ◌<◌, ◌≤◌, List, map, get_or}
use Rattle.commands.specs.LadderOptions.{key_count}
use Rattle.commands.proofs.ladder_settings.has_too_many.Given as goal

abbrev pub invariant-loop-place : goal.invariant-loop-place
invariant-loop-place l = (k : ℕ) (d : List ℕ) → k < l.place → key_count (get_or (map (λ t. t.now) l.texts) k d) ≤ 4096
