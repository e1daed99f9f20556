use Rattle.std.proofs.Common.{ℕ, ◌<◌, List, map, get_or}
use Rattle.command_line.specs.EntryTexts.{IsNamed}
use Rattle.command_line.proofs.settings_reason.is_among.Given as goal

abbrev pub invariant-loop-place : goal.invariant-loop-place
invariant-loop-place l = (k : ℕ) (d : List ℕ) → k < l.place → ¬ IsNamed l.name (get_or (map (λ t. t.now) l.entries) k d)
