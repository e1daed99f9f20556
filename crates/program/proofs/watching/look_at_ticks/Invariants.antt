use Rattle.std.proofs.Common.{◌≡◌}
use Rattle.program.specs.Metered.{StaysWriter}
use Rattle.program.proofs.watching.look_at_ticks.Given as goal

abbrev pub invariant-loop : goal.invariant-loop
invariant-loop g l = (l.viewer.board ≡ l.initial.viewer.board) × StaysWriter l.initial.writer l.writer
