use Rattle.std.specs.Prelude.{◌≡◌}
use Rattle.live_board.proofs.steps.append_now.Given as goal

abbrev pub invariant-loop : goal.invariant-loop
invariant-loop g l = (l.writer.desk ≡ l.fn.writer.desk) × (l.moment ≡ l.fn.moment)
