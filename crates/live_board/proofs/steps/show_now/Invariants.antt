use Rattle.std.specs.Prelude.{◌≡◌, drop}
use Rattle.live_board.proofs.steps.show_now.Given as goal

abbrev pub invariant-loop : goal.invariant-loop
invariant-loop g l = (l.writer.desk.shown.value ≡ l.fn.writer.desk.shown.value) × (drop l.writer.behind l.writer.log.items ≡ drop l.fn.writer.behind l.fn.writer.log.items)
