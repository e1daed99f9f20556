use Rattle.std.specs.Prelude.{◌≡◌}
use Rattle.work_desk.proofs.worker.serve.Given as goal

-- the pass stays its worker's
abbrev pub invariant-loop : goal.invariant-loop
invariant-loop g l = l.pass.number ≡ l.fn.pass.number
