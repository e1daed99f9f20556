use Rattle.std.proofs.lemmas.Result.{IfOk-weaker}
use Rattle.command_line.proofs.program.Program.matches.Goals as goal

pub returns-clause-ok : goal.returns-clause-ok
returns-clause-ok g c = IfOk-weaker c.try_get_matches_from_mut.result _ _ (λ matches is. is.2) c.try_get_matches_from_mut.ensures.ok
