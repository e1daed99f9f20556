use Rattle.std.proofs.lemmas.Result.{IfOk-weaker}
use Rattle.command_line.proofs.Adding.{gets-offered}
use Rattle.command_line.proofs.program.Program.with_command.Goals as goal

pub returns : goal.returns
returns c = λ name about faults options is.
    gets-offered c.args.self.command c.in_ok-command.command c.in_ok-command-2.command c.args.command name about faults options is c.in_ok-command.ensures c.in_ok-command-2.ensures
