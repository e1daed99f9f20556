use Rattle.std.proofs.Common.{sym}
use Rattle.psi_tables.proofs.Entries.{is_some-programs}
use Rattle.psi_tables.proofs.pat.are_programs.Goals as goal

pub returns : goal.returns
returns c = sym (is_some-programs c.args.bytes.now)
