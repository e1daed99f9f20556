use Rattle.std.proofs.Common.{◌≡◌, ◌*◌, drop}
use Rattle.psi_tables.specs.Association.{programs}
use Rattle.psi_tables.proofs.Entries.{behind}
use Rattle.psi_tables.proofs.pat.read_programs.Given as goal

abbrev pub invariant-entry : goal.invariant-entry
invariant-entry l = programs l.fn.bytes ≡ behind l.entries.items (programs (drop (4 * l.part-index) l.fn.bytes))
