use Rattle.psi_tables.proofs.Watching.{tables_before-append, tables_before-take}
use Rattle.psi_tables.proofs.laws.tables_hang_on_earlier_packets.Goals as goal

pub returns : goal.returns
returns c = record { later = tables_before-append; earlier = tables_before-take }
