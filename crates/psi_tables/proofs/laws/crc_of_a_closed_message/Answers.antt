use Rattle.psi_tables.proofs.Closing.{closes, closed}
use Rattle.psi_tables.proofs.laws.crc_of_a_closed_message.Goals as goal

pub returns : goal.returns
returns c = λ m w in_m in_w four. (closed m w in_m in_w four, closes m w in_m in_w four)
