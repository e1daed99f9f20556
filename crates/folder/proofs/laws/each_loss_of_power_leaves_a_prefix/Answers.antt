use Rattle.folder.proofs.PowerLoss.{each-kill-synced, each-loss}
use Rattle.folder.proofs.laws.each_loss_of_power_leaves_a_prefix.Goals as goal

pub returns-clause-power : goal.returns-clause-power
returns-clause-power c = each-loss

pub returns-clause-kill : goal.returns-clause-kill
returns-clause-kill c = each-kill-synced
