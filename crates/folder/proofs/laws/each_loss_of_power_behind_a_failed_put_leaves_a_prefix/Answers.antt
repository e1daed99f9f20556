use Rattle.folder.proofs.Losses.{each-killed-stop, each-lost-stop}
use Rattle.folder.proofs.laws.each_loss_of_power_behind_a_failed_put_leaves_a_prefix.Goals as goal

pub returns-clause-power : goal.returns-clause-power
returns-clause-power c = each-lost-stop

pub returns-clause-kill : goal.returns-clause-kill
returns-clause-kill c = each-killed-stop
