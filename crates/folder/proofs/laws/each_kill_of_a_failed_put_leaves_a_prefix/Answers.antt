use Rattle.folder.proofs.Stops.{each-stop}
use Rattle.folder.proofs.laws.each_kill_of_a_failed_put_leaves_a_prefix.Goals as goal

pub returns : goal.returns
returns c = each-stop
