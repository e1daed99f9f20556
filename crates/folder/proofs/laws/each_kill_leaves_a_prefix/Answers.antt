use Rattle.folder.proofs.Kills.{each-kill}
use Rattle.folder.proofs.laws.each_kill_leaves_a_prefix.Goals as goal

pub returns : goal.returns
returns c = each-kill
