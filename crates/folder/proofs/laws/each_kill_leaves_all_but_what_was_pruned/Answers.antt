use Rattle.folder.proofs.Pruning.{each-kill-pruned}
use Rattle.folder.proofs.PruningLosses.{each-loss-pruned}
use Rattle.folder.proofs.laws.each_kill_leaves_all_but_what_was_pruned.Goals as goal

pub returns-clause-kill : goal.returns-clause-kill
returns-clause-kill c = each-kill-pruned

pub returns-clause-power : goal.returns-clause-power
returns-clause-power c = each-loss-pruned
