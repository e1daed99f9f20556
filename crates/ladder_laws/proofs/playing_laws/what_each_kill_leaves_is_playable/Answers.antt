use Rattle.ladder_laws.proofs.Playable.{stays-playable, stays-playable-behind}
use Rattle.ladder_laws.proofs.playing_laws.what_each_kill_leaves_is_playable.Goals as goal

pub returns-clause-alone : goal.returns-clause-alone
returns-clause-alone c = stays-playable

pub returns-clause-behind : goal.returns-clause-behind
returns-clause-behind c = stays-playable-behind
