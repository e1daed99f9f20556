use Rattle.ladder_laws.proofs.Turns.{weaves-in-turn, weaves-behind}
use Rattle.ladder_laws.proofs.playing_laws.listed_files_are_put_before.Goals as goal

pub returns-clause-alone : goal.returns-clause-alone
returns-clause-alone c = weaves-in-turn

pub returns-clause-behind : goal.returns-clause-behind
returns-clause-behind c = weaves-behind
