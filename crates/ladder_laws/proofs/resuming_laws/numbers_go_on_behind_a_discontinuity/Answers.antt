use Rattle.ladder_laws.proofs.Resuming.{both-numbers, first-breaks}
use Rattle.ladder_laws.proofs.resuming_laws.numbers_go_on_behind_a_discontinuity.Goals as goal

pub returns-clause-numbers : goal.returns-clause-numbers
returns-clause-numbers c = both-numbers

pub returns-clause-breaks : goal.returns-clause-breaks
returns-clause-breaks c = first-breaks
