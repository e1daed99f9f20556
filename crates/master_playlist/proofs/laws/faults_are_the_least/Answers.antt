use Rattle.master_playlist.proofs.Standing.{Stands-fault_of, fault_of-least, fault_of-none}
use Rattle.master_playlist.proofs.laws.faults_are_the_least.Goals as goal

pub returns-clause-stands : goal.returns-clause-stands
returns-clause-stands c = Stands-fault_of

pub returns-clause-least : goal.returns-clause-least
returns-clause-least c = fault_of-least

pub returns-clause-none : goal.returns-clause-none
returns-clause-none c = fault_of-none
