use Rattle.pes_time.specs.Times.{times}
use Rattle.pes_time.proofs.Turns.{AreTimes-times, AreTimes-once}
use Rattle.pes_time.proofs.laws.times_are_the_ones.Goals as goal

pub returns-clause-are : goal.returns-clause-are
returns-clause-are c = AreTimes-times

pub returns-clause-only : goal.returns-clause-only
returns-clause-only c = λ list us pts are. AreTimes-once list us (times list) are (AreTimes-times list pts)
