use Rattle.std.proofs.Common.{arith}
use Rattle.program.proofs.told.each_has_a_place.Goals as goal

pub returns : goal.returns
returns c = λ ladder allowed. omega (arith, allowed.within.renditions.1)
