use Rattle.std.proofs.Common.{refl}
use Rattle.rounds.proofs.Running.{stopped-here}
use Rattle.rounds.proofs.Gates.{none-word}
use Rattle.rounds.proofs.round.starting.round_with.Goals as goal

pub returns-in_default-clause-err : goal.returns-in_default-clause-err
returns-in_default-clause-err g c start on = stopped-here _ _ _ _ _ start _ _ _ _ refl on

pub returns-in_default-opened-clause-err : goal.returns-in_default-opened-clause-err
returns-in_default-opened-clause-err g c start on = stopped-here _ _ _ _ _ start _ _ _ _ refl on

pub returns-in_default-clause-held : goal.returns-in_default-clause-held
returns-in_default-clause-held g c = none-word _ _ refl

pub returns-in_default-opened-clause-held : goal.returns-in_default-opened-clause-held
returns-in_default-opened-clause-held g c = none-word _ _ refl
