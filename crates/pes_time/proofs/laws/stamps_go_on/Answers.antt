use Rattle.pes_time.proofs.Behind.{times-stamp_of, stamp_of-epoch}
use Rattle.pes_time.proofs.laws.stamps_go_on.Goals as goal

pub returns-clause-time : goal.returns-clause-time
returns-clause-time c = times-stamp_of

pub returns-clause-epoch : goal.returns-clause-epoch
returns-clause-epoch c = stamp_of-epoch
