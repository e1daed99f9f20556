use Rattle.std.proofs.Common.{[]}
use Rattle.keeping.proofs.Left.{held-first, held-of, killed-held, killed-refused, lost-held, lost-refused}
use Rattle.keeping.proofs.laws.given_items_are_left_but_what_went.Goals as goal

pub returns-clause-killed : goal.returns-clause-killed
returns-clause-killed c syncs syncs_then made made_then staged staged_then failures renditions renditions_then items given rest none idle told grows well blocks follow all =
    killed-held syncs syncs_then made_then renditions_then items given rest blocks follow all staged_then failures
    (grows.follows (held-of syncs []) (held-first syncs made staged renditions none idle told)) well

pub returns-clause-lost : goal.returns-clause-lost
returns-clause-lost c syncs syncs_then made made_then staged staged_then failures renditions renditions_then items given rest none idle told grows well blocks follow all =
    lost-held syncs syncs_then made_then renditions_then items given rest blocks follow all staged_then failures
    (grows.follows (held-of syncs []) (held-first syncs made staged renditions none idle told)) well

pub returns-clause-refused : goal.returns-clause-refused
returns-clause-refused c syncs syncs_then made made_then staged renditions renditions_then items given rest item none idle told breaks blocks follow all =
    killed-refused syncs syncs_then made_then renditions_then items given rest blocks follow item all
    (breaks.follows (held-of syncs []) (held-first syncs made staged renditions none idle told))

pub returns-clause-refused_and_lost : goal.returns-clause-refused_and_lost
returns-clause-refused_and_lost c syncs syncs_then made made_then staged renditions renditions_then items given rest item none idle told breaks blocks follow all =
    lost-refused syncs syncs_then made_then renditions_then items given rest blocks follow item all
    (breaks.follows (held-of syncs []) (held-first syncs made staged renditions none idle told))
