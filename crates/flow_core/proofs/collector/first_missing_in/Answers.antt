use Rattle.cutter.specs.Lent.{lent}
use Rattle.flow_core.proofs.Firsts.{first-missing}
use Rattle.flow_core.proofs.collector.first_missing_in.Goals as goal

pub returns-in-Some-clause-first : goal.returns-in-Some-clause-first
returns-in-Some-clause-first c =
    first-missing c.args.sequences.now c.loop-r.r c.index-sequences-r.result (lent c.in-Some.plan) c.loop-r-test.true c.index-sequences-r.is c.in-Some.ensures.first c.loop-r.invariant
