use Rattle.std.proofs.Common.{subst, sym}
use Rattle.flow_core.specs.Sequences.{IsRight, IsSequence}
use Rattle.flow_core.proofs.Placing.{known-right}
use Rattle.flow_core.proofs.sequence.Sequence.collect_known.Goals as goal

pub returns-clause-right : goal.returns-clause-right
returns-clause-right c =
    known-right c.args.self.now c.args.segment c.in_ok-at.ensures.free.0 (subst IsSequence c.self.view_is c.self.invariant) c.requires.own c.requires.known c.in_ok-at.ensures.free.1

pub put-requires-clause-right : goal.put-requires-clause-right
put-requires-clause-right c =
    subst (IsRight c.args.self.now) (sym c.in_ok-at.ensures.same)
    (known-right c.args.self.now c.args.segment c.in_ok-at.ensures.free.0 (subst IsSequence c.self.view_is c.self.invariant) c.requires.own c.requires.known c.in_ok-at.ensures.free.1)
