use Rattle.std.proofs.Common.{arith, ◌∙◌, sym}
use Rattle.pes_time.proofs.Keeping.{IsTied-one, is_taken-large, is_taken-small}
use Rattle.pes_time.proofs.clock.Clock.push.Goals as goal

pub invariant_of-self : goal.invariant_of-self
invariant_of-self c =
    IsTied-one c.self.inside c.push.new.self c.args.pts c.stamp_behind-stamp.result c.self.invariant c.push.ensures c.stamp_behind-stamp.ensures (omega arith) (sym c.is_in_range.ensures ∙ c.if-not-is_in_range.false)

pub returns-then-pts-clause-taken : goal.returns-then-pts-clause-taken
returns-then-pts-clause-taken c = is_taken-large c.args.self.now.gap c.args.self.now.list c.args.pts (omega arith)

pub returns-then-not-is_in_range-clause-taken : goal.returns-then-not-is_in_range-clause-taken
returns-then-not-is_in_range-clause-taken c =
    sym c.if-not-is_in_range.true
    ∙ c.is_in_range.ensures
    ∙ is_taken-small c.self.inside c.args.self.now c.args.pts c.stamp_behind-stamp.result c.self.invariant c.self.view_is c.stamp_behind-stamp.ensures (omega arith)

pub returns-clause-taken : goal.returns-clause-taken
returns-clause-taken c =
    sym c.if-not-is_in_range.false
    ∙ c.is_in_range.ensures
    ∙ is_taken-small c.self.inside c.args.self.now c.args.pts c.stamp_behind-stamp.result c.self.invariant c.self.view_is c.stamp_behind-stamp.ensures (omega arith)
