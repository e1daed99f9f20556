use Rattle.std.proofs.Common.{arith, ◌≤◌, take, ap, sym, subst}
use Rattle.retention.specs.Steps.{first_of}
use Rattle.keeping.proofs.Before.{before-first}
use Rattle.keeping.proofs.keeping.listed_so_far.Goals as goal

pub push-requires-clause-rises : goal.push-requires-clause-rises
push-requires-clause-rises c i within =
    subst (λ steps. first_of steps i ≤ 0) (ap (λ k. k.steps) (sym c.loop-each.invariant))
    (omega (arith, before-first (take c.loop-each.each-index c.args.micros.now) i))
