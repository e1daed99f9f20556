use Rattle.std.proofs.Common.{arith, rules}
use Rattle.keeping.proofs.Before.{all-below}
use Rattle.keeping.proofs.keeping.Keeping.behind.Goals as goal

pub invariant_of-result : goal.invariant_of-result
invariant_of-result c = record {
  are = search rules;
  may_go = λ n lower. absurd (omega (arith, lower));
  swept = omega arith;
  earlier = all-below c.args.behind.base c.args.behind.older.items c.in_ok-older.older.items (search rules);
}
