use Rattle.std.proofs.Common.{arith}
use Rattle.std.proofs.lemmas.Option.{slice_get_within}
use Rattle.resume.proofs.Evening.{even-more}
use Rattle.resume.proofs.even.most_breaks.Goals as goal

pub loop-r-preserved : goal.loop-r-preserved
loop-r-preserved c =
    even-more c.args.kind c.args.found.now c.loop-r.r c.loop-r.invariant (λ i a b lt. c.loop-i.invariant i a b (omega (arith, lt, c.loop-i-test.false)))

pub returns-clause-even : goal.returns-clause-even
returns-clause-even c = λ i j a b is_a is_b.
    c.loop-r.invariant i j a b
    (omega (arith, slice_get_within c.args.found.now i a is_a, c.loop-r-test.false))
    (omega (arith, slice_get_within c.args.found.now j b is_b, c.loop-r-test.false))
    is_a is_b
