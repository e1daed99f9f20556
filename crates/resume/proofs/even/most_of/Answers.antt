use Rattle.std.proofs.Common.{◌≡◌, ◌<◌, ◌-◌, ℕ, length, sym, ap, ◌∙◌, refl, arith}
use Rattle.resume.proofs.Evening.{most-past, most-step}
use Rattle.resume.proofs.even.most_of.Goals as goal

pub loop-k-init : goal.loop-k-init
loop-k-init c = sym (most-past c.args.found.now (length c.args.found.now - 0) (omega arith))

pub loop-k-preserved : goal.loop-k-preserved
loop-k-preserved c =
    let lt : c.loop-k.k < length c.args.found.now = omega (arith, c.loop-k-test.true) in
    c.with_one-most.ensures ∙ most-step c.args.found.now c.loop-k.k (length c.args.found.now - 1 - c.loop-k.k) c.index-found-found.result c.loop-k.most lt refl
    c.index-found-found.is c.loop-k.invariant
