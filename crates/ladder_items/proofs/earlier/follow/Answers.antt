use Rattle.std.proofs.Common.{length, refl, arith}
use Rattle.std.proofs.lemmas.Option.{slice_get_read, slice_get_within}
use Rattle.ladder_items.proofs.RowsBefore.{one-more}
use Rattle.ladder_items.proofs.earlier.follow.Goals as goal

pub loop-i-preserved : goal.loop-i-preserved
loop-i-preserved c =
    let rows = c.args.rows.now in
    one-more c.args.target c.args.first rows c.loop-i.i c.index-rows-i.result c.loop-i.invariant
    (slice_get_read rows (length rows) c.loop-i.i c.index-rows-i.result refl c.loop-i-test.true c.index-rows-i.is) (c.is_next.ensures.0 c.if-not-is_next.false)

pub returns : goal.returns
returns c = (λ _ k row at. c.loop-i.invariant k row (omega (arith, c.loop-i-test.false, slice_get_within c.args.rows.now k row at)) at, λ _. refl)
