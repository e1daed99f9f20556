use Rattle.std.proofs.Common.{inr}
use Rattle.std.proofs.lemmas.Option.{IfSome_then}
use Rattle.program.proofs.watching.look_and_write.Goals as goal

pub returns-in-Ok-clause-seen : goal.returns-in-Ok-clause-seen
returns-in-Ok-clause-seen g c = inr (c.in-Ok.glance, rw c.in-Ok.is at c.look-viewer.ensures.last, c.write-put.ensures.seen)

pub returns-in-Ok-clause-put : goal.returns-in-Ok-clause-put
returns-in-Ok-clause-put g c =
    let last = rw c.in-Ok.is at c.look-viewer.ensures.last in
    IfSome_then c.write-put.result c.write-put.ensures.put (λ put is. (c.in-Ok.glance, last, is))
