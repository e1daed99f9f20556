use Rattle.std.proofs.lemmas.Option.{IfSome_then}
use Rattle.program.proofs.Watched.{begins-both}
use Rattle.program.proofs.watching.Watching.end.Goals as goal

pub returns-clause-put : goal.returns-clause-put
returns-clause-put g c =
    IfSome_then c.look_and_write-viewer.result.1 c.look_and_write-viewer.ensures.put
    (λ put is. record {
      old = _;
      new = _;
      list = c.look_and_write-viewer.result.0.list;
      glance = is.0;
      stays = c.join-viewer.ensures.1;
      begins = begins-both _ _ _ c.tell-2.ensures.told c.look_and_write-viewer.ensures.grows;
      is_last = is.1;
      file = rw c.last_of.ensures at is.2;
    })
