use Rattle.std.proofs.Common.{refl, ap, subst, sym}
use Rattle.rounds.specs.declared.giving.broadcast.Broadcast.{Broadcast}
use Rattle.rounds.specs.Permitted.{ShowsPermitted}
use Rattle.rounds.proofs.Answered.{round-closed, break-closed, fault-told}
use Rattle.rounds.proofs.Gates.{none-word}
use Rattle.rounds.proofs.Running.{stopped-here}
use Rattle.rounds.proofs.round.scoped.with_workers.Goals as goal

pub returns-then-len-workers : goal.returns-then-len-workers
returns-then-len-workers g c = rw c.unbegun.ensures (record { ok = tt; err = λ start on. stopped-here _ _ _ _ _ start _ _ _ _ refl on; held = none-word _ _ refl; shown = c.requires.shown })

pub returns : goal.returns
returns g c =
    let d = c.driven-ended.ensures in
    let e = c.joined.ensures in
    record {
      ok = round-closed _ _ _ _ _ _ _ c.joined.result.0 _ _ e.answer e.broadcast _ d.books e.rounds e.right e.each d.ok;
      err = break-closed _ _ _ _ _ _ _ _ _ _ _ _ e.answer (ap (λ (b : Broadcast _ _ _). b.course) e.broadcast) (ap (λ (b : Broadcast _ _ _). b.held.publisher) e.broadcast) d.err;
      held = fault-told _ _ _ e.answer d.held;
      shown = subst (λ (b : Broadcast _ _ _). ShowsPermitted g.P.Permit.permits b.held.publisher.list) (sym e.broadcast) d.shown;
    }
