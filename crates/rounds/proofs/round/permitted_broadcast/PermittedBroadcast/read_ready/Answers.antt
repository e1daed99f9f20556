use Rattle.std.proofs.Common.{OnErr, OnOk, subst, sym}
use Rattle.rounds.specs.declared.giving.broadcast.Broadcast.{Broadcast}
use Rattle.rounds.specs.Courses.{IsRun, ReadsOn, ReadsShort}
use Rattle.rounds.proofs.round.permitted_broadcast.PermittedBroadcast.read_ready.Goals as goal

pub read_ready-requires-clause-on : goal.read_ready-requires-clause-on
read_ready-requires-clause-on g c =
    subst (λ (b : Broadcast _ _ _). IsRun g.S.Source.input g.O.Outlet.output b.course) (sym c.self.view_is) c.requires.on

pub returns-clause-ok : goal.returns-clause-ok
returns-clause-ok g c =
    subst (λ (b : Broadcast _ _ _). OnOk c.read_ready.result (ReadsOn g.S.Source.input g.O.Outlet.output b.course c.read_ready.new.self)) c.self.view_is c.read_ready.ensures.ok

pub returns-clause-err : goal.returns-clause-err
returns-clause-err g c =
    subst (λ (b : Broadcast _ _ _). OnErr c.read_ready.result (ReadsShort g.S.Source.input g.O.Outlet.output b.course c.read_ready.new.self)) c.self.view_is c.read_ready.ensures.err
