use Rattle.std.proofs.Common.{◌∙◌, refl, ap, subst, sym}
use Rattle.std.specs.Prelude.{OnOk}
use Rattle.std.proofs.lemmas.Result.{IfOk-at_ok}
use Rattle.flow_core.specs.Gatherings.{Gathering, sequences_from}
use Rattle.rounds.specs.declared.giving.broadcast.Broadcast.{Broadcast}
use Rattle.rounds.specs.Begun.{keys_of}
use Rattle.rounds.specs.Paces.{ReadsForNext, pace_in}
use Rattle.rounds.specs.Rounds.{IsSomeFull}
use Rattle.rounds.specs.Showing.{counts_of}
use Rattle.rounds.proofs.Running.{stopped-here}
use Rattle.rounds.proofs.Gates.{none-word}
use Rattle.rounds.proofs.round.ending.driven.Goals as goal

pub returns-in_default-clause-err : goal.returns-in_default-clause-err
returns-in_default-clause-err g c start on = stopped-here _ _ _ _ _ start _ _ _ _ refl on

pub drive-answer-requires-clause-behind : goal.drive-answer-requires-clause-behind
drive-answer-requires-clause-behind g c κs within =
    ap (λ (x : Gathering). x.sequences) (IfOk-at_ok _ c.in-Ok.is c.collector_behind-collector.ensures.ok)
    ∙ (ap (λ l. sequences_from 0 (keys_of c.args.setup.now.settings.now) (counts_of l)) c.deref.ensures.value
    ∙ ap (λ (b : Broadcast _ _ _). sequences_from 0 (keys_of c.args.setup.now.settings.now) (counts_of b.course.playlists.items)) (sym c.over.ensures))

pub drive-answer-requires-clause-on : goal.drive-answer-requires-clause-on
drive-answer-requires-clause-on g c κs within =
    subst (λ (b : Broadcast _ _ _). IsSomeFull g.S.Source.input g.O.Outlet.output c.args.setup.now.settings.now c.args.spools.now b) (sym c.over.ensures) c.requires.on

pub returns-in_default-clause-held : goal.returns-in_default-clause-held
returns-in_default-clause-held g c = none-word _ _ refl

pub returns-clause-enough : goal.returns-clause-enough
returns-clause-enough g c =
    subst (λ (b : Broadcast _ _ _). OnOk c.drive-answer.result (ReadsForNext g.S.Source.tells (pace_in c.args.setup.now) c.args.between.broadcast.course b.course)) (sym c.into_inner.ensures.is)
    (subst (λ (b : Broadcast _ _ _). OnOk c.drive-answer.result (ReadsForNext g.S.Source.tells (pace_in c.args.setup.now) b.course c.drive-answer.new.self.broadcast.course)) c.over.ensures
    (rw c.pace.ensures at c.drive-answer.ensures.enough))
