use Rattle.std.proofs.Common.{◌≡◌, ap, sym, ◌∙◌, subst, drop, List}
use Rattle.std.specs.declared.sync.Arc.{Arc}
use Rattle.std.specs.declared.alloc.Global.{Global}
use Rattle.live_board.specs.declared.shown.Moment.{Moment}
use Rattle.live_board.specs.declared.shown.Shown.{Shown}
use Rattle.live_board.specs.State.{moment_of, IsLast, GoesOn, shown_after}
use Rattle.live_board.proofs.Moves.{publishes}
use Rattle.live_board.proofs.steps.show_now.Goals as goal

pub publish_as-next-requires : goal.publish_as-next-requires
publish_as-next-requires g c next is =
    let old = c.args.writer in
    let inv = c.loop.invariant in
    let all : moment_of next ≡ shown_after (moment_of old.desk.shown.value) (drop old.behind old.log.items) = is ∙ ap (λ (p : Shown × List (Arc Moment Global)). shown_after (moment_of p.0) p.1) (λ i. (inv.0 i, inv.1 i)) in
    let first : moment_of c.loop.writer.desk.shown.value ≡ moment_of old.desk.shown.value = ap moment_of inv.0 in
    publishes _ _ c.loop.writer.desk.shown.value next (subst IsLast (sym all) c.requires.last) (subst (λ (p : Moment × Moment). GoesOn p.0 p.1) (λ i. (sym first i, sym all i)) c.requires.goes_on)
