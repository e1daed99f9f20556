use Rattle.std.proofs.Common.{◌≡◌, subst, sym}
use Rattle.live_board.specs.Counts.{counts_shown}
use Rattle.rounds.specs.declared.giving.broadcast.Broadcast.{Broadcast}
use Rattle.rounds.specs.Courses.{IsNextOf}
use Rattle.rounds.specs.Showing.{counts_of}
use Rattle.rounds.proofs.Permitting.{shows-given}
use Rattle.rounds.proofs.round.permitted_broadcast.PermittedBroadcast.give_segment.Goals as goal

pub invariant_of-self : goal.invariant_of-self
invariant_of-self g c =
    shows-given g.P.Permit.permits g.O.Outlet.output c.args.settings.now c.args.r c.args.sealed.plan c.self.inside.inner c.give_segment.new.self c.give_segment.result
    (subst (λ (b : Broadcast _ _ _). IsNextOf c.args.settings.now c.args.r c.args.sealed.plan b.course) (sym c.self.view_is) c.requires.next)
    (subst (λ (b : Broadcast _ _ _). counts_shown b.held.publisher.list ≡ counts_of b.course.playlists.items) (sym c.self.view_is) c.requires.shows)
    c.requires.permitted c.give_segment.ensures.ok c.give_segment.ensures.err c.self.invariant
