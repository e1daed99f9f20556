use Rattle.std.proofs.Common.{rules, ◌≡◌, ap, sym, ◌∙◌, Some}
use Rattle.live_board.specs.Snapshots.{Known}
use Rattle.live_board.specs.Counts.{last_of, counts_shown, NoneFalls}
use Rattle.live_board.specs.State.{moment_of}
use Rattle.live_board.proofs.Lists.{may_follow}
use Rattle.live_board.proofs.publisher.Publisher.show.Goals as goal

pub next_moment-requires : goal.next_moment-requires
next_moment-requires g c rises =
    let shown = moment_of c.self.inside.writer.desk.shown.value in
    let list : c.self.inside.head.list ≡ shown.history.list = ap (λ (k : Known). k.list) (sym c.self.inside.shows) in
    let last : last_of c.self.inside.head.list ≡ Some shown.snapshot = ap last_of list ∙ c.self.inside.last in
    let up : NoneFalls (counts_shown c.self.inside.head.list) c.args.snapshot.counts = search rules in
    may_follow _ shown.snapshot _ last rises up
