use Rattle.std.proofs.Common.{◌<◌, ◌≤◌, length, refl, rules, arith}
use Rattle.std.proofs.lemmas.Bool.{false≢true}
use Rattle.std.proofs.lemmas.Option.{slice_get_within}
use Rattle.ladder_items.proofs.Elsewhere.{some-at}
use Rattle.rounds.proofs.run.course.Course.rests.Goals as goal

pub returns-then-goes_on : goal.returns-then-goes_on
returns-then-goes_on g c = (
  λ e. absurd (false≢true e),
  λ rests.
      let within : c.loop-r.r < length c.args.self.now.lanes.items = search rules in
      let some = some-at c.args.self.now.lanes.items c.loop-r.r within in
      let below = c.if-goes_on.ensures.below refl in
      absurd (omega (arith, below, rests c.loop-r.r some.0 some.1 (c.if-goes_on.ensures.going refl some.0 some.1))),
)

pub returns : goal.returns
returns g c =
    let done : length c.args.self.now.lanes.items ≤ c.loop-r.r = search rules in (
      λ e k lane at going. c.loop-r.invariant k lane (omega (arith, slice_get_within c.args.self.now.lanes.items k lane at, done)) at going,
      λ rests. refl,
    )
