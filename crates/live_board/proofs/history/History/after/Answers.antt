use Rattle.std.proofs.Common.{◌≤◌, ◌<◌, ap, subst, arith, length, List}
use mathlib.Core.List.{IsPrefix}
use Rattle.live_board.specs.Snapshots.{SnapshotFacts}
use Rattle.live_board.proofs.Fronts.{begins-longer}
use Rattle.live_board.proofs.history.History.after.Goals as goal

pub returns-clause-begins : goal.returns-clause-begins
returns-clause-begins c =
    let both = c.learn.new.self.log in
    let this : IsPrefix c.self.inside.seen.log both = subst (λ (l : List SnapshotFacts). IsPrefix l both) (ap (λ s. s.log) c.again-both.ensures) c.learn.ensures.2 in
    let less : length c.other.inside.seen.log ≤ length c.self.inside.seen.log = omega (arith, c.self.invariant.0, c.other.invariant.0) in
    rw (c.again.ensures.same, ← c.self.view_is, ← c.other.view_is) (begins-longer c.other.inside.seen.log c.self.inside.seen.log both c.learn.ensures.3 this less)

pub returns-then-self-other-clause-shorter : goal.returns-then-self-other-clause-shorter
returns-then-self-other-clause-shorter c =
    let both = c.learn.new.self.log in
    let this : IsPrefix c.self.inside.seen.log both = subst (λ (l : List SnapshotFacts). IsPrefix l both) (ap (λ s. s.log) c.again-both.ensures) c.learn.ensures.2 in
    let less : length c.self.inside.seen.log < length c.other.inside.seen.log = omega (arith, c.self.invariant.0, c.other.invariant.0) in
    rw (← c.self.view_is, ← c.other.view_is) (begins-longer c.self.inside.seen.log c.other.inside.seen.log both this c.learn.ensures.3 (omega (arith, less)), less)
