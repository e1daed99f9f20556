use Rattle.std.proofs.Common.{◌≡◌, ◌+◌, ◌<◌, ◌≤◌, ℕ, List, [], take}
use Rattle.cutter.specs.Plans.{SegmentPlan}
use Rattle.rounds.specs.Courses.{Start}
use Rattle.rounds.specs.Rounds.{IsFair, ReadsNoneIn, StandsIn, due_in, plans_in, unfed_of}
use Rattle.rounds.proofs.round.machine.Round.feed_all.Given as goal

abbrev pub invariant-loop-r : goal.invariant-loop-r
invariant-loop-r g l = record {
  ok : (start : Start _ _) → StandsIn g.S.Source.input g.O.Outlet.output l.settings start l.spools l.fn.self
      → (left : List (List SegmentPlan)) × StandsIn g.S.Source.input g.O.Outlet.output l.settings start left l.self
      × ((k : ℕ) → k < l.r → unfed_of left k ≡ []) × ((k : ℕ) → l.r ≤ k → unfed_of left k ≡ unfed_of l.spools k);
  none_read : ReadsNoneIn l.fn.self l.self;
  fair : IsFair l.fn.self l.self;
  due : due_in l.self ≡ due_in l.fn.self + plans_in (take l.r l.spools);
}
