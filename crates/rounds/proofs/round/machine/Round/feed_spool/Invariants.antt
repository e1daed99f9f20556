use Rattle.std.proofs.Common.{◌≡◌, ◌+◌, List, drop}
use Rattle.std.specs.List.{slice_set}
use Rattle.cutter.specs.Plans.{SegmentPlan}
use Rattle.rounds.specs.Courses.{Start}
use Rattle.rounds.specs.Rounds.{IsFair, ReadsNoneIn, StandsIn, due_in, unfed_of}
use Rattle.rounds.proofs.round.machine.Round.feed_spool.Given as goal

abbrev pub invariant-loop-i : goal.invariant-loop-i
invariant-loop-i g l = record {
  ok : (start : Start _ _) (unfed : List (List SegmentPlan)) → unfed_of unfed l.r ≡ l.spool
      → StandsIn g.S.Source.input g.O.Outlet.output l.settings start unfed l.fn.self
      → StandsIn g.S.Source.input g.O.Outlet.output l.settings start (slice_set unfed l.r (drop l.i l.spool)) l.self;
  none_read : ReadsNoneIn l.fn.self l.self;
  fair : IsFair l.fn.self l.self;
  due : due_in l.self ≡ due_in l.fn.self + l.i;
}
