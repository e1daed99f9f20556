use Rattle.std.proofs.Common.{◌≡◌, ℕ, ◌+◌, ◌<◌, ◌≤◌, Some, false, length}
use Rattle.std.specs.List.{slice_get}
use Rattle.std.specs.Prelude.{Decides}
use Rattle.rounds.specs.Courses.{HadNone, HadOne, HadOneAtMost, HasTurns, ReadsMore, ReadsOn, turns_in}
use Rattle.rounds.proofs.run.course.Course.read_ready.Given as goal

abbrev pub invariant-loop-r : goal.invariant-loop-r
invariant-loop-r g l = record {
  ok : ReadsOn g.S.Source.input g.O.Outlet.output l.fn.self l.self;
  same : l.self ≡ record l.fn.self { sources = l.self.sources; lanes = l.self.lanes; turns = l.self.turns };
  count : length l.self.lanes.items ≡ length l.fn.self.lanes.items;
  further : ReadsMore l.fn.self l.self;
  told : Decides l.any (turns_in l.fn.self < turns_in l.self);
  once : turns_in l.self ≤ turns_in l.fn.self + l.r;
  each : (k : ℕ) → HadOneAtMost g.S.Source.input k l.fn.self l.self;
  had : (k : ℕ) (source : _) → k < l.r → slice_get l.fn.self.sources.items k ≡ Some source → g.S.Source.tells source ≡ false → HasTurns k l.fn.self → HadOne g.S.Source.input k l.fn.self l.self;
  idle : l.any ≡ false → (k : ℕ) → HadNone k l.fn.self l.self;
  rest : (k : ℕ) → l.r ≤ k → HadNone k l.fn.self l.self;
  buffer : length l.buffer ≡ length l.fn.buffer;
}
