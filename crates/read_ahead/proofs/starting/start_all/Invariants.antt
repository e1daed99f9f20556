use Rattle.std.proofs.Common.{◌≡◌, ◌++◌, All, map}
use Rattle.std.specs.Arc.{arc_value}
use Rattle.std.specs.Vec.Iter.{into_iter_items}
use Rattle.read_ahead.specs.Sources.{IsSound, all_seen, seen_first}
use Rattle.read_ahead.proofs.starting.start_all.Given as goal

abbrev pub invariant-loop-input : goal.invariant-loop-input
invariant-loop-input g l = record {
  rest : l.yielded ++ into_iter_items l.input-iterator ≡ l.fn.inputs.items;
  sound : All (IsSound g.I.Contents.holds) l.incoming.items;
  seen : map (seen_first g.I.Contents.holds) l.incoming.items ≡ all_seen (arc_value l.backlogs) 0 (map g.I.Contents.holds l.yielded);
}
