use Rattle.std.proofs.Common.{◌≡◌, ◌++◌, length, map}
use Rattle.std.specs.Vec.Iter.{into_iter_items}
use Rattle.channel_folder.specs.Reopened.{gone_on}
use Rattle.channel.specs.GoingOn.{all_behind, AllGo}
use Rattle.channel.proofs.going_on.each_behind.Given as goal

abbrev pub invariant-loop-one : goal.invariant-loop-one
invariant-loop-one l = record {
  rest : l.yielded ++ into_iter_items l.one-iterator ≡ l.fn.found.items;
  count : l.r ≡ length l.yielded;
  so_far : l.renditions ≡ all_behind l.fn.renditions (map (gone_on l.most) l.yielded);
  go_within : AllGo l.yielded l.most;
}
