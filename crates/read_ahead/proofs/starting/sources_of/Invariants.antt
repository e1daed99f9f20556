use Rattle.std.proofs.Common.{◌≡◌, ◌+◌, ◌≤◌, ◌++◌, All, length, map}
use Rattle.std.specs.Vec.{vec_capacity, vec_len}
use Rattle.std.specs.Vec.Iter.{into_iter_items}
use Rattle.read_ahead.specs.Sources.{IsSound, MayBegin, seen_first}
use Rattle.read_ahead.proofs.starting.sources_of.Given as goal

abbrev pub invariant-loop-one : goal.invariant-loop-one
invariant-loop-one g l = record {
  made : l.sources.items ++ map (seen_first g.I.Contents.holds) (into_iter_items l.one-iterator) ≡ map (seen_first g.I.Contents.holds) l.fn.incoming.items;
  room : vec_len l.sources + length (into_iter_items l.one-iterator) ≤ vec_capacity l.sources;
  sound : All (IsSound g.I.Contents.holds) (into_iter_items l.one-iterator);
  begun : All MayBegin (into_iter_items l.one-iterator);
}
