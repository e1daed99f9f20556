use Rattle.std.proofs.Common.{◌≡◌, ◌≢◌, [], All, Any, map, take, true, false}
use Rattle.read_ahead.specs.Sources.{IsSound, IsUnknown, MayBegin, seen_first}
use Rattle.read_ahead.specs.declared.incoming.Phase.TheVariants.{Failed, Opening}
use Rattle.read_ahead.proofs.waiting.are_open.Given as goal

abbrev pub invariant-loop-number : goal.invariant-loop-number
invariant-loop-number g l = record {
  sound : All (IsSound g.I.Contents.holds) l.inputs;
  same : map (seen_first g.I.Contents.holds) l.inputs ≡ map (seen_first g.I.Contents.holds) l.initial.inputs;
  begun : l.are_known ≡ true → All MayBegin (take l.number l.inputs);
  early : l.are_known ≡ true → l.is_over ≡ false → All (λ i. i.phase ≢ Opening) (take l.number l.inputs);
  unknown : l.are_known ≡ false → Any (IsUnknown l.is_over) (take l.number l.inputs);
  unfailed : All (λ i. i.phase ≢ Failed) (take l.number l.inputs);
  none : l.initial.inputs ≡ [] → l.are_known ≡ true;
}
