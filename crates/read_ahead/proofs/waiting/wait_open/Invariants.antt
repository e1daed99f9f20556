use Rattle.std.proofs.Common.{◌≡◌, All, map}
use Rattle.read_ahead.specs.Sources.{IsSound, seen_first}
use Rattle.read_ahead.proofs.waiting.wait_open.Given as goal

abbrev pub invariant-loop : goal.invariant-loop
invariant-loop g l = record {
  sound : All (IsSound g.I.Contents.holds) l.inputs;
  same : map (seen_first g.I.Contents.holds) l.inputs ≡ map (seen_first g.I.Contents.holds) l.initial.inputs;
}
