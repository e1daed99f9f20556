use Rattle.std.proofs.Common.{◌≡◌, map, take}
use Rattle.ladder_items.specs.Ladder.{RenditionValue}
use Rattle.rounds.proofs.run.first.copy_keys.Given as goal

abbrev pub invariant-loop-rendition : goal.invariant-loop-rendition
invariant-loop-rendition l = l.keys.items ≡ map (λ (r : RenditionValue). r.keys) (take l.rendition-index l.renditions)
