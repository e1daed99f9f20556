use Rattle.std.proofs.Common.{◌≡◌, map, take}
use Rattle.channel.specs.Reading.{names_of}
use Rattle.channel.proofs.resuming.names_of.Given as goal

abbrev pub invariant-loop-rendition : goal.invariant-loop-rendition
invariant-loop-rendition l = map (λ n. n.now) l.names.items ≡ names_of (take l.rendition-index l.settings.renditions)
