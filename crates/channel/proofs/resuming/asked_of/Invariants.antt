use Rattle.std.proofs.Common.{◌≡◌, map, take}
use Rattle.channel.specs.Reading.{wanted_of}
use Rattle.channel.proofs.resuming.asked_of.Given as goal

abbrev pub invariant-loop-rendition : goal.invariant-loop-rendition
invariant-loop-rendition l = map (λ a. (a.name.now, a.wanted)) l.asked.items ≡ map (wanted_of l.settings) (take l.rendition-index l.settings.renditions)
