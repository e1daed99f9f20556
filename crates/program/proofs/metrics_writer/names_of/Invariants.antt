use Rattle.std.proofs.Common.{◌≡◌, map, take}
use Rattle.std.specs.String.{string_bytes}
use Rattle.program.proofs.metrics_writer.names_of.Given as goal

abbrev pub invariant-loop-rendition : goal.invariant-loop-rendition
invariant-loop-rendition l = map string_bytes l.names.items ≡ map (λ r. r.name) (take l.rendition-index l.renditions)
