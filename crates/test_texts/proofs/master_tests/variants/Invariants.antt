use Rattle.std.proofs.Common.{◌≡◌, map, take}
use Rattle.std.specs.String.{string_bytes}
use Rattle.test_texts.proofs.master_tests.variants.Given as goal

abbrev pub invariant-loop-rendition : goal.invariant-loop-rendition
invariant-loop-rendition l =
    map (λ v. v.name) l.variants.items ≡ map (λ r. string_bytes r.name) (take l.rendition-index l.renditions)
