use Rattle.std.proofs.Common.{◌≡◌, map, take}
use Rattle.commands.specs.KeyFiles.{counted, told}
use Rattle.commands.proofs.key_list.counted.Given as goal

abbrev pub invariant-loop-place : goal.invariant-loop-place
invariant-loop-place l = map told l.words.items ≡ counted 1 (map (λ t. t.now) (take l.place l.texts))
