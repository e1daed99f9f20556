use Rattle.std.proofs.Common.{◌≡◌, ◌++◌, map, take}
use Rattle.commands.specs.KeyFiles.{told}
use Rattle.commands.specs.LadderOptions.{numbered}
use Rattle.commands.proofs.ladder_keys.push_texts.Given as goal

abbrev pub invariant-loop-text : goal.invariant-loop-text
invariant-loop-text l = map told l.words.items ≡ map told l.initial.words.items ++ numbered l.number (map (λ t. t.now) (take l.text-index l.texts))
