use Rattle.std.proofs.Common.{◌≡◌, map, take}
use Rattle.commands.specs.Entries.{entry_value}
use Rattle.commands.specs.KeyFiles.{told}
use Rattle.commands.specs.LadderOptions.{key_words}
use Rattle.commands.proofs.ladder_keys.ladder_words.Given as goal

abbrev pub invariant-loop-place : goal.invariant-loop-place
invariant-loop-place l = map told l.words.items ≡ key_words 1 (map entry_value (take l.place l.entries))
