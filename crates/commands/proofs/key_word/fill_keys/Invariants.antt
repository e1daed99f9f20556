use Rattle.std.proofs.Common.{map, take}
use Rattle.commands.specs.KeyFiles.{TellKeys, texts_of, told}
use Rattle.commands.proofs.key_word.fill_keys.Given as goal

abbrev pub invariant-loop-place : goal.invariant-loop-place
invariant-loop-place g l = TellKeys (g.F.FileReader.gives l.files) (take l.place (texts_of (map told l.words))) (take l.place l.keys)
