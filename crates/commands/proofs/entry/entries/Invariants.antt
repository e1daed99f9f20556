use Rattle.std.proofs.Common.{◌≡◌, map, take}
use Rattle.commands.specs.Entries.{entry_of}
use Rattle.commands.specs.Entries.{entry_value}
use Rattle.commands.proofs.entry.entries.Given as goal

abbrev pub invariant-loop-text : goal.invariant-loop-text
invariant-loop-text l = map entry_value l.entries.items ≡ map entry_of (map (λ t. t.now) (take l.text-index l.texts))
