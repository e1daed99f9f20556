use Rattle.std.proofs.Common.{◌≡◌, map, take}
use Rattle.commands.specs.Entries.{entry_value}
use Rattle.commands.proofs.ladder_options.paths.Given as goal

abbrev pub invariant-loop-entry : goal.invariant-loop-entry
invariant-loop-entry l = map (λ t. t.now) l.paths.items ≡ map (λ entry. (entry_value entry).path) (take l.entry-index l.entries)
