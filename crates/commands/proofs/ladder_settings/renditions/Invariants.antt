use Rattle.std.specs.Option.{option_map}
use Rattle.commands.specs.LadderOptions.{entry_words}
use Rattle.commands.proofs.LadderFacts.{SharesSoFar}
use Rattle.commands.proofs.ladder_settings.renditions.Given as goal

abbrev pub invariant-loop-entry : goal.invariant-loop-entry
invariant-loop-entry l =
    SharesSoFar (entry_words (option_map (λ t. t.now) l.words.salt) l.words.event) l.period l.entries l.entry-index l.fn.keys l.rest l.renditions.items
