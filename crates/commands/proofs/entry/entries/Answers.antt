use Rattle.commands.specs.Entries.{IsGood}
use Rattle.commands.proofs.TextFacts.{at-map}
use Rattle.commands.proofs.entry.entries.Goals as goal

pub unreachable-requires : goal.unreachable-requires
unreachable-requires c = c.cut_entry.ensures.none c.in_default.is (at-map IsGood (λ t. t.now) c.args.texts.now c.loop-text.text-index _ c.loop-text-test.true c.requires.good).colons
