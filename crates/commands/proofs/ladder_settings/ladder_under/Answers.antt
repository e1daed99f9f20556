use Rattle.std.proofs.Common.{All, subst, sym}
use Rattle.commands.specs.LadderOptions.{asked_of, IsWhole}
use Rattle.commands.proofs.LadderFacts.{whole-entries}
use Rattle.commands.proofs.ladder_settings.ladder_under.Goals as goal

pub renditions-requires-clause-whole : goal.renditions-requires-clause-whole
renditions-requires-clause-whole c =
    subst (All IsWhole) (sym c.requires.each) (whole-entries (asked_of c.args.words c.args.numbers c.args.pool) c.requires.turns)
