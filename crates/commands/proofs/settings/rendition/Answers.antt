use Rattle.std.proofs.Common.{arith}
use Rattle.commands.proofs.KeyWords.{some-text}
use Rattle.commands.proofs.settings.rendition.Goals as goal

pub rotation-requires-clause-some : goal.rotation-requires-clause-some
rotation-requires-clause-some c = omega (arith, c.requires.keys, some-text c.args.words.keys.now)
