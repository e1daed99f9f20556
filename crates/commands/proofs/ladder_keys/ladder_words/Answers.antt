use Rattle.std.proofs.Common.{map}
use Rattle.commands.specs.KeyFiles.{told}
use Rattle.commands.proofs.EntryKeys.{words-next}
use Rattle.commands.proofs.ladder_keys.ladder_words.Goals as goal

pub loop-place-preserved : goal.loop-place-preserved
loop-place-preserved c = words-next c.args.entries.now c.loop-place.place _ (map told c.loop-place.words.items) _ c.loop-place-test.true c.loop-place.invariant c.in_ok-push_entry.ensures
