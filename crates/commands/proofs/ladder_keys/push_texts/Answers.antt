use Rattle.std.proofs.Common.{map, refl}
use Rattle.commands.specs.KeyFiles.{told}
use Rattle.commands.proofs.EntryKeys.{numbered-next}
use Rattle.commands.proofs.ladder_keys.push_texts.Goals as goal

pub loop-text-preserved : goal.loop-text-preserved
loop-text-preserved c = numbered-next c.args.number (map told c.args.words.now.items) c.args.texts.now c.loop-text.text-index _ c.loop-text.words.items c.push.new.self.items _
    c.loop-text-test.true c.loop-text.invariant c.in_ok-push.ensures.items refl refl
