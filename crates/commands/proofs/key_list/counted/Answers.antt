use Rattle.std.proofs.Common.{refl}
use Rattle.commands.proofs.KeyWords.{counted-next}
use Rattle.commands.proofs.key_list.counted.Goals as goal

pub loop-place-preserved : goal.loop-place-preserved
loop-place-preserved c = counted-next c.args.texts.now c.loop-place.place _ c.loop-place.words.items c.push.new.self.items _ c.loop-place-test.true c.loop-place.invariant c.in_ok-push.ensures.items refl refl
