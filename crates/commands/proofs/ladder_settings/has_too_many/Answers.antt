use Rattle.std.proofs.Common.{◌≤◌, map}
use Rattle.commands.specs.Entries.{IsGood}
use Rattle.commands.specs.LadderOptions.{key_count}
use Rattle.commands.proofs.TextFacts.{there, one-further, at-map}
use Rattle.commands.proofs.ladder_settings.has_too_many.Goals as goal

pub has_many_keys-requires : goal.has_many_keys-requires
has_many_keys-requires c = at-map IsGood (λ t. t.now) c.args.texts.now c.loop-place.place _ c.loop-place-test.true c.requires

pub loop-place-preserved : goal.loop-place-preserved
loop-place-preserved c = one-further (λ text. key_count text ≤ 4096) (map (λ t. t.now) c.args.texts.now) c.loop-place.place c.loop-place.invariant
    (λ d. there (λ text. key_count text ≤ 4096) c.args.texts.now c.loop-place.place _ d c.loop-place-test.true (c.has_many_keys.ensures.few c.if-has_many_keys.false))
