use Rattle.std.proofs.Common.{◌++◌, ◌∙◌, map, ap, ap₂}
use Rattle.aes_cbc.specs.KeyExpansion.{round_key}
use Rattle.aes_cbc.specs.Tower.{last_keyed}
use Rattle.aes_cbc.proofs.key.both_last_keys.Goals as goal

pub returns : goal.returns
returns c =
    c.joined.ensures.both
    ∙ ap₂ (λ x y. x ++ y)
    (c.first.invariant.last ∙ ap (λ k. map last_keyed (round_key k 10)) c.first.view_is)
    (c.second.invariant.last ∙ ap (λ k. map last_keyed (round_key k 10)) c.second.view_is)
