use Rattle.std.proofs.Common.{◌+◌, ◌++◌, ◌∙◌, map, ap, ap₂}
use Rattle.aes_cbc.specs.KeyExpansion.{round_key}
use Rattle.aes_cbc.specs.Tower.{keyed}
use Rattle.aes_cbc.proofs.key.both_mixing_keys.Goals as goal

pub returns : goal.returns
returns c =
    let i = c.args.i in
    c.joined.ensures.both
    ∙ ap₂ (λ x y. x ++ y)
    (c.first.invariant.mixing i _ c.requires ∙ ap (λ k. map keyed (round_key k (i + 1))) c.first.view_is)
    (c.second.invariant.mixing i _ c.requires ∙ ap (λ k. map keyed (round_key k (i + 1))) c.second.view_is)
