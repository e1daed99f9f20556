use Rattle.std.proofs.Common.{◌++◌, ◌∙◌, ◌<◌}
use Rattle.std.proofs.lemmas.List.Elements.{All-append}
use Rattle.aes_cbc.proofs.PairInverseRounds.{both_last_combined, last_of_two}
use Rattle.aes_cbc.proofs.pair_inverse_round.last_inv_round.Goals as goal

pub returns : goal.returns
returns c = λ s t k hs ht hk es ek.
    let last = c.last_unmixed.ensures (s ++ t) (All-append (λ b. b < 256) s t hs.bytes ht.bytes) es in
    (λ i. both_last_combined (last i) (ek i)) ∙ last_of_two s t k hs ht hk
