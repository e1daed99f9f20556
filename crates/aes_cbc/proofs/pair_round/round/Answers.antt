use Rattle.std.proofs.Common.{◌++◌, ◌∙◌, ◌<◌}
use Rattle.std.proofs.lemmas.List.Elements.{All-append}
use Rattle.aes_cbc.proofs.PairRounds.{both_combined, round_of_two}
use Rattle.aes_cbc.proofs.pair_round.round.Goals as goal

pub returns : goal.returns
returns c = λ s t k l hs ht hk hl es ek.
    let bytes = All-append (λ b. b < 256) s t hs.bytes ht.bytes in
    let once = c.substituted.ensures.once (s ++ t) bytes es in
    let twice = c.substituted.ensures.twice (s ++ t) bytes es in
    (λ i. both_combined (once i) (twice i) (ek i)) ∙ round_of_two s t k l hs ht hk hl
