use Rattle.std.proofs.Common.{◌≡◌, ◌∷◌, [], arith, rules}
use Rattle.std.proofs.lemmas.List.Elements.{All-append, All-cons}
use Rattle.test_rounds.proofs.pause_tests.add_source.Goals as goal

pub returns : goal.returns
returns c =
    rw c.in_ok-push.ensures.items
    (All-append (λ source. (source.reads ≡ 0) × (source.failures ≡ 0)) c.args.sources.now.items (_ ∷ []) c.requires
    (All-cons (λ source. (source.reads ≡ 0) × (source.failures ≡ 0)) _ [] (search rules) (λ k d below. absurd (omega (arith, below)))))
