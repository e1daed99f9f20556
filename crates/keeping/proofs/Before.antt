-- What a rendition begins with.
use Rattle.std.specs.Prelude.{nat_lt}
use Rattle.std.specs.List.{All}
use Rattle.std.proofs.Common.{◌≡◌, ℕ, zero, suc, ◌<◌, true, List, [], ◌∷◌, refl, sym, subst}
use Rattle.std.proofs.lemmas.Bool.{ltb-true}
use Rattle.std.proofs.lemmas.List.Elements.{All-weaker, filter_passes}
use Rattle.retention.specs.Steps.{first_of}
use Rattle.keeping.specs.Keepings.{below, steps_before}

-- all of them were listed from the first one on
pub before-first : (micros : List ℕ) (i : ℕ) → first_of (steps_before micros) i ≡ 0
before-first [] i = refl
before-first (m ∷ micros) zero = refl
before-first (m ∷ micros) (suc i) = before-first micros i

-- all numbers below one are
pub all-below : (base : ℕ) (numbers some : List ℕ) → some ≡ below base numbers → All (λ n. n < base) some
all-below base numbers some is =
    subst (All (λ n. n < base)) (sym is)
    (All-weaker (λ n. nat_lt n base ≡ true) (λ n. n < base) (λ n lower. ltb-true n base lower) (below base numbers) (filter_passes (λ n. nat_lt n base) numbers))
