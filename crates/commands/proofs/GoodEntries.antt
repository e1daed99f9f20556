-- Entries of a ladder, one by one.
use Rattle.std.proofs.Common.{◌≡◌, ℕ, List, [], All, arith, inl, inr}
use Rattle.std.proofs.lemmas.Bool.{cases_lt}
use Rattle.commands.specs.Entries.{IsGood, IsFirstBad}

-- there is one first bad entry
pub one-first : (texts : List (List ℕ)) (i j : ℕ) → IsFirstBad texts i → IsFirstBad texts j → i ≡ j
one-first texts i j one other = elim (cases_lt i j) [
  | inl less ↦ absurd (one.bad (other.before i less))
  | inr not_less ↦ elim (cases_lt j i) [
    | inl more ↦ absurd (other.bad (one.before j more))
    | inr not_more ↦ omega (arith, not_less, not_more)
  ]
]

-- and none among good ones
pub none-bad : (texts : List (List ℕ)) (i : ℕ) → All IsGood texts → ¬ IsFirstBad texts i
none-bad texts i good first = first.bad (good i [] first.within)
