-- The first numbers of a list.
use Rattle.std.specs.Prelude.{take, drop}
use Rattle.std.specs.List.{Contains}
use Rattle.std.proofs.Common.{arith, ◌≡◌, ℕ, zero, suc, ◌+◌, ◌<◌, ◌≤◌, List, [], ◌∷◌, length, get_or, refl, subst}
use Rattle.std.proofs.lemmas.List.Elements.{Contains-append_right}

behind-one : (x : ℕ) (xs : List ℕ) (n : ℕ) → Contains xs n → Contains (x ∷ xs) n
behind-one x xs n has = Contains-append_right (x ∷ []) xs n has

one-less : (x : ℕ) (xs : List ℕ) (n k : ℕ) → suc k < length (x ∷ xs) → get_or (x ∷ xs) (suc k) n ≡ n → Contains xs n
one-less x xs n k within is = (k, omega (arith, within), is)

pub Contains-take-more : (a b : ℕ) (xs : List ℕ) (n : ℕ) → a ≤ b → Contains (take a xs) n → Contains (take b xs) n
Contains-take-more zero b xs n le (k, within, is) = absurd (omega (arith, within))
Contains-take-more (suc a) zero xs n le has = absurd (omega (arith, le))
Contains-take-more (suc a) (suc b) [] n le has = has
Contains-take-more (suc a) (suc b) (x ∷ xs) n le (zero, within, is) = (0, omega arith, is)
Contains-take-more (suc a) (suc b) (x ∷ xs) n le (suc k, within, is) =
    behind-one x (take b xs) n (Contains-take-more a b xs n (omega (arith, le)) (k, omega (arith, within), is))

-- some more of them, behind the first
taken-sum : (a more all : ℕ) (xs : List ℕ) (n : ℕ) → all ≡ a + more → Contains (take more (drop a xs)) n → Contains (take all xs) n
taken-sum zero more all xs n is has = let same : more ≡ all = omega (arith, is) in subst (λ (k : ℕ). Contains (take k xs) n) same has
taken-sum (suc a) more zero xs n is has = absurd (omega (arith, is))
taken-sum (suc a) zero (suc all) [] n is has = has
taken-sum (suc a) (suc more) (suc all) [] n is has = has
taken-sum (suc a) more (suc all) (x ∷ xs) n is has = behind-one x (take all xs) n (taken-sum a more all xs n (omega (arith, is)) has)

pub taken-on : (a more : ℕ) (xs : List ℕ) (n : ℕ) → Contains (take more (drop a xs)) n → Contains (take (a + more) xs) n
taken-on a more xs n has = taken-sum a more (a + more) xs n refl has
