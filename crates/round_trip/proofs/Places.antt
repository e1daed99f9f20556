-- Items by their places.
use Rattle.std.proofs.Common.{◌≡◌, ℕ, zero, suc, ◌+◌, List, [], ◌∷◌, ◌++◌, map, drop, Some, slice_get, refl, subst, arith}

-- what is made of it
pub mapped-at : {X Y : Type 0} (f : X → Y) (xs : List X) (i : ℕ) (x : X) → slice_get xs i ≡ Some x → slice_get (map f xs) i ≡ Some (f x)
mapped-at f [] i x is = absurd cc
mapped-at f (y ∷ xs) zero x is = let same : y ≡ x = cc in rw same refl
mapped-at f (y ∷ xs) (suc i) x is = mapped-at f xs i x is

-- behind others
pub at-drop : {X : Type 0} (j i : ℕ) (xs : List X) (x : X) → slice_get (drop j xs) i ≡ Some x → slice_get xs (j + i) ≡ Some x
at-drop zero i xs x is = let same : i ≡ 0 + i = omega arith in subst (λ k. slice_get xs k ≡ Some x) same is
at-drop (suc j) i [] x is = absurd cc
at-drop (suc j) i (y ∷ xs) x is = let same : suc (j + i) ≡ suc j + i = omega arith in subst (λ k. slice_get (y ∷ xs) k ≡ Some x) same (at-drop j i xs x is)

-- before others
pub at-front : {X : Type 0} (xs ys : List X) (i : ℕ) (x : X) → slice_get xs i ≡ Some x → slice_get (xs ++ ys) i ≡ Some x
at-front [] ys i x is = absurd cc
at-front (y ∷ xs) ys zero x is = is
at-front (y ∷ xs) ys (suc i) x is = at-front xs ys i x is
