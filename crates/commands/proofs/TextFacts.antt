-- What holds of some texts, one by one.
use Rattle.std.proofs.Common.{◌≡◌, ℕ, ◌+◌, ◌<◌, List, Bor, All, Any, map, length, get_or, subst, sym, arith, inl, inr}
use Rattle.std.proofs.lemmas.Bool.{cases_lt}
use Rattle.std.proofs.lemmas.List.{get_or-map, length-map}

pub there : (P : List ℕ → Type 0) (texts : List (Bor (List ℕ))) (place : ℕ) (e : Bor (List ℕ)) (d : List ℕ) → place < length texts → P (get_or texts place e).now
    → P (get_or (map (λ t. t.now) texts) place d)
there P texts place e d inside holds = subst P (sym (get_or-map (λ t. t.now) texts place e d inside)) holds

-- up to a place, and there
pub one-further : (P : List ℕ → Type 0) (texts : List (List ℕ)) (place : ℕ) → ((k : ℕ) (d : List ℕ) → k < place → P (get_or texts k d))
    → ((d : List ℕ) → P (get_or texts place d)) → (k : ℕ) (d : List ℕ) → k < place + 1 → P (get_or texts k d)
one-further P texts place before at k d below = elim (cases_lt k place) [
  | inl less ↦ before k d less
  | inr not_less ↦ let same : place ≡ k = omega (arith, below, not_less) in subst (λ i. P (get_or texts i d)) same (at d)
]

pub some-there : (P : List ℕ → Type 0) (texts : List (Bor (List ℕ))) (place : ℕ) (e : Bor (List ℕ)) → place < length texts → P (get_or texts place e).now
    → Any P (map (λ t. t.now) texts)
some-there P texts place e inside holds =
    (place, (get_or texts place e).now, omega (arith, inside, length-map texts (λ t. t.now)), get_or-map (λ t. t.now) texts place e _ inside, holds)

-- what holds of all that is told of a list holds of what is told of one
pub at-map : {X Y : Type 0} (P : Y → Type 0) (f : X → Y) (xs : List X) (i : ℕ) (d : X) → i < length xs → All P (map f xs) → P (f (get_or xs i d))
at-map P f xs i d inside all = subst P (get_or-map f xs i d (f d) inside) (all i (f d) (omega (arith, inside, length-map xs f)))
