-- Facts of each item, as a list grows.
use Rattle.std.proofs.Common.{◌≡◌, Vec, Global, map, ℕ, ◌+◌, ◌-◌, ◌<◌, inl, inr, List, [], ◌∷◌, ◌++◌, length, get_or, sym, ap, ◌∙◌, subst, arith}
use Rattle.std.proofs.lemmas.Bool.{cases_lt}
use Rattle.std.proofs.lemmas.List.{get_or_append_left, get_or-append_right, get_or-map, map-append, length-map}

-- the item behind the others
pub get_or-last : (xs : List (List ℕ)) (x : List ℕ) (i : ℕ) → length xs ≡ i → x ≡ get_or (xs ++ x ∷ []) i []
get_or-last xs x i long =
    let none : i - i ≡ 0 = omega arith in
    sym (get_or-append_right xs (x ∷ []) i i [] long (omega arith) ∙ ap (λ k. get_or (x ∷ []) k []) none)

-- one item more
pub each-more : (Holds : ℕ → List ℕ → Type 0) (xs : List (List ℕ)) (x : List ℕ) (i : ℕ) → length xs ≡ i
    → ((j : ℕ) → j < i → Holds j (get_or xs j [])) → Holds i x
    → (j : ℕ) → j < i + 1 → Holds j (get_or (xs ++ x ∷ []) j [])
each-more Holds xs x i long each last j lt = elim (cases_lt j i) [
  | inl below ↦ subst (Holds j) (sym (get_or_append_left xs (x ∷ []) [] j (omega arith))) (each j below)
  | inr above ↦
      let same : i ≡ j = omega arith in
      subst (λ k. Holds k (get_or (xs ++ x ∷ []) k [])) same (subst (Holds i) (get_or-last xs x i long) last)
]

-- one vector more
pub each-pushed : (Holds : ℕ → List ℕ → Type 0) (old new : List (Vec ℕ Global)) (x : Vec ℕ Global) (i : ℕ) → new ≡ old ++ x ∷ [] → length old ≡ i
    → ((j : ℕ) → j < i → Holds j (get_or (map (λ v. v.items) old) j [])) → Holds i x.items
    → (j : ℕ) → j < i + 1 → Holds j (get_or (map (λ v. v.items) new) j [])
each-pushed Holds old new x i pushed long each last j lt =
    let items = λ (v : Vec ℕ Global). v.items in
    let mapped : map items old ++ x.items ∷ [] ≡ map items new = sym (map-append items old (x ∷ [])) ∙ ap (map items) (sym pushed) in
    subst (λ xs. Holds j (get_or xs j [])) mapped (each-more Holds (map items old) x.items i (length-map old items ∙ long) each last j lt)

-- the bytes of a vector among others
pub items_at : (xs : List (Vec ℕ Global)) (x : Vec ℕ Global) (i : ℕ) → i < length xs → x ≡ get_or xs i x → x.items ≡ get_or (map (λ v. v.items) xs) i []
items_at xs x i lt is = ap (λ (v : Vec ℕ Global). v.items) is ∙ sym (get_or-map (λ (v : Vec ℕ Global). v.items) xs i x [] lt)
