-- Lists that grow by one, and lists that are alike place by place.
use Rattle.std.proofs.Common.{All, arith, ℕ, ◌+◌, ◌<◌, ◌≡◌, zero, suc, ◌++◌, ◌∷◌, [], List, length, map, take, get_or, refl, sym, ap, ◌∙◌, ap₂}
use Rattle.std.proofs.lemmas.List.{length-append, map-append, map-id, take_more}
use Rattle.std.proofs.lemmas.List.FromFn.{map-range_with_len_more}
use Rattle.std.specs.List.{AllZip, range_with_len}

pub maps_snoc : {A B C : Type 0} (f : A → C) (h : B → C) (xs zs : List A) (x : A) (ys : List B) (y : B) → zs ≡ xs ++ x ∷ [] → map f xs ≡ map h ys → f x ≡ h y → map f zs ≡ map h (ys ++ y ∷ [])
maps_snoc {A} {B} {C} f h xs zs x ys y is maps one =
    ap (map f) is ∙ map-append f xs (x ∷ []) ∙ ap₂ (λ (l : List C) (c : C). l ++ c ∷ []) maps one ∙ sym (map-append h ys (y ∷ []))

pub All_one : {X : Type 0} (P : X → Type 0) (x : X) → P x → All P (x ∷ [])
All_one P x p zero d lt = p
All_one P x p (suc k) d lt = absurd (omega arith)

-- numbers that follow on one another, and the next one
pub numbers_snoc : {A : Type 0} (f : A → ℕ) (xs zs : List A) (x : A) → zs ≡ xs ++ x ∷ [] → map f xs ≡ range_with_len 0 (length xs) → f x ≡ length xs
    → map f zs ≡ range_with_len 0 (length zs)
numbers_snoc f xs zs x is numbers one =
    maps_snoc f (λ (k : ℕ). k) xs zs x (range_with_len 0 (length xs)) (length xs) is (numbers ∙ sym (map-id (range_with_len 0 (length xs)))) one
    ∙ map-append (λ (k : ℕ). k) (range_with_len 0 (length xs)) (length xs ∷ [])
    ∙ sym (map-range_with_len_more (λ (k : ℕ). k) 0 (length xs) (length xs) (omega arith))
    ∙ map-id (range_with_len 0 (length xs + 1))
    ∙ ap (range_with_len 0) (omega (arith, ap length is, length-append xs (x ∷ [])))

-- one place more
pub zip_snoc : {A B : Type 0} (R : A → B → Type 0) (xs : List A) (ys : List B) (x : A) (y : B) → AllZip R xs ys → R x y → AllZip R (xs ++ x ∷ []) (ys ++ y ∷ [])
zip_snoc R [] [] x y all one = (one, tt)
zip_snoc R [] (b ∷ ys) x y all one = absurd all
zip_snoc R (a ∷ xs) [] x y all one = absurd all
zip_snoc R (a ∷ xs) (b ∷ ys) x y all one = (all.0, zip_snoc R xs ys x y all.1 one)

-- of the first of a list
pub zip_more : {A B : Type 0} (R : A → B → Type 0) (xs : List A) (ys : List B) (i : ℕ) (d : A) (y : B) → i < length xs → AllZip R (take i xs) ys → R (get_or xs i d) y
    → AllZip R (take (i + 1) xs) (ys ++ y ∷ [])
zip_more R xs ys i d y lt all one = rw (take_more xs i d lt) (zip_snoc R (take i xs) ys (get_or xs i d) y all one)

-- by way of a third list
pub zip_through : {A B C : Type 0} (R : A → B → Type 0) (Q : B → C → Type 0) (S : A → C → Type 0) (xs : List A) (ys : List B) (zs : List C) →
    ((x : A) (y : B) (z : C) → R x y → Q y z → S x z) → AllZip R xs ys → AllZip Q ys zs → AllZip S xs zs
zip_through R Q S [] [] [] each all more = tt
zip_through R Q S [] [] (z ∷ zs) each all more = absurd more
zip_through R Q S [] (y ∷ ys) zs each all more = absurd all
zip_through R Q S (x ∷ xs) [] zs each all more = absurd all
zip_through R Q S (x ∷ xs) (y ∷ ys) [] each all more = absurd more
zip_through R Q S (x ∷ xs) (y ∷ ys) (z ∷ zs) each all more = (each x y z all.0 more.0, zip_through R Q S xs ys zs each all.1 more.1)

pub zip_length : {A B : Type 0} (R : A → B → Type 0) (xs : List A) (ys : List B) → AllZip R xs ys → length xs ≡ length ys
zip_length R [] [] all = refl
zip_length R [] (y ∷ ys) all = absurd all
zip_length R (x ∷ xs) [] all = absurd all
zip_length R (x ∷ xs) (y ∷ ys) all = ap suc (zip_length R xs ys all.1)

-- what is made of two such lists is the same where it is at each place
pub zip_maps : {A B C : Type 0} (R : A → B → Type 0) (f : A → C) (h : B → C) (xs : List A) (ys : List B) → ((x : A) (y : B) → R x y → h y ≡ f x) → AllZip R xs ys → map h ys ≡ map f xs
zip_maps R f h [] [] each all = refl
zip_maps R f h [] (y ∷ ys) each all = absurd all
zip_maps R f h (x ∷ xs) [] each all = absurd all
zip_maps {A} {B} {C} R f h (x ∷ xs) (y ∷ ys) each all = ap₂ (λ (c : C) (cs : List C). c ∷ cs) (each x y all.0) (zip_maps R f h xs ys each all.1)
