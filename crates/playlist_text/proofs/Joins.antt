-- Lists with a comma between two of them.
use Rattle.std.proofs.Common.{◌≡◌, ℕ, zero, suc, subst, ◌+◌, ◌<◌, ◌≤◌, List, [], ◌∷◌, ◌++◌, length, get_or, drop, map, sym, ap, ◌∙◌, arith, length-append}
use Rattle.std.specs.List.{join_with_byte}
use Rattle.std.proofs.lemmas.List.{append-nil, append_assoc, at_drop_more}
use Rattle.playlist_text.specs.Appended.{AppendsPart}
use Rattle.playlist_text.proofs.Appending.{part-front, part-of-whole, part-then}

-- each with a comma before it
abbrev pub separated : List (List ℕ) → List ℕ
separated [] = []
separated (x ∷ xs) = 44 ∷ x ++ separated xs

-- the first, and the others with a comma before each
pub join-separated : (x : List ℕ) (xs : List (List ℕ)) → join_with_byte 44 (x ∷ xs) ≡ x ++ separated xs
join-separated x [] = sym (append-nil x)
join-separated x (y ∷ xs) = ap (λ (zs : List ℕ). x ++ (44 ∷ zs)) (join-separated y xs)

-- what was written of a list that begins with x, once the others are written
pub joined : (old begun all x : List ℕ) (xs : List (List ℕ)) → begun ≡ old ++ x → all ++ [] ≡ begun ++ separated xs →
    all ≡ old ++ join_with_byte 44 (x ∷ xs)
joined old begun all x xs first others =
    sym (append-nil all) ∙ others ∙ ap (λ (ys : List ℕ). ys ++ separated xs) first ∙ append_assoc old x (separated xs)
    ∙ ap (λ (ys : List ℕ). old ++ ys) (sym (join-separated x xs))

-- how long all of it is, where some of it is left to write
pub all-long : (old begun now x : List ℕ) (xs left : List (List ℕ)) → begun ≡ old ++ x → now ++ separated left ≡ begun ++ separated xs →
    length now + length (separated left) ≡ length old + length (join_with_byte 44 (x ∷ xs))
all-long old begun now x xs left first others =
    let whole = simp length-append at (ap length (join-separated x xs)) in
    let begins = simp length-append at (ap length first) in
    let both = simp length-append at (ap length others) in
    omega arith

-- the next one is as long as that, with its comma
pub item-long : {A : Type 0} (f : A → List ℕ) (xs : List A) (i : ℕ) (d : A) → i < length xs →
    1 + length (f (get_or xs i d)) ≤ length (separated (map f (drop i xs)))
item-long f xs i d below =
    let more = at_drop_more (λ ys. length (separated (map f ys))) xs i d below in
    omega (arith, more, length-append (f (get_or xs i d)) (separated (map f (drop (i + 1) xs))))

-- those that are left are no longer than all
pub left-short : {A : Type 0} (f : A → List ℕ) (xs : List A) (i : ℕ) → length (separated (map f (drop i xs))) ≤ length (separated (map f xs))
left-short f xs zero = omega arith
left-short f [] (suc i) = omega arith
left-short f (x ∷ xs) (suc i) = omega (arith, left-short f xs i, length-append (f x) (separated (map f xs)))

-- a beginning of the list was written: of its first one, or of the others behind that
pub list-front : (old new x : List ℕ) (xs : List (List ℕ)) → AppendsPart old x new → AppendsPart old (join_with_byte 44 (x ∷ xs)) new
list-front old new x xs p = subst (λ (all : List ℕ). AppendsPart old all new) (sym (join-separated x xs)) (part-front old x (separated xs) new p)

pub list-then : (old begun new x : List ℕ) (xs : List (List ℕ)) → begun ≡ old ++ x → AppendsPart begun (separated xs) new → AppendsPart old (join_with_byte 44 (x ∷ xs)) new
list-then old begun new x xs first p = subst (λ (all : List ℕ). AppendsPart old all new) (sym (join-separated x xs)) (part-then old begun new x (separated xs) first p)

-- behind those that were written
pub left-then : {A : Type 0} (f : A → List ℕ) (begun now new : List ℕ) (xs : List A) (i : ℕ) → now ++ separated (map f (drop i xs)) ≡ begun ++ separated (map f xs)
    → AppendsPart now (separated (map f (drop i xs))) new → AppendsPart begun (separated (map f xs)) new
left-then f begun now new xs i written p =
    let lengths = simp length-append at (ap length written) in
    part-of-whole begun now new (separated (map f (drop i xs))) (separated (map f xs)) written (omega (arith, lengths, left-short f xs i)) p

-- of the next one, behind its comma
pub item-then : {A : Type 0} (f : A → List ℕ) (now comma new : List ℕ) (xs : List A) (i : ℕ) (d : A) → i < length xs → comma ≡ now ++ 44 ∷ []
    → AppendsPart comma (f (get_or xs i d)) new → AppendsPart now (separated (map f (drop i xs))) new
item-then f now comma new xs i d below is p =
    let more = at_drop_more (λ ys. separated (map f ys)) xs i d below in
    subst (λ (all : List ℕ). AppendsPart now all new) (sym more)
    (part-then now comma new (44 ∷ []) (f (get_or xs i d) ++ separated (map f (drop (i + 1) xs))) is
    (part-front comma (f (get_or xs i d)) (separated (map f (drop (i + 1) xs))) new p))
