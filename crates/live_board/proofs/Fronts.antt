-- Beginnings of one list.
use Rattle.std.proofs.Common.{◌≡◌, ◌≤◌, List, [], ◌∷◌, ◌++◌, length, refl, arith, sym, ap, ◌∙◌, append_assoc}
use Rattle.std.proofs.lemmas.List.{append-nil}
use mathlib.Core.List.{IsPrefix}
use Rattle.ghost_list.specs.Lists.{IsBeginning}

-- of two beginnings of one list the one that isn't longer begins the other
pub begins-longer : {A : Type 0} (xs ys whole : List A) → IsPrefix xs whole → IsPrefix ys whole → length xs ≤ length ys → IsBeginning xs ys
begins-longer [] ys whole p q le = (ys, refl)
begins-longer (x ∷ xs) [] whole p q le = absurd (omega arith)
begins-longer (x ∷ xs) (y ∷ ys) [] p q le = absurd (cc (p.1))
begins-longer (x ∷ xs) (y ∷ ys) (z ∷ whole) p q le =
    let heads : y ≡ x = cc (p.1, q.1) in
    let rest = begins-longer xs ys whole (p.0, cc (p.1)) (q.0, cc (q.1)) (omega arith) in
    (rest.0, cc (heads, rest.1))

-- a beginning as long as the whole is the whole
pub begins-whole : {A : Type 0} (xs ys : List A) → IsPrefix xs ys → length ys ≤ length xs → xs ≡ ys
begins-whole [] [] p le = refl
begins-whole [] (y ∷ ys) p le = absurd (omega arith)
begins-whole (x ∷ xs) [] p le = absurd (cc (p.1))
begins-whole (x ∷ xs) (y ∷ ys) p le =
    let rest = begins-whole xs ys (p.0, cc (p.1)) (omega arith) in
    cc (p.1, rest)

-- each list begins itself
pub begins_itself : {A : Type 0} (xs : List A) → IsBeginning xs xs
begins_itself xs = ([], sym (append-nil xs))

-- what begins a beginning of a list begins the list
pub begins-on : {A : Type 0} (xs ys zs : List A) → IsBeginning xs ys → IsBeginning ys zs → IsBeginning xs zs
begins-on xs ys zs p q = (p.0 ++ q.0, q.1 ∙ (ap (λ w. w ++ q.0) p.1 ∙ append_assoc xs p.0 q.0))
