-- Bytes that are left, where they are known, and what was taken of them.
use Rattle.std.proofs.Common.{◌≡◌, ◌+◌, ◌-◌, ◌≤◌, ◌<◌, ◌++◌, [], ℕ, List, length, take, drop, Option, None, Some, arith, sym, ap, ◌∙◌, append_assoc, append-nil, refl, ap₂, subst, IfSome}
use Rattle.std.proofs.lemmas.List.{take-append-drop, drop-drop, length-take-le}
use Rattle.std.proofs.Math.Seq.{take-append_seam, drop-append_seam}
use Rattle.std.specs.Io.KnownBytes.{Consumes, IsAtEnd, Keeps, prepend_known}
use Rattle.std.specs.Option.{option_map}

-- nothing was taken
pub consumes_none : (a : Option (List ℕ)) → Consumes a a []
consumes_none None = tt
consumes_none (Some xs) = refl

-- one after the other
pub consumes_on : (a b c : Option (List ℕ)) (xs ys : List ℕ) → Consumes a b xs → Consumes b c ys → Consumes a c (xs ++ ys)
consumes_on None b c xs ys p q = tt
consumes_on (Some zs) None c xs ys p q = absurd p
consumes_on (Some zs) (Some bs) None xs ys p q = absurd q
consumes_on (Some zs) (Some bs) (Some cs) xs ys p q = p ∙ ap (λ (l : List ℕ). xs ++ l) q ∙ sym (append_assoc xs ys cs)

-- behind a read that took nothing
pub consumes_kept : (a b c : Option (List ℕ)) (xs : List ℕ) → Consumes a b xs → Keeps b c → Consumes a c xs
consumes_kept None b c xs p q = tt
consumes_kept (Some zs) None c xs p q = absurd p
consumes_kept (Some zs) (Some bs) None xs p q = absurd q
consumes_kept (Some zs) (Some bs) (Some cs) xs p q = p ∙ ap (λ (l : List ℕ). xs ++ l) (sym q)

-- the front of what begins with xs
begins_at : (zs xs : List ℕ) (ys : Option (List ℕ)) → Consumes (Some zs) ys xs → take (length xs) zs ≡ xs
begins_at zs xs None p = absurd p
begins_at zs xs (Some ys) p = ap (λ (l : List ℕ). take (length xs) l) p ∙ take-append_seam xs ys

pub begins : (start ys : Option (List ℕ)) (xs : List ℕ) → Consumes start ys xs → IfSome start (λ zs. take (length xs) zs ≡ xs)
begins None ys xs p = tt
begins (Some zs) ys xs p = begins_at zs xs ys p

pub whole : (start rest : Option (List ℕ)) (xs : List ℕ) → Consumes start rest xs → IsAtEnd rest → IfSome start (λ zs. zs ≡ xs)
whole None rest xs p end = tt
whole (Some zs) None xs p end = absurd p
whole (Some zs) (Some ys) xs p end = p ∙ ap (λ (l : List ℕ). xs ++ l) end ∙ append-nil xs

-- what begins with a ++ b leaves b and then the rest, once a is gone
split_front : (zs a b : List ℕ) → take (length (a ++ b)) zs ≡ a ++ b → drop (length a) zs ≡ b ++ drop (length (a ++ b)) zs
split_front zs a b pre =
    ap (λ (l : List ℕ). drop (length a) l) (sym (take-append-drop (length (a ++ b)) zs) ∙ ap (λ (l : List ℕ). l ++ drop (length (a ++ b)) zs) pre ∙ append_assoc a b (drop (length (a ++ b)) zs))
    ∙ drop-append_seam a (b ++ drop (length (a ++ b)) zs)

pub left_front : (start : Option (List ℕ)) (a b : List ℕ) → IfSome start (λ zs. take (length (a ++ b)) zs ≡ a ++ b)
    → prepend_known b (option_map (λ zs. drop (length (a ++ b)) zs) start) ≡ option_map (λ zs. drop (length a) zs) start
left_front None a b pre = refl
left_front (Some zs) a b pre = ap Some (sym (split_front zs a b pre))

pub none_left : (start : Option (List ℕ)) (xs : List ℕ) → IfSome start (λ zs. zs ≡ xs) → IsAtEnd (option_map (λ zs. drop (length xs) zs) start)
none_left None xs all = tt
none_left (Some zs) xs all = ap (λ (l : List ℕ). drop (length xs) l) (all ∙ sym (append-nil xs)) ∙ drop-append_seam xs []

-- a front block gives its next bytes
pub gives : (n at : ℕ) (block : List ℕ) (rest : Option (List ℕ)) → Consumes (prepend_known (drop at block) rest) (prepend_known (drop (at + n) block) rest) (take n (drop at block))
gives n at block None = tt
gives n at block (Some ys) =
    ap (λ (l : List ℕ). l ++ ys) (sym (take-append-drop n (drop at block)))
    ∙ append_assoc (take n (drop at block)) (drop n (drop at block)) ys
    ∙ ap (λ (l : List ℕ). take n (drop at block) ++ (l ++ ys)) (drop-drop n at block)

-- which then are the last that it has passed
pub passes : (n at : ℕ) (block : List ℕ) (rest : Option (List ℕ)) → Consumes (prepend_known (drop at block) rest) (prepend_known (drop (at + n) block) rest) (take n (drop (at + n - n) block))
passes n at block rest =
    let back : at ≡ at + n - n = omega arith in
    subst (λ (k : ℕ). Consumes (prepend_known (drop at block) rest) (prepend_known (drop (at + n) block) rest) (take n (drop k block))) back (gives n at block rest)

pub prepend_nil : (rest : Option (List ℕ)) → prepend_known [] rest ≡ rest
prepend_nil None = refl
prepend_nil (Some ys) = refl

pub some_taken : (n : ℕ) (buffer block : List ℕ) → (n ≡ 0 → ⊥) → n ≤ length buffer → block ≡ take n buffer → 0 < length block
some_taken n buffer block test within is =
    let some : 0 < n = grind arith in
    omega (arith, ap length is, length-take-le n buffer within)

pub drop_used : (at : ℕ) (front : List ℕ) → at ≡ length front → drop at front ≡ []
drop_used at front used = ap₂ drop used (sym (append-nil front)) ∙ drop-append_seam front []
