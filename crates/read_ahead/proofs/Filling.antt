-- A buffer that is filled from its front on.
use Rattle.std.proofs.Common.{◌≡◌, ◌+◌, ◌≤◌, ◌++◌, ℕ, List, length, take, drop, arith, sym, ap, ◌∙◌, refl}
use Rattle.std.proofs.lemmas.List.{take-take, take_at, drop_at, length-take-le}
use Rattle.std.proofs.lemmas.Slice.{take-put_mid}
use Rattle.std.proofs.Math.Seq.{take-add}
use borrow.Rule.Slice.PartMut.{put_mid}

-- the front of two lists joined
pub take_joined : (a r : ℕ) (xs ys : List ℕ) → length xs ≡ a → take (a + r) (xs ++ ys) ≡ xs ++ take r ys
take_joined a r xs ys len =
    take-add a r (xs ++ ys) ∙ ap (λ (zs : List ℕ). zs ++ take r (drop a (xs ++ ys))) (take_at xs ys a len) ∙ ap (λ (zs : List ℕ). xs ++ take r zs) (drop_at xs ys a len)

-- the front of a list that was written from a on
pub take_grows : (a r k : ℕ) (xs ys : List ℕ) → a ≤ length xs → r ≤ length ys → take (a + r) (put_mid a k xs ys) ≡ take a xs ++ take r ys
take_grows a r k xs ys within some =
    sym (take-take (a + r) (a + length ys) (put_mid a k xs ys) (omega arith))
    ∙ ap (λ (zs : List ℕ). take (a + r) zs) (take-put_mid a k xs ys (a + length ys) refl within)
    ∙ take_joined a r (take a xs) ys (length-take-le a xs within)
