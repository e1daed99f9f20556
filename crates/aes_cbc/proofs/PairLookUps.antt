-- The bytes of two blocks side by side looked up one by one.
use Rattle.std.proofs.Common.{◌≡◌, ℕ, ◌+◌, ◌*◌, ◌/◌, ◌%◌, ◌<◌, ◌||◌, Bool, true, false, cond, leb, ltb, T, List, length, map, get_or, refl, sym, ap, subst, ◌∙◌, arith, w8}
use Rattle.std.proofs.lemmas.Bool.{false≢true, ltb-true}
use Rattle.std.proofs.lemmas.List.{get_or-map, length-map, ext_get_or}
use Rattle.std.specs.List.{All}
use Rattle.std.proofs.lemmas.Simd.{Each1-from_get_or, swz_l, SwzOk, SwzOk-from_Each1, length-swz_l, get_or-swz_l}
use Rattle.aes_cbc.specs.Look.{look, is_place}

-- places that a shuffle takes
pub places_ok : (js : List ℕ) → length js ≡ 32 → All (λ j. is_place j ≡ true) js → SwzOk w8 16 32 0 js
places_ok js long places =
    SwzOk-from_Each1 w8 16 2 32 0 js refl (omega arith)
    (Each1-from_get_or (λ j. T (is_place j)) js 0 (λ i lt. subst T (sym (places i 0 lt)) tt))

small_place : (b : Bool) (j : ℕ) → b ≡ false → (b || ltb j 16) ≡ true → j < 16
small_place true j e p = absurd (false≢true (sym e))
small_place false j e p = ltb-true _ _ p

-- a byte looked up in either half of a vector that holds the table twice
one : (t wide : List ℕ) (i j : ℕ) → i < 32 → is_place j ≡ true → ((k : ℕ) → k < 32 → get_or wide k 0 ≡ get_or t (k % 16) 0)
    → cond (leb 128 j) 0 (get_or wide (16 * ((0 + i) / 16) + j) 0) ≡ look t j
one t wide i j lt place twice = go (leb 128 j) refl
  where
    go : (b : Bool) → leb 128 j ≡ b → cond b 0 (get_or wide (16 * ((0 + i) / 16) + j) 0) ≡ cond b 0 (get_or t j 0)
    go true e = refl
    go false e =
        let small : j < 16 = small_place (leb 128 j) j e place in
        let again : (16 * ((0 + i) / 16) + j) % 16 ≡ j = omega arith in
        twice (16 * ((0 + i) / 16) + j) (omega arith) ∙ ap (λ k. get_or t k 0) again

-- the places of a table looked up
pub looked_up : (t wide js : List ℕ) → length js ≡ 32 → All (λ j. is_place j ≡ true) js → ((k : ℕ) → k < 32 → get_or wide k 0 ≡ get_or t (k % 16) 0)
    → swz_l w8 16 wide 0 js ≡ map (look t) js
looked_up t wide js long places twice =
    ext_get_or 0 _ _ (length-swz_l w8 16 wide 0 js ∙ sym (length-map js (look t))) (λ i h.
    let lt : i < length js = omega (arith, length-swz_l w8 16 wide 0 js) in
    get_or-swz_l w8 16 wide 0 js i lt
    ∙ one t wide i (get_or js i 0) (omega arith) (places i 0 lt) twice
    ∙ sym (get_or-map (look t) js i 0 0 lt))
