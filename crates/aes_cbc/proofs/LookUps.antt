-- The bytes of a block computed one by one.
use Rattle.std.proofs.Common.{◌≡◌, ℕ, ◌+◌, ◌*◌, ◌/◌, ◌<◌, true, cond, leb, T, List, length, map, get_or, refl, sym, ap, subst, ◌∙◌, arith, w8, Fits}
use Rattle.std.proofs.lemmas.List.{get_or-map, length-map, ext_get_or}
use Rattle.std.proofs.lemmas.List.Elements.{All-map}
use Rattle.std.specs.List.{All}
use Rattle.std.proofs.lemmas.Simd.{Each1-from_get_or, Each1-get_or, swz_l, SwzOk, SwzOk-from_Each1, length-swz_l, get_or-swz_l}
use Rattle.std.specs.Simd.Lanes.{Each1}
use Rattle.aes_cbc.proofs.EachByte.{passes_below, passes_below-at}
use Rattle.aes_cbc.specs.Look.{look, is_place}

-- lanes that are bytes
pub lanes_bytes : (v : List ℕ) → Each1 (Fits w8) v → All (λ x. x < 256) v
lanes_bytes v fits k d lt = (Each1-get_or (Fits w8) v k d lt fits).fits

-- a test of each byte, as the fact at each place of lanes that are computed from bytes
pub places_from : (g : ℕ → ℕ) (v js : List ℕ) → js ≡ map g v → Each1 (Fits w8) v → passes_below (λ x. is_place (g x)) 256 ≡ true → All (λ j. is_place j ≡ true) js
places_from g v js e fits all =
    subst (All (λ j. is_place j ≡ true)) (sym e)
    (All-map (λ j. is_place j ≡ true) g v (λ k d lt. passes_below-at (λ x. is_place (g x)) 256 all _ (lanes_bytes v fits k d lt)))

-- places that a shuffle takes
pub places_ok : (js : List ℕ) → length js ≡ 16 → All (λ j. is_place j ≡ true) js → SwzOk w8 16 16 0 js
places_ok js long places =
    SwzOk-from_Each1 w8 16 1 16 0 js refl (omega arith)
    (Each1-from_get_or (λ j. T (is_place j)) js 0 (λ i lt. subst T (sym (places i 0 lt)) tt))

-- a byte looked up
one : (t : List ℕ) (i j : ℕ) → i < 16 → is_place j ≡ true → cond (leb 128 j) 0 (get_or t (16 * ((0 + i) / 16) + j) 0) ≡ look t j
one t i j lt place = let same : 16 * ((0 + i) / 16) + j ≡ j = omega arith in ap (λ k. cond (leb 128 j) 0 (get_or t k 0)) same

-- the places of a table looked up
pub looked_up : (t js : List ℕ) → length js ≡ 16 → All (λ j. is_place j ≡ true) js → swz_l w8 16 t 0 js ≡ map (look t) js
looked_up t js long places =
    ext_get_or 0 _ _ (length-swz_l w8 16 t 0 js ∙ sym (length-map js (look t))) (λ i h.
    let lt : i < length js = omega (arith, length-swz_l w8 16 t 0 js) in
    get_or-swz_l w8 16 t 0 js i lt
    ∙ one t i (get_or js i 0) (omega arith) (places i 0 lt)
    ∙ sym (get_or-map (look t) js i 0 0 lt))

-- functions that agree on the elements
pub map_agree : (f g : ℕ → ℕ) (s : List ℕ) → All (λ b. b < 256) s → ((b : ℕ) → b < 256 → f b ≡ g b) → map f s ≡ map g s
map_agree f g s bytes same =
    ext_get_or 0 _ _ (length-map s f ∙ sym (length-map s g)) (λ i h.
    let lt : i < length s = omega (arith, length-map s f) in
    get_or-map f s i 0 0 lt ∙ same (get_or s i 0) (bytes i 0 lt) ∙ sym (get_or-map g s i 0 0 lt))
