-- A round of the inverse cipher on two blocks side by side is the round of each.
use Rattle.std.proofs.Common.{◌≡◌, ℕ, List, ◌++◌, map, slice_index, bit_xor, refl, sym, ap₂, ◌∙◌}
use Rattle.std.proofs.lemmas.List.{map-append}
use Rattle.std.specs.Simd.Lanes.{zip2}
use lib.Lanes.{pick_l}
use Rattle.aes_cbc.specs.Block.{IsBlock}
use Rattle.aes_cbc.specs.Round.{add_round_key}
use Rattle.aes_cbc.specs.InverseCipher.{inv_sub_byte, inv_sub_bytes, inv_shift_rows, inv_mix_columns}
use Rattle.aes_cbc.specs.InverseTower.{entered, unmixed}
use Rattle.aes_cbc.specs.declared.pair_inverse_round.TheConstants.{INV_SHIFTED, INV_TURNED_ONCE, INV_TURNED_TWICE, INV_TURNED_THRICE}
use Rattle.aes_cbc.proofs.LaneRounds.{cells, as_cells}
use Rattle.aes_cbc.proofs.InverseLaneRounds.{combined, round_of_one, last_combined, last_of_one}

abbrev pub both_combined : List ℕ → List ℕ → List ℕ → List ℕ → List ℕ → List ℕ
both_combined p q x y k =
    zip2 bit_xor (zip2 bit_xor (zip2 bit_xor (pick_l 0 (p ++ p) INV_SHIFTED) (pick_l 0 (q ++ q) INV_TURNED_ONCE)) (zip2 bit_xor (pick_l 0 (x ++ x) INV_TURNED_TWICE) (pick_l 0 (y ++ y) INV_TURNED_THRICE))) k

-- what a round looks up at a block
abbrev of_block : List ℕ → List ℕ → List ℕ
of_block s u = combined (map (unmixed 14) s) (map (unmixed 11) s) (map (unmixed 13) s) (map (unmixed 9) s) (map entered u)

abbrev pub of_pair : List ℕ → List ℕ → List ℕ
of_pair s u = both_combined (map (unmixed 14) s) (map (unmixed 11) s) (map (unmixed 13) s) (map (unmixed 9) s) u

-- lane by lane
each_combined : (f g p q : ℕ → ℕ)
    → of_pair (cells f ++ cells g) (map entered (cells p) ++ map entered (cells q)) ≡ of_block (cells f) (cells p) ++ of_block (cells g) (cells q)
each_combined f g p q = refl

pub round_of_two : (s t u : List ℕ) → IsBlock s → IsBlock t → IsBlock u
    → of_pair (s ++ t) (map entered u ++ map entered u)
    ≡ map entered (add_round_key (inv_mix_columns (inv_sub_bytes (inv_shift_rows s))) u ++ add_round_key (inv_mix_columns (inv_sub_bytes (inv_shift_rows t))) u)
round_of_two s t u hs ht hu =
    let es = as_cells s hs in
    let et = as_cells t ht in
    let eu = as_cells u hu in
    (λ i. of_pair (es i ++ et i) (map entered (eu i) ++ map entered (eu i)))
    ∙ each_combined (slice_index s) (slice_index t) (slice_index u) (slice_index u)
    ∙ sym (λ i. of_block (es i) (eu i) ++ of_block (et i) (eu i))
    ∙ ap₂ (λ x y. x ++ y) (round_of_one s u hs hu) (round_of_one t u ht hu)
    ∙ sym (map-append entered (add_round_key (inv_mix_columns (inv_sub_bytes (inv_shift_rows s))) u) (add_round_key (inv_mix_columns (inv_sub_bytes (inv_shift_rows t))) u))

abbrev pub both_last_combined : List ℕ → List ℕ → List ℕ
both_last_combined o k = zip2 bit_xor (pick_l 0 (o ++ o) INV_SHIFTED) k

each_last_combined : (f g p q : ℕ → ℕ)
    → both_last_combined (map inv_sub_byte (cells f ++ cells g)) (cells p ++ cells q)
    ≡ last_combined (map inv_sub_byte (cells f)) (cells p) ++ last_combined (map inv_sub_byte (cells g)) (cells q)
each_last_combined f g p q = refl

pub last_of_two : (s t k : List ℕ) → IsBlock s → IsBlock t → IsBlock k
    → both_last_combined (map inv_sub_byte (s ++ t)) (k ++ k)
    ≡ add_round_key (inv_sub_bytes (inv_shift_rows s)) k ++ add_round_key (inv_sub_bytes (inv_shift_rows t)) k
last_of_two s t k hs ht hk =
    let es = as_cells s hs in
    let et = as_cells t ht in
    let ek = as_cells k hk in
    (λ i. both_last_combined (map inv_sub_byte (es i ++ et i)) (ek i ++ ek i))
    ∙ each_last_combined (slice_index s) (slice_index t) (slice_index k) (slice_index k)
    ∙ sym (λ i. last_combined (map inv_sub_byte (es i)) (ek i) ++ last_combined (map inv_sub_byte (et i)) (ek i))
    ∙ ap₂ (λ x y. x ++ y) (last_of_one s k hs hk) (last_of_one t k ht hk)
