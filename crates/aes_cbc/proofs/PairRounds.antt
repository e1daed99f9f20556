-- A round of two blocks side by side is the round of each.
use Rattle.std.proofs.Common.{◌≡◌, ℕ, List, ◌++◌, map, slice_index, bit_xor, refl, sym, ap₂, ◌∙◌}
use Rattle.std.proofs.lemmas.List.{map-append}
use Rattle.std.specs.Simd.Lanes.{zip2}
use lib.Lanes.{pick_l}
use Rattle.aes_cbc.specs.Block.{IsBlock}
use Rattle.aes_cbc.specs.Round.{sub_bytes, shift_rows, mix_columns, add_round_key}
use Rattle.aes_cbc.specs.Tower.{tower, once, twice, last, keyed, last_keyed}
use Rattle.aes_cbc.specs.declared.pair_round.TheConstants.{SHIFTED, TURNED_ONCE, TURNED_TWICE, TURNED_THRICE}
use Rattle.aes_cbc.proofs.LaneRounds.{cells, as_cells, combined, round_of_one, last_combined, last_of_one}

abbrev pub both_combined : List ℕ → List ℕ → List ℕ → List ℕ
both_combined o w k =
    let h = zip2 bit_xor o w in
    zip2 bit_xor (zip2 bit_xor (zip2 bit_xor (pick_l 0 (w ++ w) SHIFTED) (pick_l 0 (h ++ h) TURNED_ONCE)) (zip2 bit_xor (pick_l 0 (o ++ o) TURNED_TWICE) (pick_l 0 (o ++ o) TURNED_THRICE))) k

-- lane by lane
each_combined : (f g h j p q : ℕ → ℕ)
    → both_combined (map once (cells f ++ cells g)) (map twice (cells h ++ cells j)) (map keyed (cells p) ++ map keyed (cells q))
    ≡ combined (map once (cells f)) (map twice (cells h)) (map keyed (cells p)) ++ combined (map once (cells g)) (map twice (cells j)) (map keyed (cells q))
each_combined f g h j p q = refl

pub round_of_two : (s t k l : List ℕ) → IsBlock s → IsBlock t → IsBlock k → IsBlock l
    → both_combined (map once (s ++ t)) (map twice (s ++ t)) (map keyed k ++ map keyed l)
    ≡ map tower (add_round_key (mix_columns (shift_rows (sub_bytes s))) k ++ add_round_key (mix_columns (shift_rows (sub_bytes t))) l)
round_of_two s t k l hs ht hk hl =
    let es = as_cells s hs in
    let et = as_cells t ht in
    let ek = as_cells k hk in
    let el = as_cells l hl in
    (λ i. both_combined (map once (es i ++ et i)) (map twice (es i ++ et i)) (map keyed (ek i) ++ map keyed (el i)))
    ∙ each_combined (slice_index s) (slice_index t) (slice_index s) (slice_index t) (slice_index k) (slice_index l)
    ∙ sym (λ i. combined (map once (es i)) (map twice (es i)) (map keyed (ek i)) ++ combined (map once (et i)) (map twice (et i)) (map keyed (el i)))
    ∙ ap₂ (λ x y. x ++ y) (round_of_one s k hs hk) (round_of_one t l ht hl)
    ∙ sym (map-append tower (add_round_key (mix_columns (shift_rows (sub_bytes s))) k) (add_round_key (mix_columns (shift_rows (sub_bytes t))) l))

abbrev pub both_last_combined : List ℕ → List ℕ → List ℕ
both_last_combined o k = zip2 bit_xor (pick_l 0 (o ++ o) SHIFTED) k

each_last_combined : (f g p q : ℕ → ℕ)
    → both_last_combined (map last (cells f ++ cells g)) (map last_keyed (cells p) ++ map last_keyed (cells q))
    ≡ last_combined (map last (cells f)) (map last_keyed (cells p)) ++ last_combined (map last (cells g)) (map last_keyed (cells q))
each_last_combined f g p q = refl

pub last_of_two : (s t k l : List ℕ) → IsBlock s → IsBlock t → IsBlock k → IsBlock l
    → both_last_combined (map last (s ++ t)) (map last_keyed k ++ map last_keyed l)
    ≡ add_round_key (shift_rows (sub_bytes s)) k ++ add_round_key (shift_rows (sub_bytes t)) l
last_of_two s t k l hs ht hk hl =
    let es = as_cells s hs in
    let et = as_cells t ht in
    let ek = as_cells k hk in
    let el = as_cells l hl in
    (λ i. both_last_combined (map last (es i ++ et i)) (map last_keyed (ek i) ++ map last_keyed (el i)))
    ∙ each_last_combined (slice_index s) (slice_index t) (slice_index k) (slice_index l)
    ∙ sym (λ i. last_combined (map last (es i)) (map last_keyed (ek i)) ++ last_combined (map last (et i)) (map last_keyed (el i)))
    ∙ ap₂ (λ x y. x ++ y) (last_of_one s k hs hk) (last_of_one t l ht hl)
