-- Two blocks side by side from the first round to the last.
use Rattle.std.proofs.Common.{◌≡◌, ℕ, ◌+◌, List, ◌++◌, map, take, drop, bit_xor, sym, ap, ap₂, ◌∙◌}
use Rattle.std.specs.Simd.Lanes.{zip2}
use Rattle.aes_cbc.specs.Block.{IsBlock, xor_bytes}
use Rattle.aes_cbc.specs.Round.{sub_bytes, shift_rows, mix_columns, add_round_key}
use Rattle.aes_cbc.specs.KeyExpansion.{round_key, four_words}
use Rattle.aes_cbc.specs.Cipher.{state_after, aes}
use Rattle.aes_cbc.specs.InverseCipher.{inv_state_after, inv_aes}
use Rattle.aes_cbc.specs.Tower.{tower, keyed, last_keyed}
use Rattle.aes_cbc.specs.InverseTower.{entered}
use Rattle.aes_cbc.specs.Pairs.{ArePair}
use Rattle.aes_cbc.proofs.CipherRounds.{state_after_next}
use Rattle.aes_cbc.proofs.CipherInverse.{state_after-IsBlock, aes-IsBlock, inv_aes-IsBlock}
use Rattle.aes_cbc.proofs.RoundKeyBlocks.{round_key-IsBlock}
use Rattle.aes_cbc.proofs.PairSums.{are_pair, halves_of, sum_of_pairs}

-- what the cipher starts from, under the keys k and l
pub start_states : (k l blocks start state : List ℕ) → ArePair start k l → state ≡ map tower (zip2 bit_xor blocks start)
    → state ≡ map tower (state_after k (take 16 blocks) 0 ++ state_after l (drop 16 blocks) 0)
unfolding state_after four_words
start_states k l blocks start state pair at =
    at ∙ ap (map tower) (sum_of_pairs blocks start (take 16 blocks) (drop 16 blocks) k l (halves_of blocks) pair)

-- one more round, which is next at any two blocks
pub next_states : (k l m n : List ℕ) (i : ℕ) (state keys next : List ℕ) → IsBlock k → IsBlock l → IsBlock m → IsBlock n
    → ((s t p q : List ℕ) → IsBlock s → IsBlock t → IsBlock p → IsBlock q → state ≡ map tower (s ++ t) → keys ≡ map keyed p ++ map keyed q
    → next ≡ map tower (add_round_key (mix_columns (shift_rows (sub_bytes s))) p ++ add_round_key (mix_columns (shift_rows (sub_bytes t))) q))
    → state ≡ map tower (state_after k m i ++ state_after l n i) → keys ≡ map keyed (round_key k (i + 1)) ++ map keyed (round_key l (i + 1))
    → next ≡ map tower (state_after k m (i + 1) ++ state_after l n (i + 1))
next_states k l m n i state keys next hk hl hm hn round is of_keys =
    round (state_after k m i) (state_after l n i) (round_key k (i + 1)) (round_key l (i + 1))
    (state_after-IsBlock k m i hk hm) (state_after-IsBlock l n i hl hn) (round_key-IsBlock k (i + 1) hk) (round_key-IsBlock l (i + 1) hl) is of_keys
    ∙ ap (map tower) (ap₂ (λ x y. x ++ y) (sym (state_after_next k m i)) (sym (state_after_next l n i)))

-- the last round, which is next at any two blocks
pub last_states : (k l m n state keys next : List ℕ) → IsBlock k → IsBlock l → IsBlock m → IsBlock n
    → ((s t p q : List ℕ) → IsBlock s → IsBlock t → IsBlock p → IsBlock q → state ≡ map tower (s ++ t) → keys ≡ map last_keyed p ++ map last_keyed q
    → next ≡ add_round_key (shift_rows (sub_bytes s)) p ++ add_round_key (shift_rows (sub_bytes t)) q)
    → state ≡ map tower (state_after k m 9 ++ state_after l n 9) → keys ≡ map last_keyed (round_key k 10) ++ map last_keyed (round_key l 10)
    → ArePair next (aes k m) (aes l n)
unfolding aes
last_states k l m n state keys next hk hl hm hn round is of_keys =
    are_pair next (aes k m) (aes l n) (aes-IsBlock k m hk hm).long
    (round (state_after k m 9) (state_after l n 9) (round_key k 10) (round_key l 10)
    (state_after-IsBlock k m 9 hk hm) (state_after-IsBlock l n 9 hl hn) (round_key-IsBlock k 10 hk) (round_key-IsBlock l 10 hl) is of_keys)

-- what the inverse cipher starts from
pub inv_start_states : (k blocks start state t : List ℕ) → ArePair start t t → t ≡ round_key k 10 → state ≡ map entered (zip2 bit_xor blocks start)
    → state ≡ map entered (inv_state_after k (take 16 blocks) 0 ++ inv_state_after k (drop 16 blocks) 0)
unfolding inv_state_after
inv_start_states k blocks start state t pair of_t at =
    at ∙ ap (map entered) (sum_of_pairs blocks start (take 16 blocks) (drop 16 blocks) t t (halves_of blocks) pair
    ∙ ap (λ x. xor_bytes (take 16 blocks) x ++ xor_bytes (drop 16 blocks) x) of_t)

-- two blocks that were encrypted
pub are_plain : (k m n p : List ℕ) → IsBlock k → IsBlock m → p ≡ inv_aes k m ++ inv_aes k n → ArePair p (inv_aes k m) (inv_aes k n)
are_plain k m n p hk hm e = are_pair p (inv_aes k m) (inv_aes k n) (inv_aes-IsBlock k m hk hm).long e
