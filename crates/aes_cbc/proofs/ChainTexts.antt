-- One more block of a chain that is written over its text.
use Rattle.std.proofs.Common.{◌≡◌, ℕ, ◌+◌, ◌-◌, ◌*◌, ◌/◌, ◌<◌, ◌≤◌, List, [], ◌++◌, length, take, drop, get_or, sym, ap, ◌∙◌, arith}
use Rattle.std.proofs.lemmas.List.{take_all}
use Rattle.std.proofs.lemmas.Slice.{take-put_mid, drop-put_mid}
use Rattle.std.specs.List.{concat}
use borrow.Rule.Slice.PartMut.{put_mid}
use Rattle.aes_cbc.specs.Block.{xor_bytes}
use Rattle.aes_cbc.specs.Cipher.{aes}
use Rattle.aes_cbc.specs.Chain.{cbc, blocks}
use Rattle.aes_cbc.proofs.ChainInPlace.{length-blocks, rest_ahead}
use Rattle.aes_cbc.proofs.ChainSteps.{cbc_more, cbc_done}

-- what is written, and what its rest will be
pub items_next : (key text now last next new total : List ℕ) (i : ℕ) → i < length text / 16 → length now ≡ length text
    → new ≡ next → length next ≡ 16 → next ≡ aes key (xor_bytes (get_or (blocks text) i []) last)
    → take (16 * i) now ++ concat (cbc key last (drop i (blocks text))) ≡ total
    → take (16 * (i + 1)) (put_mid (16 * i) (16 * i + 16 - 16 * i) now new) ++ concat (cbc key next (drop (i + 1) (blocks text))) ≡ total
items_next key text now last next new total i lt len written long is items =
    let new_long : length new ≡ 16 = ap length written ∙ long in
    ap (λ x. x ++ concat (cbc key next (drop (i + 1) (blocks text))))
    (take-put_mid (16 * i) (16 * i + 16 - 16 * i) now new (16 * (i + 1)) (omega arith) (omega arith) ∙ ap (λ x. take (16 * i) now ++ x) written)
    ∙ cbc_more key last (blocks text) i (take (16 * i) now) next (omega (arith, length-blocks text)) is
    ∙ items

-- what is not written yet
pub rest_next : (text now new : List ℕ) (i : ℕ) → i < length text / 16 → length now ≡ length text → length new ≡ 16
    → drop (16 * i) now ≡ drop (16 * i) text
    → drop (16 * (i + 1)) (put_mid (16 * i) (16 * i + 16 - 16 * i) now new) ≡ drop (16 * (i + 1)) text
rest_next text now new i lt len long rest =
    drop-put_mid (16 * i) (16 * i + 16 - 16 * i) now new (16 * (i + 1)) (omega arith) (omega arith) (omega arith)
    ∙ rest_ahead text now i rest

-- the whole chain
pub chain_whole : (key text now last total : List ℕ) (i : ℕ) → length now ≤ 16 * i → length text / 16 ≤ i
    → take (16 * i) now ++ concat (cbc key last (drop i (blocks text))) ≡ total → now ≡ total
chain_whole key text now last total i past ends items =
    sym (take_all (16 * i) now past)
    ∙ sym (cbc_done key last (blocks text) i (take (16 * i) now) (omega (arith, length-blocks text)))
    ∙ items
