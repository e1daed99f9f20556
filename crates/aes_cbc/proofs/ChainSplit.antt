-- A chain over a text in two parts.
use Rattle.std.proofs.Common.{◌≡◌, ℕ, zero, suc, ◌+◌, ◌*◌, ◌/◌, ◌%◌, List, [], ◌∷◌, ◌++◌, length, take, drop, refl, sym, ap, ap₂, ◌∙◌, arith, length-append, length-drop, append_assoc}
use Rattle.std.proofs.lemmas.List.{take_all, take-append-le, drop-append-le, drop_at}
use Rattle.std.proofs.lemmas.List.Folds.{concat-append}
use Rattle.std.specs.List.{concat}
use Rattle.std.specs.Simd.{first_chunks}
use Rattle.aes_cbc.specs.Block.{xor_bytes}
use Rattle.aes_cbc.specs.Cipher.{aes}
use Rattle.aes_cbc.specs.Chain.{cbc, blocks}
use Rattle.aes_cbc.specs.Opening.{last_block}
use Rattle.aes_cbc.proofs.Lengths.{length-aes, length-concat-cbc}

pub cbc-append : (k v : List ℕ) (xs ys : List (List ℕ)) → cbc k v (xs ++ ys) ≡ cbc k v xs ++ cbc k (last_block v (cbc k v xs)) ys
unfolding cbc
cbc-append k v [] ys = refl
cbc-append k v (b ∷ xs) ys = ap (λ r. aes k (xor_bytes b v) ∷ r) (cbc-append k (aes k (xor_bytes b v)) xs ys)

chunks-append : (n j t : ℕ) (x y : List ℕ) → t ≡ j + n → length x ≡ 16 * n → first_chunks 16 t (x ++ y) ≡ first_chunks 16 n x ++ first_chunks 16 j y
chunks-append zero j t [] y e h = let same : t ≡ j = omega arith in ap (λ m. first_chunks 16 m y) same
chunks-append zero j t (a ∷ x) y e h = absurd (omega arith)
chunks-append (suc n) j zero x y e h = absurd (omega arith)
chunks-append (suc n) j (suc t) x y e h =
    ap₂ (λ c r. c ∷ r) (take-append-le 16 x y (omega arith))
    (ap (first_chunks 16 t) (drop-append-le 16 x y (omega arith)) ∙ chunks-append n j t (drop 16 x) y (omega arith) (omega (arith, length-drop 16 x)))

pub blocks-append : (x y : List ℕ) → length x % 16 ≡ 0 → blocks (x ++ y) ≡ blocks x ++ blocks y
blocks-append x y whole =
    let count : length (x ++ y) / 16 ≡ length y / 16 + length x / 16 = omega (arith, length-append x y) in
    chunks-append (length x / 16) (length y / 16) (length (x ++ y) / 16) x y count (omega arith)

chunks_of_chain : (k v : List ℕ) (bs : List (List ℕ)) → length k ≡ 16 → first_chunks 16 (length bs) (concat (cbc k v bs)) ≡ cbc k v bs
unfolding cbc
chunks_of_chain k v [] h = refl
chunks_of_chain k v (b ∷ bs) h =
    let c = aes k (xor_bytes b v) in
    let more = concat (cbc k c bs) in
    let long : length c ≡ 16 = length-aes k (xor_bytes b v) h in
    let front : take 16 (c ++ more) ≡ c = take-append-le 16 c more (omega arith) ∙ take_all 16 c (omega arith) in
    ap₂ (λ x y. x ∷ first_chunks 16 (length bs) y) front (drop_at c more 16 long)
    ∙ ap (λ x. c ∷ x) (chunks_of_chain k c bs h)

-- the blocks of a chain's text are its cipher blocks
pub blocks_of_chain : (k v x : List ℕ) → length k ≡ 16 → blocks (concat (cbc k v (blocks x))) ≡ cbc k v (blocks x)
blocks_of_chain k v x h =
    let count : length (concat (cbc k v (blocks x))) / 16 ≡ length (blocks x) = omega (arith, length-concat-cbc k v (blocks x) h) in
    ap (λ n. first_chunks 16 n (concat (cbc k v (blocks x)))) count ∙ chunks_of_chain k v (blocks x) h

-- a text in two parts, of which the second goes on from the last block of the first
pub chain_in_parts : (k v text x y a b : List ℕ) → length k ≡ 16 → length x % 16 ≡ 0 → text ≡ x ++ y
    → a ≡ concat (cbc k v (blocks x)) → b ≡ concat (cbc k (last_block v (blocks a)) (blocks y))
    → a ++ b ≡ concat (cbc k v (blocks text))
chain_in_parts k v text x y a b long whole parts of_a of_b =
    let last = ap blocks of_a ∙ blocks_of_chain k v x long in
    ap₂ (λ p q. p ++ q) of_a (of_b ∙ ap (λ bs. concat (cbc k (last_block v bs) (blocks y))) last)
    ∙ sym (concat-append (cbc k v (blocks x)) (cbc k (last_block v (cbc k v (blocks x))) (blocks y)))
    ∙ ap concat (sym (cbc-append k v (blocks x) (blocks y)) ∙ ap (cbc k v) (sym (blocks-append x y whole) ∙ ap blocks (sym parts)))

last_block-append : (v : List ℕ) (xs ys : List (List ℕ)) → last_block v (xs ++ ys) ≡ last_block (last_block v xs) ys
last_block-append v [] ys = refl
last_block-append v (x ∷ xs) ys = last_block-append x xs ys

-- the chain over a text in two parts, of which the first is whole blocks
parts_chained : (k v x y rest w : List ℕ) → length x % 16 ≡ 0 → rest ≡ x ++ y → w ≡ last_block v (cbc k v (blocks x))
    → cbc k v (blocks rest) ≡ cbc k v (blocks x) ++ cbc k w (blocks y)
parts_chained k v x y rest w whole parts last =
    ap (λ m. cbc k v (blocks m)) parts
    ∙ ap (cbc k v) (blocks-append x y whole)
    ∙ cbc-append k v (blocks x) (blocks y)
    ∙ ap (λ u. cbc k v (blocks x) ++ cbc k u (blocks y)) (sym last)

-- a piece was appended encrypted: the same bytes come with what is left
pub piece_chained : (k v text piece next rest t1 w : List ℕ) → length piece % 16 ≡ 0 → rest ≡ piece ++ next
    → t1 ≡ text ++ concat (cbc k v (blocks piece)) → w ≡ last_block v (cbc k v (blocks piece))
    → t1 ++ concat (cbc k w (blocks next)) ≡ text ++ concat (cbc k v (blocks rest))
piece_chained k v text piece next rest t1 w whole parts appended last =
    ap (λ a. a ++ concat (cbc k w (blocks next))) appended
    ∙ append_assoc text (concat (cbc k v (blocks piece))) (concat (cbc k w (blocks next)))
    ∙ ap (λ x. text ++ x)
    (sym (ap concat (parts_chained k v piece next rest w whole parts last) ∙ concat-append (cbc k v (blocks piece)) (cbc k w (blocks next))))

-- and the same last block
pub piece_ends : (k v piece next rest w : List ℕ) → length piece % 16 ≡ 0 → rest ≡ piece ++ next → w ≡ last_block v (cbc k v (blocks piece))
    → last_block w (cbc k w (blocks next)) ≡ last_block v (cbc k v (blocks rest))
piece_ends k v piece next rest w whole parts last =
    sym (ap (last_block v) (parts_chained k v piece next rest w whole parts last)
    ∙ last_block-append v (cbc k v (blocks piece)) (cbc k w (blocks next))
    ∙ ap (λ u. last_block u (cbc k w (blocks next))) (sym last))

-- nothing is left
pub none_chained : (k v rest : List ℕ) → length rest ≡ 0 → cbc k v (blocks rest) ≡ []
unfolding cbc
none_chained k v [] none = refl
none_chained k v (b ∷ rest) none = absurd (omega arith)
