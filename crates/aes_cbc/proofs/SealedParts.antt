-- A sealed text in parts, of which each goes on from the last block of the one before.
use Rattle.std.proofs.Common.{◌≡◌, ℕ, ◌%◌, ◌≤◌, List, ◌++◌, length, take, drop, sym, ap, ap₂, ◌∙◌, arith, append_assoc, length-append, length-drop}
use Rattle.std.proofs.lemmas.List.{take-append-le, drop-append-le}
use Rattle.std.proofs.lemmas.List.Folds.{concat-append}
use Rattle.std.specs.List.{concat}
use Rattle.aes_cbc.specs.Padding.{padding, padded_text}
use Rattle.aes_cbc.specs.Chain.{cbc, blocks, sealed_text}
use Rattle.aes_cbc.specs.Opening.{last_block}
use Rattle.aes_cbc.proofs.ChainSplit.{cbc-append, blocks-append}
use Rattle.aes_cbc.proofs.PaddingFacts.{padding-mod}

-- padding goes behind the last part
padded-append : (y next : List ℕ) → length y % 16 ≡ 0 → padded_text (y ++ next) ≡ y ++ padded_text next
unfolding padded_text
padded-append y next whole =
    let same : length (y ++ next) % 16 ≡ length next % 16 = omega (arith, length-append y next) in
    append_assoc y next (padding (length (y ++ next))) ∙ ap (λ p. y ++ (next ++ p)) (padding-mod (length (y ++ next)) (length next) same)

-- whole blocks, and what comes behind them
pub sealed-append : (k v y next : List ℕ) → length y % 16 ≡ 0
    → sealed_text k v (y ++ next) ≡ concat (cbc k v (blocks y)) ++ sealed_text k (last_block v (cbc k v (blocks y))) next
unfolding sealed_text
sealed-append k v y next whole =
    ap (λ m. concat (cbc k v (blocks m))) (padded-append y next whole)
    ∙ ap (λ bs. concat (cbc k v bs)) (blocks-append y (padded_text next) whole)
    ∙ ap concat (cbc-append k v (blocks y) (blocks (padded_text next)))
    ∙ concat-append (cbc k v (blocks y)) (cbc k (last_block v (cbc k v (blocks y))) (blocks (padded_text next)))

-- a piece was appended encrypted: the same text is made of what is left
pub piece_sealed : (k v text piece next rest t1 w : List ℕ) → length piece % 16 ≡ 0 → rest ≡ piece ++ next
    → t1 ≡ text ++ concat (cbc k v (blocks piece)) → w ≡ last_block v (cbc k v (blocks piece))
    → t1 ++ sealed_text k w next ≡ text ++ sealed_text k v rest
piece_sealed k v text piece next rest t1 w whole parts appended last =
    ap₂ (λ a u. a ++ sealed_text k u next) appended last
    ∙ append_assoc text (concat (cbc k v (blocks piece))) (sealed_text k (last_block v (cbc k v (blocks piece))) next)
    ∙ ap (λ x. text ++ x) (sym (sealed-append k v piece next whole) ∙ ap (sealed_text k v) (sym parts))

-- a text was brought to whole blocks and encrypted: the same text is made of what is left
pub head_sealed : (k v text piece next rest t1 t2 w : List ℕ) → length t1 % 16 ≡ 0 → rest ≡ piece ++ next
    → t1 ≡ text ++ piece → t2 ≡ concat (cbc k v (blocks t1)) → w ≡ last_block v (cbc k v (blocks t1))
    → t2 ++ sealed_text k w next ≡ sealed_text k v (text ++ rest)
head_sealed k v text piece next rest t1 t2 w whole parts appended encrypted last =
    ap₂ (λ a u. a ++ sealed_text k u next) encrypted last
    ∙ sym (sealed-append k v t1 next whole)
    ∙ ap (λ x. sealed_text k v (x ++ next)) appended
    ∙ ap (sealed_text k v) (append_assoc text piece next ∙ ap (λ x. text ++ x) (sym parts))

-- the rest was appended, padded and encrypted
pub end_sealed : (k v text rest t1 t2 : List ℕ) (done : ℕ) → done % 16 ≡ 0 → done ≤ length text
    → t1 ≡ padded_text (text ++ rest) → t2 ≡ take done t1 ++ concat (cbc k v (blocks (drop done t1)))
    → t2 ≡ take done text ++ sealed_text k v (drop done text ++ rest)
unfolding sealed_text padded_text
end_sealed k v text rest t1 t2 done whole inside padded encrypted =
    let pads = padding (length (text ++ rest)) in
    let flat : t1 ≡ text ++ (rest ++ pads) = padded ∙ append_assoc text rest pads in
    let same : length (text ++ rest) % 16 ≡ length (drop done text ++ rest) % 16
    = omega (arith, length-append text rest, length-append (drop done text) rest, length-drop done text) in
    let front : take done t1 ≡ take done text = ap (take done) flat ∙ take-append-le done text (rest ++ pads) inside in
    let back : drop done t1 ≡ padded_text (drop done text ++ rest)
    = ap (drop done) flat ∙ drop-append-le done text (rest ++ pads) inside
    ∙ sym (append_assoc (drop done text) rest pads)
    ∙ ap (λ p. (drop done text ++ rest) ++ p) (padding-mod (length (text ++ rest)) (length (drop done text ++ rest)) same) in
    encrypted ∙ ap₂ (λ a y. a ++ concat (cbc k v (blocks y))) front back
