-- Sums over bytes that agree at the halves of bytes agree at each byte.
use Rattle.std.proofs.Common.{◌≡◌, ℕ, ◌*◌, ◌/◌, ◌%◌, ◌<◌, ◌&&◌, ◌==◌, Bool, true, refl, arith, bit_xor, sym, ap, ◌∙◌}
use Rattle.std.proofs.lemmas.Bool.{eqb-true}
use Rattle.aes_cbc.proofs.EachByte.{passes_below, passes_below-at, same_below, both-first, both-second}

-- a byte is the sum of its halves
halves_test : passes_below (λ b. bit_xor (16 * (b / 16)) (b % 16) == b) 256 ≡ true
unfolding passes_below
halves_test = refl

sum_of_halves : (b : ℕ) → b < 256 → bit_xor (16 * (b / 16)) (b % 16) ≡ b
sum_of_halves b lt = same_below (λ b. bit_xor (16 * (b / 16)) (b % 16)) (λ b. b) 256 halves_test b lt

-- a function that takes the sum of two bytes to the sum of what it takes them to
abbrev pub TakesSums : (ℕ → ℕ) → Type 0
TakesSums f = (x y : ℕ) → x < 256 → y < 256 → f (bit_xor x y) ≡ bit_xor (f x) (f y)

-- two functions agree at n, as a lower and as an upper half
abbrev pub agree_at : (ℕ → ℕ) → (ℕ → ℕ) → ℕ → Bool
agree_at f g n = f n == g n && f (16 * n) == g (16 * n)

-- two such functions that agree at each half of a byte agree at each byte
pub agree_by_halves : (f g : ℕ → ℕ) → TakesSums f → TakesSums g → passes_below (agree_at f g) 16 ≡ true → (b : ℕ) → b < 256 → f b ≡ g b
agree_by_halves f g hf hg h b lt =
    let low : b % 16 < 16 = omega arith in
    let high : b / 16 < 16 = omega arith in
    let upper : 16 * (b / 16) < 256 = omega arith in
    let lower : b % 16 < 256 = omega arith in
    let here : f (16 * (b / 16)) ≡ g (16 * (b / 16)) = eqb-true _ _ (both-second _ _ (passes_below-at (agree_at f g) 16 h (b / 16) high)) in
    let there : f (b % 16) ≡ g (b % 16) = eqb-true _ _ (both-first _ _ (passes_below-at (agree_at f g) 16 h (b % 16) low)) in
    ap f (sym (sum_of_halves b lt)) ∙ hf (16 * (b / 16)) (b % 16) upper lower
    ∙ ap (λ x. bit_xor x (f (b % 16))) here ∙ ap (bit_xor (g (16 * (b / 16)))) there
    ∙ sym (hg (16 * (b / 16)) (b % 16) upper lower) ∙ ap g (sum_of_halves b lt)
