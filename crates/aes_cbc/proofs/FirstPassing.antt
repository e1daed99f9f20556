-- A search for the one number that passes a test.
use Rattle.std.proofs.Common.{◌≡◌, ℕ, zero, suc, ◌+◌, ◌<◌, ◌≤◌, Bool, true, false, refl, arith, sym, ap, ◌∙◌, cond}
use Rattle.std.proofs.lemmas.Bool.{false≢true}
use Rattle.aes_cbc.specs.Field.{first_passing}

-- a search by a test that passes at its first number, or not
pick : (p : ℕ → Bool) (n k b : ℕ) (at : Bool) → p n ≡ at → (at ≡ true → n ≡ b) → (at ≡ false → first_passing p (n + 1) k ≡ b)
    → cond at n (first_passing p (n + 1) k) ≡ b
pick p n k b true e here later = here refl
pick p n k b false e here later = later refl

-- a search finds the one number that passes
pub only_passing : (p : ℕ → Bool) (n k b : ℕ) → n ≤ b → b < n + k → p b ≡ true → ((j : ℕ) → j < n + k → p j ≡ true → j ≡ b)
    → first_passing p n k ≡ b
unfolding first_passing
only_passing p n zero b low high passes only = absurd (omega arith)
only_passing p n (suc k) b low high passes only =
    pick p n k b (p n) refl
    (λ e. only n (omega arith) e)
    (λ e.
    let other : n ≡ b → ⊥ = λ same. false≢true (sym e ∙ ap p same ∙ passes) in
    only_passing p (n + 1) k b (omega arith) (omega arith) passes (λ j lt. only j (omega arith)))
