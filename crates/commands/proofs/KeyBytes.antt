-- What a file of more bytes than a key file may have holds is no key.
use Rattle.std.proofs.Common.{◌≡◌, ◌∙◌, ℕ, ◌-◌, ◌/◌, ◌%◌, ◌<◌, ◌≤◌, ◌==◌, Bool, true, false, cond, List, [], ◌++◌, length, take, slice_index, None, refl, ap, sym, subst, arith, inl, inr, length-append}
use Rattle.std.proofs.lemmas.Bool.{cases_lt, eqb-false, ne_eqb}
use Rattle.std.proofs.lemmas.List.{length-take-le, append-nil}
use Rattle.commands.specs.Hex.{bytes_of_hex, without_end}
use Rattle.commands.specs.KeyFiles.{key_of_file}

odd-or-not : (text : List ℕ) (b : Bool) → (length text % 2 == 1) ≡ b → 33 ≤ length text → bytes_of_hex text ≡ None
odd-or-not text true odd long = rw odd refl
odd-or-not text false even long =
    let half : (length text / 2 == 16) ≡ false = ne_eqb (length text / 2) 16 (λ is. omega (arith, is, long, eqb-false (length text % 2) 1 even)) in
    rw (even, half) refl

no-digits : (text : List ℕ) → 33 ≤ length text → bytes_of_hex text ≡ None
no-digits text long = odd-or-not text (length text % 2 == 1) refl long

long-end : (bytes : List ℕ) → 34 ≤ length bytes → 33 ≤ length (without_end bytes)
long-end bytes long = elim (slice_index bytes (length bytes - 1) == 10) as (λ b. 33 ≤ length (cond b (take (length bytes - 1) bytes) bytes)) [
  | true ↦ omega (arith, long, length-take-le (length bytes - 1) bytes (omega arith))
  | false ↦ omega (arith, long)
]

no-key : (bytes : List ℕ) → 34 ≤ length bytes → key_of_file bytes ≡ None
no-key bytes long =
    let other : (length bytes == 16) ≡ false = ne_eqb (length bytes) 16 (λ is. omega (arith, is, long)) in
    rw other (no-digits (without_end bytes) (long-end bytes long))

-- the first 34 bytes tell whether all are a key
pub no-key-front : (bytes rest : List ℕ) → key_of_file bytes ≡ None → (length bytes < 34 → rest ≡ []) → key_of_file (bytes ++ rest) ≡ None
no-key-front bytes rest none whole = elim (cases_lt (length bytes) 34) [
  | inl few ↦ subst (λ all. key_of_file all ≡ None) (sym (ap (λ r. bytes ++ r) (whole few) ∙ append-nil bytes)) none
  | inr many ↦ no-key (bytes ++ rest) (omega (arith, many, length-append bytes rest))
]
