-- A text that begins as another, piece by piece.
use Rattle.std.proofs.Common.{◌≡◌, ◌≢◌, ℕ, ◌+◌, ◌<◌, ◌≤◌, List, [], ◌∷◌, ◌++◌, length, drop, get_or, sym, ap, ◌∙◌, append_assoc}
use Rattle.std.proofs.lemmas.List.{append_cancel_left, drop_all, drop_more}
use Rattle.hex.specs.Hex.{encode_upper, encode_with}

-- what is left of the text has to begin with what is left of the other
pub record IsFront (text whole rest left : List ℕ) : Type 0 where
  pub to : (x : List ℕ) → text ≡ whole ++ x → rest ≡ left ++ x
  pub from : (x : List ℕ) → rest ≡ left ++ x → text ≡ whole ++ x

-- at first
pub front-init : (text whole rest left : List ℕ) → rest ≡ text → left ≡ whole → IsFront text whole rest left
front-init text whole rest left same all = record {
  to = λ x is. same ∙ is ∙ ap (λ l. l ++ x) (sym all);
  from = λ x is. sym same ∙ is ∙ ap (λ l. l ++ x) all;
}

-- one piece later
pub front-more : (text whole rest left piece rest' left' : List ℕ) → IsFront text whole rest left → left ≡ piece ++ left' → rest ≡ piece ++ rest'
    → IsFront text whole rest' left'
front-more text whole rest left piece rest' left' front split is = record {
  to = λ x same.
      append_cancel_left piece rest' (left' ++ x) (sym is ∙ front.to x same ∙ ap (λ l. l ++ x) split ∙ append_assoc piece left' x);
  from = λ x same.
      front.from x (is ∙ ap (λ l. piece ++ l) same ∙ sym (append_assoc piece left' x) ∙ sym (ap (λ l. l ++ x) split));
}

-- a piece that doesn't stand there
pub front-none : (text whole rest left piece left' : List ℕ) → IsFront text whole rest left → left ≡ piece ++ left' → ((x : List ℕ) → rest ≢ piece ++ x)
    → (x : List ℕ) → text ≢ whole ++ x
front-none text whole rest left piece left' front split none x same =
    none (left' ++ x) (front.to x same ∙ ap (λ l. l ++ x) split ∙ append_assoc piece left' x)

-- no piece is left
pub front-whole : (text whole rest left : List ℕ) → IsFront text whole rest left → left ≡ [] → text ≡ whole ++ rest
front-whole text whole rest left front none = front.from rest (sym (ap (λ l. l ++ rest) none))

-- the digits of bytes from one of them on
pub digits-from : (bytes : List ℕ) (i : ℕ) → i < length bytes → encode_upper (drop i bytes) ≡ encode_upper (get_or bytes i 0 ∷ []) ++ encode_upper (drop (i + 1) bytes)
unfolding encode_with
digits-from bytes i within = ap encode_upper (drop_more bytes i 0 within)

-- and those of none
pub digits-none : (bytes : List ℕ) (i : ℕ) → length bytes ≤ i → encode_upper (drop i bytes) ≡ []
unfolding encode_with
digits-none bytes i past = ap encode_upper (drop_all i bytes past)
