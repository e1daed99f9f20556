-- Texts that are sealed with a body behind them.
use Rattle.std.specs.Prelude.{◌≡◌, ◌≤◌, ◌+◌, ◌*◌, ◌/◌, ◌++◌, ℕ, List, length, vec_len, vec_capacity}
use Rattle.aes_cbc.specs.Chain.{sealed_text}
use Rattle.segment_job.specs.declared.text.Text.{Text}

-- where the text lies there is room for the body and the padding too
abbrev pub HasRoom : Text → List ℕ → Type 0
HasRoom text body = 16 * ((vec_len text.bytes + length body) / 16 + 1) ≤ vec_capacity text.bytes

-- the text and the body behind it were sealed under the text's own key and vector, which stay
pub record IsSealedText (text : Text) (body : List ℕ) (sealed : Text) : Type 0 where
  pub key : sealed.key ≡ text.key
  pub vector : sealed.vector ≡ text.vector
  pub bytes : sealed.bytes.items ≡ sealed_text text.key text.vector (text.bytes.items ++ body)
