-- What opens, under equal keys and vectors.
use Rattle.std.proofs.Common.{◌≡◌, ℕ, List, Option, Some, None, subst, sym, Vec, Global}
use Rattle.std.specs.Prelude.{MatchOption}
use Rattle.aes_cbc.specs.Opening.{Seals}
use Rattle.hls_check.specs.Unpacking.{Packed, key_at, vector_at, bytes_at, IsOpen}
use Rattle.hls_check.specs.Texts.{IsTheText, OpensAlone}

-- under an equal key
pub Seals-same : (k l v p s : List ℕ) → k ≡ l → Seals k v p s → Seals l v p s
Seals-same k l v p s key seals = subst (λ x. Seals x v p s) key seals

-- of three lists that are equal to others
transported : (P : List ℕ → List ℕ → List ℕ → Type 0) (k l v w s t : List ℕ) → k ≡ l → v ≡ w → s ≡ t → P k v s → P l w t
transported P k l v w s t key vector bytes is =
    subst (λ x. P l w x) bytes (subst (λ x. P l x s) vector (subst (λ x. P x v s) key is))

-- what a segment opens to is what its entry does
pub entry-opened : (p : Packed) (i : ℕ) (k v s : List ℕ) (found : Option (Vec ℕ Global)) → k ≡ key_at p i → v ≡ vector_at p i → s ≡ bytes_at p i
    → MatchOption found ((text : List ℕ) → ¬ Seals k v text s) (λ text. IsTheText k v s text.items)
    → MatchOption found (¬ IsOpen p i) (λ text. OpensAlone p i text.items)
entry-opened p i k v s None key vector bytes none = λ there.
    none there.0 (transported (λ k v s. Seals k v there.0 s) (key_at p i) k (vector_at p i) v (bytes_at p i) s (sym key) (sym vector) (sym bytes) there.1)
entry-opened p i k v s (Some text) key vector bytes is =
    transported (λ k v s. IsTheText k v s text.items) k (key_at p i) v (vector_at p i) s (bytes_at p i) key vector bytes is
