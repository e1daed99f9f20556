-- Renditions one after another.
use Rattle.std.proofs.Common.{arith, ◌≡◌, ◌∙◌, sym, ap, subst, ℕ, ◌+◌, ◌<◌, List, [], ◌∷◌, ◌++◌, length, get_or, Option, Some, inl, inr}
use Rattle.std.specs.Prelude.{slice_get}
use Rattle.std.proofs.lemmas.Bool.{cases_lt}
use Rattle.std.proofs.lemmas.List.{get_or_append_left, get_or_push}
use Rattle.std.proofs.lemmas.Option.{get_or_from_slice_get, same_Some, slice_get-get_or}
use Rattle.resume.specs.Restoring.{RestoredValue}
use Rattle.channel_folder.specs.declared.asked.Asked.{Asked}
use Rattle.channel_folder.specs.Scans.{ScanValue, numbers_at}
use Rattle.channel_folder.specs.Reopened.{StandTo, Stands}

-- one rendition more
pub stand-more : (Gives : List ℕ → List ℕ → Type 0) (Lacks : List ℕ → Type 0) (scan : ScanValue) (asked : List Asked) (found : List (Option RestoredValue)) (r : ℕ) (a : Asked) (one : Option RestoredValue) →
    StandTo Gives Lacks scan asked found r → length found ≡ r → slice_get asked r ≡ Some a → Stands Gives Lacks (numbers_at scan r) a one → StandTo Gives Lacks scan asked (found ++ one ∷ []) (r + 1)
stand-more Gives Lacks scan asked found r a one stands len at this k b x lower b_is x_is =
    let x_at : get_or (found ++ one ∷ []) k x ≡ x = get_or_from_slice_get (found ++ one ∷ []) k x x x_is in
    elim (cases_lt k r) [
      | inl below ↦
          let within : k < length found = omega (arith, below, len) in
          stands k b x below b_is (slice_get-get_or found k x within ∙ ap (λ (o : Option RestoredValue). Some o) (sym (get_or_append_left found (one ∷ []) x k within) ∙ x_at))
      | inr past ↦
          let here : k ≡ r = omega (arith, lower, past) in
          let last : one ≡ x = sym (get_or_push found one x k (len ∙ sym here)) ∙ x_at in
          let same : a ≡ b = same_Some a b (sym at ∙ subst (λ (n : ℕ). slice_get asked n ≡ Some b) here b_is) in
          subst (λ (n : ℕ). Stands Gives Lacks (numbers_at scan n) b x) (sym here)
          (subst (λ (y : Asked). Stands Gives Lacks (numbers_at scan r) y x) same
          (subst (λ (y : Option RestoredValue). Stands Gives Lacks (numbers_at scan r) a y) last this))
    ]
