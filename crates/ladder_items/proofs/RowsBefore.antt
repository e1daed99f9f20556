-- Rows of earlier runs, looked at and pushed one by one.
use Rattle.std.proofs.Common.{◌≡◌, ◌∙◌, inl, inr, ℕ, ◌+◌, ◌<◌, ◌≤◌, List, [], ◌++◌, length, take, Some, slice_get, ap, sym, subst, arith, append_assoc, length-take-le}
use Rattle.std.proofs.lemmas.Bool.{cases_lt}
use Rattle.std.proofs.lemmas.Option.{same_Some}
use Rattle.media_playlist.specs.Rows.{SegmentRow}
use Rattle.ladder_items.specs.Shown.{Shown, known, AreNextRows, IsNextRow}

-- those before a place may come next
abbrev pub AreNextUpTo : ℕ → ℕ → List SegmentRow → ℕ → Type 0
AreNextUpTo target first rows i = (k : ℕ) (row : SegmentRow) → k < i → slice_get rows k ≡ Some row → IsNextRow target (first + k) row

pub one-more : (target first : ℕ) (rows : List SegmentRow) (i : ℕ) (x : SegmentRow) → AreNextUpTo target first rows i → slice_get rows i ≡ Some x → IsNextRow target (first + i) x
    → AreNextUpTo target first rows (i + 1)
one-more target first rows i x all here next k row below at = elim (cases_lt k i) as (λ _. IsNextRow target (first + k) row) [
  | inl before ↦ all k row before at
  | inr behind ↦
      let same : i ≡ k = omega (arith, below, behind) in
      let one : x ≡ row = same_Some x row (sym here ∙ (ap (slice_get rows) same ∙ at)) in
      subst (λ (y : SegmentRow). IsNextRow target (first + k) y) one (subst (λ (n : ℕ). IsNextRow target (first + n) x) same next)
]

-- behind some of the rows, the next one may come
pub next-of : (rows : List SegmentRow) (i : ℕ) (row copy : SegmentRow) (old now : Shown)
    → known old ≡ [] → now ≡ record old { rows = old.rows ++ take i rows } → i ≤ length rows → AreNextRows old.target old.gone.rows rows
    → slice_get rows i ≡ Some row → copy ≡ row → IsNextRow now.target (now.gone.rows + length (known now)) copy
next-of rows i row copy old now none is up follow at same =
    let long : length (known (record old { rows = old.rows ++ take i rows })) ≡ i =
    ap length (sym (append_assoc old.earlier old.rows (take i rows)) ∙ ap (λ (l : List SegmentRow). l ++ take i rows) none) ∙ length-take-le i rows up in
    rw (is, same, long) (follow i row at)
