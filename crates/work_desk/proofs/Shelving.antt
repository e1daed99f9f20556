-- The best of some buffers.
use Rattle.std.proofs.Common.{inl, inr, ℕ, ◌+◌, ◌<◌, ◌≤◌, List, sym, subst, arith}
use Rattle.std.specs.Prelude.{slice_index_or}
use Rattle.std.proofs.lemmas.Bool.{cases_eq}
use Rattle.work_desk.specs.Shelves.{misfit}

-- none of the first so many fits less badly, and one more doesn't
pub best-of-more : (bytes : ℕ) (rooms : List ℕ) (best i : ℕ) → ((k : ℕ) → k < i → misfit bytes (slice_index_or rooms best 0) ≤ misfit bytes (slice_index_or rooms k 0))
    → misfit bytes (slice_index_or rooms best 0) ≤ misfit bytes (slice_index_or rooms i 0)
    → (k : ℕ) → k < i + 1 → misfit bytes (slice_index_or rooms best 0) ≤ misfit bytes (slice_index_or rooms k 0)
best-of-more bytes rooms best i before last k below =
    elim (cases_eq k i) [
      | inl same ↦ subst (λ (n : ℕ). misfit bytes (slice_index_or rooms best 0) ≤ misfit bytes (slice_index_or rooms n 0)) (sym same) last
      | inr other ↦ before k (omega (arith, below, other))
    ]

-- the last of them fits less badly than the best before
pub best-is-last : (bytes : ℕ) (rooms : List ℕ) (best i : ℕ) → ((k : ℕ) → k < i → misfit bytes (slice_index_or rooms best 0) ≤ misfit bytes (slice_index_or rooms k 0))
    → misfit bytes (slice_index_or rooms i 0) < misfit bytes (slice_index_or rooms best 0)
    → (k : ℕ) → k < i + 1 → misfit bytes (slice_index_or rooms i 0) ≤ misfit bytes (slice_index_or rooms k 0)
best-is-last bytes rooms best i before less =
    best-of-more bytes rooms i i (λ k below. let was = before k below in omega (arith, was, less)) (omega arith)
