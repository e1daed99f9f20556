-- Retentions that are about to begin were told nothing.
use Rattle.std.proofs.Common.{arith, ◌≡◌, sym, subst, ◌∙◌, ap, ◌<◌, ◌+◌, ℕ, List, [], ◌∷◌, ◌++◌, get_or, append-nil, inl, inr, ◌⊎◌}
use Rattle.std.proofs.lemmas.Bool.{cases_lt}
use Rattle.std.proofs.lemmas.List.{get_or_append_left, get_or_push, length-append}
use Rattle.ladder_items.specs.Ladder.{Ladder, RenditionValue, rendition_at}
use Rattle.keeping.specs.Keepings.{AreTold, IsTold, KeepingValue, keeping_at, no_keeping, steps_before}
use Rattle.removal.specs.Retaining.{AreKeptUpTo, kept_for}

one-untold : (ladder : Ladder) (rendition : RenditionValue) (older : List ℕ) → IsTold (kept_for ladder rendition older) []
one-untold ladder rendition older = record { told = []; all = sym (append-nil (steps_before (kept_for ladder rendition older).before)); are = tt }

pub untold : (ladder : Ladder) (older : List (List ℕ)) (kept : List KeepingValue) (count : ℕ) → AreKeptUpTo ladder older kept count → AreTold kept []
untold ladder older kept count k r within =
    subst (λ (one : KeepingValue). IsTold one []) (sym (k.each r (subst (λ (n : ℕ). r < n) k.count_is within)))
    (one-untold ladder (rendition_at ladder r) (get_or older r []))

below-or-at : (r count : ℕ) → r < count + 1 → (r < count) ⊎ (r ≡ count)
below-or-at r count within = elim (cases_lt r count) [ inl below ↦ inl below | inr past ↦ inr (omega (arith, within, past)) ]

-- one more
pub kept-more : (ladder : Ladder) (older : List (List ℕ)) (kept : List KeepingValue) (count : ℕ) (one : KeepingValue) → AreKeptUpTo ladder older kept count →
    one ≡ kept_for ladder (rendition_at ladder count) (get_or older count []) → AreKeptUpTo ladder older (kept ++ one ∷ []) (count + 1)
kept-more ladder older kept count one k is = record {
  count_is = length-append kept (one ∷ []) ∙ ap (λ (n : ℕ). n + 1) k.count_is;
  each = λ r within. elim (below-or-at r count within) [
    | inl below ↦ get_or_append_left kept (one ∷ []) no_keeping r (subst (λ (n : ℕ). r < n) (sym k.count_is) below) ∙ k.each r below
    | inr at ↦ subst (λ (n : ℕ). keeping_at (kept ++ one ∷ []) n ≡ kept_for ladder (rendition_at ladder n) (get_or older n [])) (sym at) (get_or_push kept one no_keeping count k.count_is ∙ is)
  ];
}
