-- The counts of a list of snapshots that grows.
use Rattle.std.proofs.Common.{◌≡◌, ℕ, List, [], ◌∷◌, ◌++◌, Some, refl, sym, ap, ◌∙◌, subst, fold}
use Rattle.live_board.specs.Snapshots.{SnapshotFacts}
use Rattle.live_board.specs.Counts.{last_of, counts_shown, NoneFalls, NeverFalls}

pub last_snoc : (xs : List SnapshotFacts) (s : SnapshotFacts) → last_of (xs ++ s ∷ []) ≡ Some s
last_snoc [] s = refl
last_snoc (x ∷ []) s = refl
last_snoc (x ∷ y ∷ ys) s = last_snoc (y ∷ ys) s

pub counts_last : (xs : List SnapshotFacts) (s : SnapshotFacts) → last_of xs ≡ Some s → counts_shown xs ≡ s.counts
counts_last [] s e = absurd cc
counts_last (x ∷ []) s e = let same : x ≡ s = cc e in ap (λ (z : SnapshotFacts). z.counts) same
counts_last (x ∷ y ∷ ys) s e = counts_last (y ∷ ys) s e

pub never_falls_snoc : (xs : List SnapshotFacts) (s t : SnapshotFacts) → last_of xs ≡ Some s → NoneFalls s.counts t.counts → NeverFalls xs → NeverFalls (xs ++ t ∷ [])
never_falls_snoc [] s t e up r = tt
never_falls_snoc (x ∷ []) s t e up r = let same : x ≡ s = cc e in (subst (λ (z : SnapshotFacts). NoneFalls z.counts t.counts) (sym same) up, tt)
never_falls_snoc (x ∷ y ∷ ys) s t e up r = (r.0, never_falls_snoc (y ∷ ys) s t e up r.1)

-- the last operation is what is left
pub fold_last : {A B : Type 0} (f : A → B) (s : B) (ops : List A) (op : A) → fold (λ _ o. f o) s (ops ++ op ∷ []) ≡ f op
fold_last f s [] op = refl
fold_last f s (x ∷ xs) op = fold_last f (f x) xs op

pub last_is : (xs list : List SnapshotFacts) (s : SnapshotFacts) → list ≡ xs ++ s ∷ [] → last_of list ≡ Some s
last_is xs list s e = ap last_of e ∙ last_snoc xs s

-- a snapshot whose counts don't fall below those shown may come next
pub may_follow : (list : List SnapshotFacts) (last t : SnapshotFacts) → last_of list ≡ Some last → NeverFalls list → NoneFalls (counts_shown list) t.counts → NeverFalls (list ++ t ∷ [])
may_follow list last t e r up = never_falls_snoc list last t e (subst (λ (cs : List ℕ). NoneFalls cs t.counts) (counts_last list last e) up) r
