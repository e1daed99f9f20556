-- What a kill leaves of a folder from which old files are taken away.
use Rattle.std.specs.Prelude.{if◌then◌else◌, not}
use Rattle.std.specs.Str.{bytes_eq}
use Rattle.std.proofs.lemmas.Slice.Eq.{bytes_eq-Decides}
use Rattle.std.proofs.Common.{◌≡◌, ℕ, Bool, true, false, Option, Some, None, List, [], ◌∷◌, ◌++◌, refl, sym, ap, ◌∙◌, subst, inl, inr, ◌⊎◌}
use Rattle.folder.specs.Moves.{Files, Looked, Move, Remove, Rename, Same, Sync, Write, is_hidden, moved, with_file}
use Rattle.folder.specs.Kills.{CutOff, KillMayLeave}
use Rattle.folder.specs.Pruning.{AreAt, AreFromHidden, IsPrunedAt, SameBut, WasPruned, is_pruning, other_moves, unless_pruning}

-- the same change of both
pub SameBut-with_file : (Gone : List ℕ → Type 0) (a b : Files) (name : List ℕ) (bytes : Option (List ℕ)) → SameBut Gone a b → SameBut Gone (with_file a name bytes) (with_file b name bytes)
SameBut-with_file Gone a b name bytes but other =
    elim (bytes_eq name other) as (λ t. ((if t then bytes else a other) ≡ (if t then bytes else b other)) ⊎ (Gone other × ((if t then bytes else a other) ≡ None))) [ true ↦ inl refl | false ↦ but other ]

-- one of them is changed too, that nobody knew otherwise
pub SameBut-Same : (Gone : List ℕ → Type 0) (left a b : Files) → Same left a → SameBut Gone a b → SameBut Gone left b
SameBut-Same Gone left a b same but name =
    elim (but name) [ inl is ↦ inl (same name ∙ is) | inr (gone, none) ↦ inr (gone, same name ∙ none) ]

-- more are missing
pub SameBut-more : (Gone More : List ℕ → Type 0) (a b : Files) → ((name : List ℕ) → Gone name → More name) → SameBut Gone a b → SameBut More a b
SameBut-more Gone More a b more but name = elim (but name) [ inl is ↦ inl is | inr (gone, none) ↦ inr (more name gone, none) ]

-- one is taken away
pub SameBut-pruned : (Gone : List ℕ → Type 0) (a b : Files) (name : List ℕ) → SameBut Gone a b → SameBut (λ other. Gone other ⊎ (name ≡ other)) (with_file a name None) b
SameBut-pruned Gone a b name but other =
    elim (bytes_eq name other) as (λ t. bytes_eq name other ≡ t → ((if t then None else a other) ≡ b other) ⊎ ((Gone other ⊎ (name ≡ other)) × ((if t then None else a other) ≡ None))) [
      | true ↦ λ same. inr (inr ((bytes_eq-Decides name other).0 same), refl)
      | false ↦ λ _. elim (but other) [ inl is ↦ inl is | inr (gone, none) ↦ inr (inl gone, none) ]
    ] refl

-- a file that is hidden is the same
pub same-hidden : (Gone : List ℕ → Type 0) (a b : Files) (name : List ℕ) → SameBut Gone a b → ((other : List ℕ) → Gone other → is_hidden other ≡ false) → is_hidden name ≡ true → a name ≡ b name
same-hidden Gone a b name but shown hidden =
    elim (but name) [ inl is ↦ is | inr (gone, none) ↦ absurd (cc (shown name gone, hidden)) ]

pub SameBut-renamed : (Gone : List ℕ → Type 0) (a b : Files) (old new : List ℕ) → SameBut Gone a b → a old ≡ b old → SameBut Gone (moved a (Rename old new)) (moved b (Rename old new))
SameBut-renamed Gone a b old new but same =
    subst (λ (bytes : Option (List ℕ)). SameBut Gone (moved a (Rename old new)) (with_file (with_file b old None) new bytes)) same
    (SameBut-with_file Gone (with_file a old None) (with_file b old None) new (a old) (SameBut-with_file Gone a b old None but))

-- what is left, of files of which some may be missing already
record IsPruned (Gone : List ℕ → Type 0) (b : Files) (moves : List Move) (left : Files) : Type 0 where
  pub front : List Move
  pub rest : List Move
  pub all : moves ≡ front ++ rest
  pub whole : Files
  pub at : AreAt b (other_moves front) (other_moves rest) whole
  pub but : SameBut (λ name. Gone name ⊎ WasPruned front name) left whole

at-once : (b : Files) (moves : List Move) → AreAt b [] moves b
at-once b [] = λ name. refl
at-once b (m ∷ moves) = inl (λ name. refl)

-- nothing was done
none-done : (Gone : List ℕ → Type 0) (a b : Files) (moves : List Move) (left : Files) → SameBut Gone a b → Same left a → IsPruned Gone b moves left
none-done Gone a b moves left but same = record {
  front = [];
  rest = moves;
  all = refl;
  whole = b;
  at = at-once b (other_moves moves);
  but = SameBut-more Gone (λ name. Gone name ⊎ WasPruned [] name) left b (λ name gone. inl gone) (SameBut-Same Gone left a b same but);
}

-- a write was cut off
write-cut : (Gone : List ℕ → Type 0) (a b : Files) (name bytes : List ℕ) (moves : List Move) (left : Files) → SameBut Gone a b → CutOff a (Write name bytes) left →
    IsPruned Gone b (Write name bytes ∷ moves) left
write-cut Gone a b name bytes moves left but (inl (front, rest, parts, same)) = record {
  front = [];
  rest = Write name bytes ∷ moves;
  all = refl;
  whole = with_file b name (Some front);
  at = inr (inl (front, rest, parts, λ other. refl));
  but = SameBut-more Gone (λ other. Gone other ⊎ WasPruned [] other) left (with_file b name (Some front)) (λ other gone. inl gone)
      (SameBut-Same Gone left (with_file a name (Some front)) (with_file b name (Some front)) same (SameBut-with_file Gone a b name (Some front) but));
}
write-cut Gone a b name bytes moves left but (inr same) = record {
  front = [];
  rest = Write name bytes ∷ moves;
  all = refl;
  whole = with_file b name None;
  at = inr (inr (λ other. refl));
  but = SameBut-more Gone (λ other. Gone other ⊎ WasPruned [] other) left (with_file b name None) (λ other gone. inl gone)
      (SameBut-Same Gone left (with_file a name None) (with_file b name None) same (SameBut-with_file Gone a b name None but));
}

at-behind : (b : Files) (m : Move) (front rest : List Move) (whole : Files) → AreAt (moved b m) front rest whole → AreAt b (m ∷ front) rest whole
at-behind b m front [] whole at = at
at-behind b m front (n ∷ rest) whole at = at

-- behind a move that both know
behind-other : (Gone : List ℕ → Type 0) (b : Files) (m : Move) (moves : List Move) (left : Files) → is_pruning m ≡ false → ((name : List ℕ) (rest : List Move) → WasPruned rest name → WasPruned (m ∷ rest) name) →
    IsPruned Gone (moved b m) moves left → IsPruned Gone b (m ∷ moves) left
behind-other Gone b m moves left other counts p = record {
  front = m ∷ p.front;
  rest = p.rest;
  all = ap (λ (l : List Move). m ∷ l) p.all;
  whole = p.whole;
  at = subst (λ (t : Bool). AreAt b (unless_pruning t m (other_moves p.front)) (other_moves p.rest) p.whole) (sym other) (at-behind b m (other_moves p.front) (other_moves p.rest) p.whole p.at);
  but = SameBut-more (λ name. Gone name ⊎ WasPruned p.front name) (λ name. Gone name ⊎ WasPruned (m ∷ p.front) name) left p.whole
      (λ name gone. elim gone [ inl before ↦ inl before | inr now ↦ inr (counts name p.front now) ]) p.but;
}

-- behind one that takes a file away
behind-pruning : (Gone : List ℕ → Type 0) (b : Files) (name : List ℕ) (moves : List Move) (left : Files) → is_hidden name ≡ false →
    IsPruned (λ other. Gone other ⊎ (name ≡ other)) b moves left → IsPruned Gone b (Remove name ∷ moves) left
behind-pruning Gone b name moves left shown p = record {
  front = Remove name ∷ p.front;
  rest = p.rest;
  all = ap (λ (l : List Move). Remove name ∷ l) p.all;
  whole = p.whole;
  at = subst (λ (t : Bool). AreAt b (unless_pruning (not t) (Remove name) (other_moves p.front)) (other_moves p.rest) p.whole) (sym shown) p.at;
  but = SameBut-more (λ other. (Gone other ⊎ (name ≡ other)) ⊎ WasPruned p.front other) (λ other. Gone other ⊎ WasPruned (Remove name ∷ p.front) other) left p.whole
      (λ other gone. elim gone [
        | inl (inl before) ↦ inl before
        | inl (inr is) ↦ inr (inl (is, shown))
        | inr now ↦ inr (inr now)
      ]) p.but;
}

abbrev Claim : List Move → Type 1
Claim moves = (Gone : List ℕ → Type 0) (a b : Files) → ((name : List ℕ) → Gone name → is_hidden name ≡ false) → SameBut Gone a b → AreFromHidden moves → (left : Files) → KillMayLeave a moves left → IsPruned Gone b moves left

-- a file is removed, hidden or not
removed-behind : (name : List ℕ) (moves : List Move) (hidden : Bool) → is_hidden name ≡ hidden → Claim moves → Claim (Remove name ∷ moves)
removed-behind name moves hidden is later Gone a b shown but from left (inl same) = none-done Gone a b (Remove name ∷ moves) left but same
removed-behind name moves hidden is later Gone a b shown but from left (inr (inl cut)) = absurd cut
removed-behind name moves true is later Gone a b shown but from left (inr (inr may)) =
    behind-other Gone b (Remove name) moves left (ap not is) (λ other rest gone. inr gone)
    (later Gone (with_file a name None) (with_file b name None) shown (SameBut-with_file Gone a b name None but) from left may)
removed-behind name moves false is later Gone a b shown but from left (inr (inr may)) =
    behind-pruning Gone b name moves left is
    (later (λ other. Gone other ⊎ (name ≡ other)) (with_file a name None) b
    (λ other gone. elim gone [ inl before ↦ shown other before | inr same ↦ subst (λ (n : List ℕ). is_hidden n ≡ false) same is ])
    (SameBut-pruned Gone a b name but) from left may)

pruned : (moves : List Move) → Claim moves
pruned [] Gone a b shown but from left same = none-done Gone a b [] left but same
pruned (Write name bytes ∷ moves) Gone a b shown but from left (inl same) = none-done Gone a b (Write name bytes ∷ moves) left but same
pruned (Write name bytes ∷ moves) Gone a b shown but from left (inr (inl cut)) = write-cut Gone a b name bytes moves left but cut
pruned (Write name bytes ∷ moves) Gone a b shown but from left (inr (inr may)) =
    behind-other Gone b (Write name bytes) moves left refl (λ other rest gone. gone)
    (pruned moves Gone (with_file a name (Some bytes)) (with_file b name (Some bytes)) shown (SameBut-with_file Gone a b name (Some bytes) but) from left may)
pruned (Rename old new ∷ moves) Gone a b shown but from left (inl same) = none-done Gone a b (Rename old new ∷ moves) left but same
pruned (Rename old new ∷ moves) Gone a b shown but from left (inr (inl cut)) = absurd cut
pruned (Rename old new ∷ moves) Gone a b shown but from left (inr (inr may)) =
    behind-other Gone b (Rename old new) moves left refl (λ other rest gone. gone)
    (pruned moves Gone (moved a (Rename old new)) (moved b (Rename old new)) shown
    (SameBut-renamed Gone a b old new but (same-hidden Gone a b old but shown from.0)) from.1 left may)
pruned (Remove name ∷ moves) Gone a b shown but from left may = removed-behind name moves (is_hidden name) refl (pruned moves) Gone a b shown but from left may
pruned (Looked name there ∷ moves) Gone a b shown but from left (inl same) = none-done Gone a b (Looked name there ∷ moves) left but same
pruned (Looked name there ∷ moves) Gone a b shown but from left (inr (inl cut)) = absurd cut
pruned (Looked name there ∷ moves) Gone a b shown but from left (inr (inr may)) =
    behind-other Gone b (Looked name there) moves left refl (λ other rest gone. gone) (pruned moves Gone a b shown but from left may)
pruned (Sync ∷ moves) Gone a b shown but from left (inl same) = none-done Gone a b (Sync ∷ moves) left but same
pruned (Sync ∷ moves) Gone a b shown but from left (inr (inl cut)) = absurd cut
pruned (Sync ∷ moves) Gone a b shown but from left (inr (inr may)) =
    behind-other Gone b Sync moves left refl (λ other rest gone. gone) (pruned moves Gone a b shown but from left may)

pub each-kill-pruned : (files : Files) (moves : List Move) → AreFromHidden moves → (left : Files) → KillMayLeave files moves left → IsPrunedAt files moves left
each-kill-pruned files moves from left may =
    let p = pruned moves (λ name. ⊥) files files (λ name none. absurd none) (λ name. inl refl) from left may in
    record {
      front = p.front;
      rest = p.rest;
      all = p.all;
      whole = p.whole;
      at = p.at;
      but = SameBut-more (λ name. ⊥ ⊎ WasPruned p.front name) (WasPruned p.front) left p.whole
          (λ name gone. elim gone [ inl none ↦ absurd none | inr now ↦ now ]) p.but;
    }
