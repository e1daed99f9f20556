-- What a loss of power leaves of a folder from which old files are taken away.
use Rattle.std.specs.Prelude.{not}
use Rattle.std.proofs.Common.{◌≡◌, ℕ, Bool, true, false, Some, None, List, [], ◌∷◌, ◌++◌, refl, sym, ap, subst, inl, inr, ◌⊎◌}
use Rattle.folder.specs.Moves.{Files, Looked, Move, Remove, Rename, Same, Sync, Write, is_hidden, moved, with_file}
use Rattle.folder.specs.PowerLoss.{PowerLossMayLeave, disk_after, disk_behind}
use Rattle.folder.specs.Pruning.{AreFromHidden, IsPrunedAtLoss, SameBut, WasPruned, is_pruning, other_moves, unless_pruning}
use Rattle.folder.proofs.Pruning.{SameBut-with_file, SameBut-Same, SameBut-more, SameBut-pruned, same-hidden, SameBut-renamed}

-- whatever may be on the disk, the other may be on it, but for these files
abbrev pub Follows : (List ℕ → Type 0) → (Files → Type 0) → (Files → Type 0) → Type 0
Follows Gone disk other = (c : Files) → disk c → (d : Files) × other d × SameBut Gone c d

-- what is left on the disk, of files of which some may be missing already
record IsLost (Gone : List ℕ → Type 0) (now : Files) (disk : Files → Type 0) (moves : List Move) (left : Files) : Type 0 where
  pub front : List Move
  pub rest : List Move
  pub all : moves ≡ front ++ rest
  pub whole : Files
  pub at : disk_after now disk (other_moves front) whole
  pub but : SameBut (λ name. Gone name ⊎ WasPruned front name) left whole

at-once : (Gone : List ℕ → Type 0) (a_disk b_disk : Files → Type 0) (now : Files) (moves : List Move) (left : Files) → Follows Gone a_disk b_disk → a_disk left → IsLost Gone now b_disk moves left
at-once Gone a_disk b_disk now moves left follows on_disk =
    let f = follows left on_disk in
    record {
      front = [];
      rest = moves;
      all = refl;
      whole = f.0;
      at = f.1;
      but = SameBut-more Gone (λ name. Gone name ⊎ WasPruned [] name) left f.0 (λ name gone. inl gone) f.2;
    }

behind-other : (Gone : List ℕ → Type 0) (now : Files) (disk : Files → Type 0) (m : Move) (moves : List Move) (left : Files) → is_pruning m ≡ false →
    ((name : List ℕ) (rest : List Move) → WasPruned rest name → WasPruned (m ∷ rest) name) →
    IsLost Gone (moved now m) (disk_behind now disk m) moves left → IsLost Gone now disk (m ∷ moves) left
behind-other Gone now disk m moves left other counts p = record {
  front = m ∷ p.front;
  rest = p.rest;
  all = ap (λ (l : List Move). m ∷ l) p.all;
  whole = p.whole;
  at = subst (λ (t : Bool). disk_after now disk (unless_pruning t m (other_moves p.front)) p.whole) (sym other) p.at;
  but = SameBut-more (λ name. Gone name ⊎ WasPruned p.front name) (λ name. Gone name ⊎ WasPruned (m ∷ p.front) name) left p.whole
      (λ name gone. elim gone [ inl before ↦ inl before | inr then ↦ inr (counts name p.front then) ]) p.but;
}

behind-pruning : (Gone : List ℕ → Type 0) (now : Files) (disk : Files → Type 0) (name : List ℕ) (moves : List Move) (left : Files) → is_hidden name ≡ false →
    IsLost (λ other. Gone other ⊎ (name ≡ other)) now disk moves left → IsLost Gone now disk (Remove name ∷ moves) left
behind-pruning Gone now disk name moves left shown p = record {
  front = Remove name ∷ p.front;
  rest = p.rest;
  all = ap (λ (l : List Move). Remove name ∷ l) p.all;
  whole = p.whole;
  at = subst (λ (t : Bool). disk_after now disk (unless_pruning (not t) (Remove name) (other_moves p.front)) p.whole) (sym shown) p.at;
  but = SameBut-more (λ other. (Gone other ⊎ (name ≡ other)) ⊎ WasPruned p.front other) (λ other. Gone other ⊎ WasPruned (Remove name ∷ p.front) other) left p.whole
      (λ other gone. elim gone [
        | inl (inl before) ↦ inl before
        | inl (inr is) ↦ inr (inl (is, shown))
        | inr then ↦ inr (inr then)
      ]) p.but;
}

-- behind a write both disks may have the same file, torn or not
follows-write : (Gone : List ℕ → Type 0) (a b : Files) (a_disk b_disk : Files → Type 0) (name bytes : List ℕ) → Follows Gone a_disk b_disk →
    Follows Gone (disk_behind a a_disk (Write name bytes)) (disk_behind b b_disk (Write name bytes))
follows-write Gone a b a_disk b_disk name bytes follows c (d, on_disk, reach) =
    let f = follows d on_disk in
    elim reach [
      | inl same ↦ (f.0, (f.0, f.1, inl (λ n. refl)), SameBut-Same Gone c d f.0 same f.2)
      | inr (inl wrote) ↦ (
        with_file f.0 name (Some bytes),
        (f.0, f.1, inr (inl (λ n. refl))),
        SameBut-Same Gone c (with_file d name (Some bytes)) (with_file f.0 name (Some bytes)) wrote (SameBut-with_file Gone d f.0 name (Some bytes) f.2),
      )
      | inr (inr (inl (torn, is))) ↦ (
        with_file f.0 name (Some torn),
        (f.0, f.1, inr (inr (inl (torn, λ n. refl)))),
        SameBut-Same Gone c (with_file d name (Some torn)) (with_file f.0 name (Some torn)) is (SameBut-with_file Gone d f.0 name (Some torn) f.2),
      )
      | inr (inr (inr is)) ↦ (
        with_file f.0 name None,
        (f.0, f.1, inr (inr (inr (λ n. refl)))),
        SameBut-Same Gone c (with_file d name None) (with_file f.0 name None) is (SameBut-with_file Gone d f.0 name None f.2),
      )
    ]

follows-rename : (Gone : List ℕ → Type 0) (a b : Files) (a_disk b_disk : Files → Type 0) (old new : List ℕ) → ((name : List ℕ) → Gone name → is_hidden name ≡ false) → is_hidden old ≡ true →
    Follows Gone a_disk b_disk → Follows Gone (disk_behind a a_disk (Rename old new)) (disk_behind b b_disk (Rename old new))
follows-rename Gone a b a_disk b_disk old new shown hidden follows c (d, on_disk, reach) =
    let f = follows d on_disk in
    elim reach [
      | inl same ↦ (f.0, (f.0, f.1, inl (λ n. refl)), SameBut-Same Gone c d f.0 same f.2)
      | inr did ↦ (
        moved f.0 (Rename old new),
        (f.0, f.1, inr (λ n. refl)),
        SameBut-Same Gone c (moved d (Rename old new)) (moved f.0 (Rename old new)) did (SameBut-renamed Gone d f.0 old new f.2 (same-hidden Gone d f.0 old f.2 shown hidden)),
      )
    ]

follows-remove : (Gone : List ℕ → Type 0) (a b : Files) (a_disk b_disk : Files → Type 0) (name : List ℕ) → Follows Gone a_disk b_disk →
    Follows Gone (disk_behind a a_disk (Remove name)) (disk_behind b b_disk (Remove name))
follows-remove Gone a b a_disk b_disk name follows c (d, on_disk, reach) =
    let f = follows d on_disk in
    elim reach [
      | inl same ↦ (f.0, (f.0, f.1, inl (λ n. refl)), SameBut-Same Gone c d f.0 same f.2)
      | inr did ↦ (
        with_file f.0 name None,
        (f.0, f.1, inr (λ n. refl)),
        SameBut-Same Gone c (with_file d name None) (with_file f.0 name None) did (SameBut-with_file Gone d f.0 name None f.2),
      )
    ]

-- a file that is taken away is on the disk still, or not
follows-pruned : (Gone : List ℕ → Type 0) (a : Files) (a_disk b_disk : Files → Type 0) (name : List ℕ) → Follows Gone a_disk b_disk →
    Follows (λ other. Gone other ⊎ (name ≡ other)) (disk_behind a a_disk (Remove name)) b_disk
follows-pruned Gone a a_disk b_disk name follows c (d, on_disk, reach) =
    let f = follows d on_disk in
    elim reach [
      | inl same ↦ (f.0, f.1, SameBut-more Gone (λ other. Gone other ⊎ (name ≡ other)) c f.0 (λ other gone. inl gone) (SameBut-Same Gone c d f.0 same f.2))
      | inr did ↦ (f.0, f.1, SameBut-Same (λ other. Gone other ⊎ (name ≡ other)) c (with_file d name None) f.0 did (SameBut-pruned Gone d f.0 name f.2))
    ]

-- behind a sync the disks have what processes see
follows-sync : (Gone : List ℕ → Type 0) (a b : Files) → SameBut Gone a b → Follows Gone (Same a) (Same b)
follows-sync Gone a b but c same = (b, λ n. refl, SameBut-Same Gone c a b (λ n. sym (same n)) but)

abbrev Claim : List Move → Type 1
Claim moves = (Gone : List ℕ → Type 0) (a b : Files) (a_disk b_disk : Files → Type 0) → ((name : List ℕ) → Gone name → is_hidden name ≡ false) → SameBut Gone a b →
    Follows Gone a_disk b_disk → AreFromHidden moves → (left : Files) → PowerLossMayLeave a a_disk moves left → IsLost Gone b b_disk moves left

removed-behind : (name : List ℕ) (moves : List Move) (hidden : Bool) → is_hidden name ≡ hidden → Claim moves → Claim (Remove name ∷ moves)
removed-behind name moves hidden is later Gone a b a_disk b_disk shown but follows from left (inl on_disk) = at-once Gone a_disk b_disk b (Remove name ∷ moves) left follows on_disk
removed-behind name moves true is later Gone a b a_disk b_disk shown but follows from left (inr may) =
    behind-other Gone b b_disk (Remove name) moves left (ap not is) (λ other rest gone. inr gone)
    (later Gone (with_file a name None) (with_file b name None) (disk_behind a a_disk (Remove name)) (disk_behind b b_disk (Remove name)) shown
    (SameBut-with_file Gone a b name None but) (follows-remove Gone a b a_disk b_disk name follows) from left may)
removed-behind name moves false is later Gone a b a_disk b_disk shown but follows from left (inr may) =
    behind-pruning Gone b b_disk name moves left is
    (later (λ other. Gone other ⊎ (name ≡ other)) (with_file a name None) b (disk_behind a a_disk (Remove name)) b_disk
    (λ other gone. elim gone [ inl before ↦ shown other before | inr same ↦ subst (λ (n : List ℕ). is_hidden n ≡ false) same is ])
    (SameBut-pruned Gone a b name but) (follows-pruned Gone a a_disk b_disk name follows) from left may)

lost : (moves : List Move) → Claim moves
lost [] Gone a b a_disk b_disk shown but follows from left on_disk = at-once Gone a_disk b_disk b [] left follows on_disk
lost (Write name bytes ∷ moves) Gone a b a_disk b_disk shown but follows from left (inl on_disk) = at-once Gone a_disk b_disk b (Write name bytes ∷ moves) left follows on_disk
lost (Write name bytes ∷ moves) Gone a b a_disk b_disk shown but follows from left (inr may) =
    behind-other Gone b b_disk (Write name bytes) moves left refl (λ other rest gone. gone)
    (lost moves Gone (with_file a name (Some bytes)) (with_file b name (Some bytes)) (disk_behind a a_disk (Write name bytes)) (disk_behind b b_disk (Write name bytes)) shown
    (SameBut-with_file Gone a b name (Some bytes) but) (follows-write Gone a b a_disk b_disk name bytes follows) from left may)
lost (Rename old new ∷ moves) Gone a b a_disk b_disk shown but follows from left (inl on_disk) = at-once Gone a_disk b_disk b (Rename old new ∷ moves) left follows on_disk
lost (Rename old new ∷ moves) Gone a b a_disk b_disk shown but follows from left (inr may) =
    behind-other Gone b b_disk (Rename old new) moves left refl (λ other rest gone. gone)
    (lost moves Gone (moved a (Rename old new)) (moved b (Rename old new)) (disk_behind a a_disk (Rename old new)) (disk_behind b b_disk (Rename old new)) shown
    (SameBut-renamed Gone a b old new but (same-hidden Gone a b old but shown from.0)) (follows-rename Gone a b a_disk b_disk old new shown from.0 follows) from.1 left may)
lost (Remove name ∷ moves) Gone a b a_disk b_disk shown but follows from left may =
    removed-behind name moves (is_hidden name) refl (lost moves) Gone a b a_disk b_disk shown but follows from left may
lost (Looked name there ∷ moves) Gone a b a_disk b_disk shown but follows from left (inl on_disk) = at-once Gone a_disk b_disk b (Looked name there ∷ moves) left follows on_disk
lost (Looked name there ∷ moves) Gone a b a_disk b_disk shown but follows from left (inr may) =
    behind-other Gone b b_disk (Looked name there) moves left refl (λ other rest gone. gone) (lost moves Gone a b a_disk b_disk shown but follows from left may)
lost (Sync ∷ moves) Gone a b a_disk b_disk shown but follows from left (inl on_disk) = at-once Gone a_disk b_disk b (Sync ∷ moves) left follows on_disk
lost (Sync ∷ moves) Gone a b a_disk b_disk shown but follows from left (inr may) =
    behind-other Gone b b_disk Sync moves left refl (λ other rest gone. gone) (lost moves Gone a b (Same a) (Same b) shown but (follows-sync Gone a b but) from left may)

pub each-loss-pruned : (files : Files) (moves : List Move) → AreFromHidden moves → (left : Files) → PowerLossMayLeave files (Same files) moves left → IsPrunedAtLoss files moves left
each-loss-pruned files moves from left may =
    let p = lost moves (λ name. ⊥) files files (Same files) (Same files) (λ name none. absurd none) (λ name. inl refl)
    (λ c same. (c, same, λ name. inl refl)) from left may in
    record {
      front = p.front;
      rest = p.rest;
      all = p.all;
      whole = p.whole;
      at = p.at;
      but = SameBut-more (λ name. ⊥ ⊎ WasPruned p.front name) (WasPruned p.front) left p.whole
          (λ name gone. elim gone [ inl none ↦ absurd none | inr then ↦ then ]) p.but;
    }
