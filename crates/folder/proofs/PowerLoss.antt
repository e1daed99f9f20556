-- What a loss of power leaves of blocks that are synced.
use Rattle.std.specs.Prelude.{if◌then◌else◌}
use Rattle.std.specs.Str.{bytes_eq}
use Rattle.std.proofs.Common.{◌≡◌, ℕ, Bool, true, false, Option, Some, None, List, [], ◌∷◌, ◌++◌, map, refl, sym, ◌∙◌, subst, inl, inr, ◌⊎◌, append_assoc}
use Rattle.folder.specs.Moves.{Files, Looked, Move, Remove, Rename, Same, Shows, Sync, Write, is_hidden, moved, standing, with_file}
use Rattle.folder.specs.Kills.{CutOff, KillMayLeave}
use Rattle.folder.specs.Puts.{MayBePut, Put, placing, staged_with, writing}
use Rattle.folder.specs.Prefixes.{AreStaged, HasPrefix}
use Rattle.folder.specs.PowerLoss.{IsTorn, PowerLossMayLeave, disk_behind, synced_each, synced_moves_behind, synced_moves_of, synced_placings}
use Rattle.folder.proofs.Names.{at_name, Shows-hidden, Shows-trans, Shows-Same}
use Rattle.folder.proofs.Placing.{AreStaged-written, AreStaged-more, placed, placing_killed}
use Rattle.folder.proofs.Kills.{AreOpen, AreOpen-more, ends_all, nothing_more, seen_before, in_block, behind_block}

-- what is on the disk looks like this
abbrev pub OnDisk : (Files → Type 0) → Files → Type 0
OnDisk disk files = (c : Files) → disk c → Shows c files

-- a write of a hidden file, torn or not, isn't seen
pub reaches-hidden : (name bytes : List ℕ) (d c : Files) → is_hidden name ≡ true →
    Same c d ⊎ Same c (moved d (Write name bytes)) ⊎ IsTorn name d c → Shows c d
reaches-hidden name bytes d c hidden (inl same) = λ n shown. same n
reaches-hidden name bytes d c hidden (inr (inl wrote)) = Shows-Same c (with_file d name (Some bytes)) d wrote (Shows-hidden d name (Some bytes) hidden)
reaches-hidden name bytes d c hidden (inr (inr (inl (torn, is)))) = Shows-Same c (with_file d name (Some torn)) d is (Shows-hidden d name (Some torn) hidden)
reaches-hidden name bytes d c hidden (inr (inr (inr is))) = Shows-Same c (with_file d name None) d is (Shows-hidden d name None hidden)

pub Same-with_file : (a b : Files) (name : List ℕ) (bytes : Option (List ℕ)) → Same a b → Same (with_file a name bytes) (with_file b name bytes)
Same-with_file a b name bytes same other =
    elim (bytes_eq name other) as (λ t. (if t then bytes else a other) ≡ (if t then bytes else b other)) [ true ↦ refl | false ↦ same other ]

pub Same-trans : (a b c : Files) → Same a b → Same b c → Same a c
Same-trans a b c p q name = p name ∙ q name

Same-placed : (a b : Files) (p : Put) → Same a b → Same (moved a (placing p)) (moved b (placing p))
Same-placed a b p same =
    let gone = Same-with_file a b p.part None same in
    subst (λ (bytes : Option (List ℕ)). Same (moved a (placing p)) (with_file (with_file b p.part None) p.name bytes)) (same p.part)
    (Same-with_file (with_file a p.part None) (with_file b p.part None) p.name (a p.part) gone)

KillMayLeave-now : (a : Files) (moves : List Move) (left : Files) → Same left a → KillMayLeave a moves left
KillMayLeave-now a [] left same = same
KillMayLeave-now a (m ∷ moves) left same = inl same

-- in a block that is placed file by file, each synced, a loss of power leaves nothing else than a kill
synced_lost : (block : List Put) (a : Files) (rest : List Move) (left : Files) → PowerLossMayLeave a (Same a) (synced_each block ++ rest) left →
    KillMayLeave a (map placing block) left ⊎ PowerLossMayLeave (standing a (map placing block)) (Same (standing a (map placing block))) rest left
synced_lost [] a rest left may = inr may
synced_lost (p ∷ block) a rest left (inl same) = inl (inl (λ name. sym (same name)))
synced_lost (p ∷ block) a rest left (inr (inl (d, same, inl reach))) = inl (inl (Same-trans left d a reach (λ name. sym (same name))))
synced_lost (p ∷ block) a rest left (inr (inl (d, same, inr reach))) =
    inl (inr (inr (KillMayLeave-now (moved a (placing p)) (map placing block) left (Same-trans left (moved d (placing p)) (moved a (placing p)) reach (Same-placed d a p (λ name. sym (same name)))))))
synced_lost (p ∷ block) a rest left (inr (inr later)) =
    elim (synced_lost block (moved a (placing p)) rest left later) [ inl within ↦ inl (inr (inr within)) | inr behind ↦ inr behind ]

abbrev pub LoseClaim : List Put → Type 1
LoseClaim puts = (now : Files) (disk : Files → Type 0) (staged : List Put) → AreStaged now staged → AreOpen staged → MayBePut staged puts → OnDisk disk now → (left : Files) →
    PowerLossMayLeave now disk (synced_moves_behind staged puts) left → HasPrefix now (staged ++ puts) left

-- behind the write of a file beside its name
lose_behind : (puts : List Put) → LoseClaim puts → (now : Files) (disk : Files → Type 0) (staged : List Put) (p : Put) (ends : Bool) → p.ends ≡ ends → AreStaged now (staged ++ p ∷ []) → AreOpen staged →
    MayBePut (staged_with ends staged p) puts → OnDisk disk now → (left : Files) → PowerLossMayLeave now disk (synced_placings ends staged p ++ synced_moves_behind (staged_with ends staged p) puts) left →
    HasPrefix now ((staged ++ p ∷ []) ++ puts) left
lose_behind puts later now disk staged p false not_last beside open_ones fit on_disk left may = later now disk (staged ++ p ∷ []) beside (AreOpen-more p staged open_ones not_last) fit on_disk left may
lose_behind puts later now disk staged p true last beside open_ones fit on_disk left (inl there) = nothing_more now ((staged ++ p ∷ []) ++ puts) left (on_disk left there)
lose_behind puts later now disk staged p true last beside open_ones fit on_disk left (inr may) =
    let block = staged ++ p ∷ [] in
    let whole = ends_all [] staged p open_ones last in
    let then_all = standing now (map placing block) in
    elim (synced_lost block now (synced_moves_behind [] puts) left may) [
      | inl within ↦ in_block now block puts left whole (placing_killed now block left beside within)
      | inr behind ↦ behind_block now then_all block puts left whole (placed now block beside)
          (later then_all (Same then_all) [] tt tt fit (λ c same n shown. sym (same n)) left behind)
    ]

lose_step : (p : Put) (puts : List Put) → LoseClaim puts → (now : Files) (disk : Files → Type 0) (staged : List Put) → AreStaged now staged → AreOpen staged → MayBePut staged (p ∷ puts) → OnDisk disk now →
    (left : Files) → PowerLossMayLeave now disk (synced_moves_behind staged (p ∷ puts)) left → HasPrefix now (staged ++ p ∷ puts) left
lose_step p puts later now disk staged beside open_ones fit on_disk left (inl there) = nothing_more now (staged ++ p ∷ puts) left (on_disk left there)
lose_step p puts later now disk staged beside open_ones fit on_disk left (inr behind) =
    let written = with_file now p.part (Some p.bytes) in
    let all_beside = AreStaged-more written p staged (AreStaged-written now p (Some p.bytes) staged fit.1 beside) fit.0 (at_name now p.part (Some p.bytes)) fit.1 in
    let then_disk : Files → Type 0 = disk_behind now disk (writing p) in
    let then_on_disk : OnDisk then_disk written = λ c did.
    Shows-trans c now written (Shows-trans c did.0 now (reaches-hidden p.part p.bytes did.0 c (fit.0).hidden did.2) (on_disk did.0 did.1))
    (λ n shown. sym (Shows-hidden now p.part (Some p.bytes) (fit.0).hidden n shown)) in
    seen_before now p (staged ++ p ∷ puts) ((staged ++ p ∷ []) ++ puts) left fit.0 (append_assoc staged (p ∷ []) puts)
    (lose_behind puts later written then_disk staged p p.ends refl all_beside open_ones fit.2 then_on_disk left behind)

loses : (puts : List Put) → LoseClaim puts
loses [] = λ now disk staged beside open_ones fit on_disk left may. nothing_more now (staged ++ []) left (on_disk left may)
loses (p ∷ puts) = lose_step p puts (loses puts)

pub each-loss : (files : Files) (puts : List Put) → MayBePut [] puts → (left : Files) → PowerLossMayLeave files (Same files) (synced_moves_of puts) left → HasPrefix files puts left
each-loss files puts fit left may = loses puts files (Same files) [] tt tt fit (λ c same n shown. sym (same n)) left may

-- what is on the disk now may be left
pub left-now : (now : Files) (disk : Files → Type 0) (moves : List Move) (left : Files) → disk left → PowerLossMayLeave now disk moves left
left-now now disk [] left there = there
left-now now disk (m ∷ moves) left there = inl there

-- what processes see may be on the disk
abbrev MayBeSeen : Files → (Files → Type 0) → Type 0
MayBeSeen now disk = (c : Files) → Same c now → disk c

seen-behind : (now : Files) (disk : Files → Type 0) (m : Move) → MayBeSeen now disk → MayBeSeen (moved now m) (disk_behind now disk m)
seen-behind now disk (Write name bytes) seen c same = (now, seen now (λ n. refl), inr (inl same))
seen-behind now disk (Rename old new) seen c same = (now, seen now (λ n. refl), inr same)
seen-behind now disk (Remove name) seen c same = (now, seen now (λ n. refl), inr same)
seen-behind now disk (Looked name there) seen c same = seen c same
seen-behind now disk Sync seen c same = λ n. sym (same n)

cut-behind : (now : Files) (disk : Files → Type 0) (m : Move) (left : Files) → MayBeSeen now disk → CutOff now m left → disk_behind now disk m left
cut-behind now disk (Write name bytes) left seen (inl (front, rest, whole, same)) = (now, seen now (λ n. refl), inr (inr (inl (front, same))))
cut-behind now disk (Write name bytes) left seen (inr same) = (now, seen now (λ n. refl), inr (inr (inr same)))
cut-behind now disk (Rename old new) left seen cut = absurd cut
cut-behind now disk (Remove name) left seen cut = absurd cut
cut-behind now disk (Looked name there) left seen cut = absurd cut
cut-behind now disk Sync left seen cut = absurd cut

-- a loss of power may leave whatever a kill may
pub kill-is-loss : (moves : List Move) (now : Files) (disk : Files → Type 0) (left : Files) → MayBeSeen now disk → KillMayLeave now moves left → PowerLossMayLeave now disk moves left
kill-is-loss [] now disk left seen may = seen left may
kill-is-loss (m ∷ moves) now disk left seen (inl same) = inl (seen left same)
kill-is-loss (m ∷ moves) now disk left seen (inr (inl cut)) = inr (left-now (moved now m) (disk_behind now disk m) moves left (cut-behind now disk m left seen cut))
kill-is-loss (m ∷ moves) now disk left seen (inr (inr later)) =
    inr (kill-is-loss moves (moved now m) (disk_behind now disk m) left (seen-behind now disk m seen) later)

pub each-kill-synced : (files : Files) (puts : List Put) → MayBePut [] puts → (left : Files) → KillMayLeave files (synced_moves_of puts) left → HasPrefix files puts left
each-kill-synced files puts fit left may = each-loss files puts fit left (kill-is-loss (synced_moves_of puts) files (Same files) left (λ c same n. sym (same n)) may)
