-- What a loss of power leaves behind a put that failed, and behind the last move.
use Rattle.std.specs.Prelude.{if◌then◌else◌}
use Rattle.std.specs.Str.{bytes_eq}
use Rattle.std.proofs.Common.{◌≡◌, ℕ, Bool, true, false, Some, None, List, [], ◌∷◌, ◌++◌, map, refl, sym, ap, ◌∙◌, subst, inl, inr, ◌⊎◌, append-nil, append_assoc}
use Rattle.folder.specs.Moves.{Files, Move, Remove, Same, Shows, Write, moved, standing, with_file}
use Rattle.folder.specs.Kills.{IsFailedWrite, KillMayLeave}
use Rattle.folder.specs.Puts.{MayBePut, Put, after_puts, moves_behind, placing, placings, staged_after, staged_with, writing}
use Rattle.folder.specs.Prefixes.{AreStaged, HasPrefix, IsFailedPut}
use Rattle.folder.specs.PowerLoss.{IsTorn, PowerLossMayLeave, disk_after, disk_behind, synced_each, synced_moves_behind, synced_moves_of, synced_placings}
use Rattle.folder.proofs.Names.{at_name, Shows-hidden, Shows-trans}
use Rattle.folder.proofs.Placing.{AreStaged-written, AreStaged-more, Shows-after_puts, after_puts-append, placed}
use Rattle.folder.proofs.Kills.{all-there, standing-append}
use Rattle.folder.proofs.Stops.{written-removed}
use Rattle.folder.proofs.PowerLoss.{OnDisk, Same-trans, Same-with_file, each-loss, kill-is-loss, left-now, reaches-hidden}

-- a loss during the first moves is one during all
loss-front : (first second : List Move) (now : Files) (disk : Files → Type 0) (left : Files) → PowerLossMayLeave now disk first left → PowerLossMayLeave now disk (first ++ second) left
loss-front [] second now disk left there = left-now now disk second left there
loss-front (m ∷ first) second now disk left (inl there) = inl there
loss-front (m ∷ first) second now disk left (inr later) = inr (loss-front first second (moved now m) (disk_behind now disk m) left later)

-- other moves at the end, by which at least as much is lost
abbrev LoseMore : List Move → List Move → Type 1
LoseMore fewer more = (now : Files) (disk : Files → Type 0) (left : Files) → PowerLossMayLeave now disk fewer left → PowerLossMayLeave now disk more left

loss-behind : (first fewer more : List Move) → LoseMore fewer more → LoseMore (first ++ fewer) (first ++ more)
loss-behind [] fewer more lose now disk left may = lose now disk left may
loss-behind (m ∷ first) fewer more lose now disk left (inl there) = inl there
loss-behind (m ∷ first) fewer more lose now disk left (inr later) = inr (loss-behind first fewer more lose (moved now m) (disk_behind now disk m) left later)

removed-twice : (a : Files) (name other : List ℕ) → with_file (with_file a name None) name None other ≡ with_file a name None other
removed-twice a name other =
    elim (bytes_eq name other) as (λ t. (if t then None else (if t then None else a other)) ≡ (if t then None else a other)) [ true ↦ refl | false ↦ refl ]

-- a file that was written, torn or not, and is removed
written-gone : (name bytes : List ℕ) (d c : Files) → Same c d ⊎ Same c (moved d (Write name bytes)) ⊎ IsTorn name d c → Same (with_file c name None) (with_file d name None)
written-gone name bytes d c (inl same) = Same-with_file c d name None same
written-gone name bytes d c (inr (inl wrote)) =
    Same-trans _ _ _ (Same-with_file c (with_file d name (Some bytes)) name None wrote) (written-removed d name bytes)
written-gone name bytes d c (inr (inr (inl (torn, is)))) =
    Same-trans _ _ _ (Same-with_file c (with_file d name (Some torn)) name None is) (written-removed d name torn)
written-gone name bytes d c (inr (inr (inr is))) =
    Same-trans _ _ _ (Same-with_file c (with_file d name None) name None is) (removed-twice d name)

-- a write of other bytes under the name is lost as a torn one
as-torn : (name front bytes : List ℕ) (d c : Files) → Same c d ⊎ Same c (moved d (Write name front)) ⊎ IsTorn name d c → Same c d ⊎ Same c (moved d (Write name bytes)) ⊎ IsTorn name d c
as-torn name front bytes d c (inl same) = inl same
as-torn name front bytes d c (inr (inl wrote)) = inr (inr (inl (front, wrote)))
as-torn name front bytes d c (inr (inr torn)) = inr (inr torn)

same-reach : (name bytes : List ℕ) (d c left : Files) → Same left c → Same c d ⊎ Same c (moved d (Write name bytes)) ⊎ IsTorn name d c → Same left d ⊎ Same left (moved d (Write name bytes)) ⊎ IsTorn name d left
same-reach name bytes d c left as_c (inl same) = inl (Same-trans left c d as_c same)
same-reach name bytes d c left as_c (inr (inl wrote)) = inr (inl (Same-trans left c (with_file d name (Some bytes)) as_c wrote))
same-reach name bytes d c left as_c (inr (inr (inl (torn, is)))) = inr (inr (inl (torn, Same-trans left c (with_file d name (Some torn)) as_c is)))
same-reach name bytes d c left as_c (inr (inr (inr is))) = inr (inr (inr (Same-trans left c (with_file d name None) as_c is)))

-- what is left of a write behind which the file was removed, or not
gone-reach : (name front bytes : List ℕ) (d c left : Files) → Same c d ⊎ Same c (moved d (Write name front)) ⊎ IsTorn name d c → Same left c ⊎ Same left (moved c (Remove name)) →
    Same left d ⊎ Same left (moved d (Write name bytes)) ⊎ IsTorn name d left
gone-reach name front bytes d c left reach (inl same) = same-reach name bytes d c left same (as-torn name front bytes d c reach)
gone-reach name front bytes d c left reach (inr gone) = inr (inr (inr (Same-trans left (with_file c name None) (with_file d name None) gone (written-gone name front d c reach))))

write-lost : (name bytes : List ℕ) (more placed : List Move) → IsFailedWrite name bytes more → LoseMore more (Write name bytes ∷ placed)
write-lost name bytes more placed (inl none) now disk left may = inl (subst (λ (l : List Move). PowerLossMayLeave now disk l left) none may)
write-lost name bytes more placed (inr (inl gone)) now disk left may =
    elim (subst (λ (l : List Move). PowerLossMayLeave now disk l left) gone may) [
      | inl there ↦ inl there
      | inr (d, on_disk, reach) ↦ inr (left-now _ (disk_behind now disk (Write name bytes)) placed left
          (d, on_disk, elim reach as (λ _. Same left d ⊎ Same left (moved d (Write name bytes)) ⊎ IsTorn name d left) [ inl same ↦ inl same | inr same ↦ inr (inr (inr same)) ]))
    ]
write-lost name bytes more placed (inr (inr (front, rest, whole, inl wrote))) now disk left may =
    elim (subst (λ (l : List Move). PowerLossMayLeave now disk l left) wrote may) [
      | inl there ↦ inl there
      | inr (d, on_disk, reach) ↦ inr (left-now _ (disk_behind now disk (Write name bytes)) placed left (d, on_disk, as-torn name front bytes d left reach))
    ]
write-lost name bytes more placed (inr (inr (front, rest, whole, inr wrote))) now disk left may =
    elim (subst (λ (l : List Move). PowerLossMayLeave now disk l left) wrote may) [
      | inl there ↦ inl there
      | inr (inl (d, on_disk, reach)) ↦ inr (left-now _ (disk_behind now disk (Write name bytes)) placed left (d, on_disk, as-torn name front bytes d left reach))
      | inr (inr (c, (d, on_disk, reach), removed)) ↦ inr (left-now _ (disk_behind now disk (Write name bytes)) placed left
          (d, on_disk, gone-reach name front bytes d c left reach removed))
    ]

put-lost : (placed : List Move) (p : Put) (more : List Move) → IsFailedPut placed p more → LoseMore more (writing p ∷ placed)
put-lost placed p more (inl touch) now disk left may = write-lost p.part p.bytes more placed touch now disk left may
put-lost placed p more (inr (front, rest, whole, did)) now disk left may =
    let began : PowerLossMayLeave now disk (writing p ∷ front) left = subst (λ (l : List Move). PowerLossMayLeave now disk l left) did may in
    subst (λ (l : List Move). PowerLossMayLeave now disk (writing p ∷ l) left) (sym whole) (loss-front (writing p ∷ front) rest now disk left began)

pub synced_moves_behind-append : (staged puts more : List Put) → synced_moves_behind staged (puts ++ more) ≡ synced_moves_behind staged puts ++ synced_moves_behind (staged_after staged puts) more
synced_moves_behind-append staged [] more = refl
synced_moves_behind-append staged (p ∷ puts) more =
    let next = staged_with p.ends staged p in
    let block = synced_placings p.ends staged p in
    ap (λ (l : List Move). writing p ∷ (block ++ l)) (synced_moves_behind-append next puts more)
    ∙ ap (λ (l : List Move). writing p ∷ l) (sym (append_assoc block (synced_moves_behind next puts) (synced_moves_behind (staged_after next puts) more)))

pub each-lost-stop : (files : Files) (puts : List Put) (next : Put) (more : List Move) → MayBePut [] (puts ++ next ∷ []) →
    IsFailedPut (synced_placings next.ends (staged_after [] puts) next) next more → (left : Files) → PowerLossMayLeave files (Same files) (synced_moves_of puts ++ more) left →
    HasPrefix files (puts ++ next ∷ []) left
each-lost-stop files puts next more fit stopped left may =
    let placed_then = synced_placings next.ends (staged_after [] puts) next in
    let whole : synced_moves_of (puts ++ next ∷ []) ≡ synced_moves_of puts ++ writing next ∷ placed_then =
    synced_moves_behind-append [] puts (next ∷ []) ∙ ap (λ (l : List Move). synced_moves_of puts ++ writing next ∷ l) (append-nil placed_then) in
    let all : PowerLossMayLeave files (Same files) (synced_moves_of puts ++ writing next ∷ placed_then) left =
    loss-behind (synced_moves_of puts) more (writing next ∷ placed_then) (put-lost placed_then next more stopped) files (Same files) left may in
    each-loss files (puts ++ next ∷ []) fit left (subst (λ (l : List Move). PowerLossMayLeave files (Same files) l left) (sym whole) all)

pub each-killed-stop : (files : Files) (puts : List Put) (next : Put) (more : List Move) → MayBePut [] (puts ++ next ∷ []) →
    IsFailedPut (synced_placings next.ends (staged_after [] puts) next) next more → (left : Files) → KillMayLeave files (synced_moves_of puts ++ more) left →
    HasPrefix files (puts ++ next ∷ []) left
each-killed-stop files puts next more fit stopped left may =
    each-lost-stop files puts next more fit stopped left (kill-is-loss (synced_moves_of puts ++ more) files (Same files) left (λ c same n. sym (same n)) may)

-- processes see the same files, synced or not
standing-each : (block : List Put) (a : Files) (rest : List Move) → standing a (synced_each block ++ rest) ≡ standing (standing a (map placing block)) rest
standing-each [] a rest = refl
standing-each (p ∷ block) a rest = standing-each block (moved a (placing p)) rest

standing-block : (ends : Bool) (staged : List Put) (p : Put) (a : Files) (rest : List Move) → standing a (synced_placings ends staged p ++ rest) ≡ standing (standing a (placings ends staged p)) rest
standing-block true staged p a rest = standing-each (staged ++ p ∷ []) a rest
standing-block false staged p a rest = refl

standing-synced : (puts staged : List Put) (a : Files) → standing a (synced_moves_behind staged puts) ≡ standing a (moves_behind staged puts)
standing-synced [] staged a = refl
standing-synced (p ∷ puts) staged a =
    let written = moved a (writing p) in
    let next = staged_with p.ends staged p in
    standing-block p.ends staged p written (synced_moves_behind next puts)
    ∙ standing-synced puts next (standing written (placings p.ends staged p))
    ∙ sym (standing-append written (placings p.ends staged p) (moves_behind next puts))

pub all-there-synced : (files : Files) (puts : List Put) → MayBePut [] puts → staged_after [] puts ≡ [] → Shows (standing files (synced_moves_of puts)) (after_puts files puts)
all-there-synced files puts fit whole =
    subst (λ (now : Files). Shows now (after_puts files puts)) (sym (standing-synced puts [] files)) (all-there files puts fit whole)

-- behind all moves all is on the disk
abbrev pub AllOnDisk : List Put → Type 1
AllOnDisk puts = (now : Files) (disk : Files → Type 0) (staged : List Put) → AreStaged now staged → MayBePut staged puts → staged_after staged puts ≡ [] → OnDisk disk now → (left : Files) →
    disk_after now disk (synced_moves_behind staged puts) left → Shows left (after_puts now (staged ++ puts))

-- a block is on the disk once its last file is placed
disk-each : (block : List Put) (a : Files) (rest : List Move) (left : Files) → disk_after a (Same a) (synced_each block ++ rest) left →
    disk_after (standing a (map placing block)) (Same (standing a (map placing block))) rest left
disk-each [] a rest left may = may
disk-each (p ∷ block) a rest left may = disk-each block (moved a (placing p)) rest left may

disk-behind : (puts : List Put) → AllOnDisk puts → (now : Files) (disk : Files → Type 0) (staged : List Put) (p : Put) (ends : Bool) → AreStaged now (staged ++ p ∷ []) →
    MayBePut (staged_with ends staged p) puts → staged_after (staged_with ends staged p) puts ≡ [] → OnDisk disk now → (left : Files) →
    disk_after now disk (synced_placings ends staged p ++ synced_moves_behind (staged_with ends staged p) puts) left → Shows left (after_puts now ((staged ++ p ∷ []) ++ puts))
disk-behind puts later now disk staged p false beside fit whole on_disk left may = later now disk (staged ++ p ∷ []) beside fit whole on_disk left may
disk-behind puts later now disk staged p true beside fit whole on_disk left may =
    let block = staged ++ p ∷ [] in
    let all = standing now (map placing block) in
    let behind : Shows left (after_puts all puts) = later all (Same all) [] tt fit whole (λ c same n shown. sym (same n)) left (disk-each block now (synced_moves_behind [] puts) left may) in
    subst (λ (files : Files). Shows left files) (sym (after_puts-append now block puts))
    (Shows-trans left (after_puts all puts) (after_puts (after_puts now block) puts) behind (Shows-after_puts all (after_puts now block) puts (placed now block beside)))

disk-step : (p : Put) (puts : List Put) → AllOnDisk puts → (now : Files) (disk : Files → Type 0) (staged : List Put) → AreStaged now staged → MayBePut staged (p ∷ puts) →
    staged_after staged (p ∷ puts) ≡ [] → OnDisk disk now → (left : Files) → disk_after now disk (synced_moves_behind staged (p ∷ puts)) left → Shows left (after_puts now (staged ++ p ∷ puts))
disk-step p puts later now disk staged beside fit whole on_disk left may =
    let written = with_file now p.part (Some p.bytes) in
    let all_beside = AreStaged-more written p staged (AreStaged-written now p (Some p.bytes) staged fit.1 beside) fit.0 (at_name now p.part (Some p.bytes)) fit.1 in
    let then_disk : Files → Type 0 = disk_behind now disk (writing p) in
    let then_on_disk : OnDisk then_disk written = λ c did.
    Shows-trans c now written (Shows-trans c did.0 now (reaches-hidden p.part p.bytes did.0 c (fit.0).hidden did.2) (on_disk did.0 did.1))
    (λ n shown. sym (Shows-hidden now p.part (Some p.bytes) (fit.0).hidden n shown)) in
    let behind : Shows left (after_puts written ((staged ++ p ∷ []) ++ puts)) = disk-behind puts later written then_disk staged p p.ends all_beside fit.2 whole then_on_disk left may in
    let same : Shows left (after_puts written (staged ++ p ∷ puts)) = subst (λ (l : List Put). Shows left (after_puts written l)) (append_assoc staged (p ∷ []) puts) behind in
    Shows-trans left (after_puts written (staged ++ p ∷ puts)) (after_puts now (staged ++ p ∷ puts)) same
    (Shows-after_puts written now (staged ++ p ∷ puts) (Shows-hidden now p.part (Some p.bytes) (fit.0).hidden))

on_disk_all : (puts : List Put) → AllOnDisk puts
on_disk_all [] = λ now disk staged beside fit whole on_disk left may. subst (λ (l : List Put). Shows left (after_puts now (l ++ []))) (sym whole) (on_disk left may)
on_disk_all (p ∷ puts) = disk-step p puts (on_disk_all puts)

pub all-on-disk : (files : Files) (puts : List Put) → MayBePut [] puts → staged_after [] puts ≡ [] → (left : Files) →
    disk_after files (Same files) (synced_moves_of puts) left → Shows left (after_puts files puts)
all-on-disk files puts fit whole left may = on_disk_all puts files (Same files) [] tt fit whole (λ c same n shown. sym (same n)) left may
