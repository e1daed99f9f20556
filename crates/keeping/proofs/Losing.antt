-- Wherever a loss of power stops a process, no playlist in place lists what went.
use Rattle.std.proofs.Common.{◌≡◌, ℕ, Bool, true, false, List, [], ◌∷◌, ◌++◌, refl, sym, ap, ◌∙◌, subst, inl, inr, ◌⊎◌, append-nil, append_assoc}
use Rattle.std.proofs.lemmas.List.{append_cancel_left}
use Rattle.folder.specs.Moves.{Files, Looked, Move, Remove, Rename, Same, Sync, Write, moved, standing}
use Rattle.folder.specs.Puts.{MayBePut, Put, placing, staged_after, staged_with, writing}
use Rattle.folder.specs.PowerLoss.{PowerLossMayLeave, disk_after, disk_behind, synced_each, synced_moves_behind, synced_moves_of, synced_placings}
use Rattle.folder.specs.Pruning.{AreFromHidden, WasPruned, other_moves}
use Rattle.folder.proofs.FromHidden.{from-others, when-from-hidden}
use Rattle.folder.proofs.Kills.{standing-append}
use Rattle.folder.proofs.OtherMoves.{other_moves-append}
use Rattle.folder.proofs.PowerLoss.{each-loss}
use Rattle.folder.proofs.PruningLosses.{each-loss-pruned}
use Rattle.item_io.specs.Blocks.{AreBlocks}
use Rattle.item_io.specs.Items.{ItemValue}
use Rattle.item_io.specs.FolderMoves.{puts_of}
use Rattle.item_io.proofs.Fitting.{given-fit, puts-append}
use Rattle.keeping.specs.Keepings.{IsGone, KeepingValue, keeping_at}
use Rattle.keeping.specs.InPlace.{EachLossOfPowerLeavesUnlisted, FramesFollow, WentBehind, WentInTurn}
use Rattle.keeping.proofs.Placed.{not-empty}
use Rattle.keeping.proofs.Stopping.{IsReached, IsRemovedAt, fit-behind, fit-front, missed, moves-append, reached, removed-at, seen-when}

-- where more may be on the disk, more may be left
disk-more : (now : Files) (disk more : Files → Type 0) (m : Move) → ((c : Files) → disk c → more c) → (c : Files) → disk_behind now disk m c → disk_behind now more m c
disk-more now disk more (Write name bytes) on c (d, there, reach) = (d, on d there, reach)
disk-more now disk more (Rename old new) on c (d, there, reach) = (d, on d there, reach)
disk-more now disk more (Remove name) on c (d, there, reach) = (d, on d there, reach)
disk-more now disk more (Looked name there) on c at = on c at
disk-more now disk more Sync on c at = at

pub loss-more : (moves : List Move) (now : Files) (disk more : Files → Type 0) → ((c : Files) → disk c → more c) → (left : Files) → PowerLossMayLeave now disk moves left → PowerLossMayLeave now more moves left
loss-more [] now disk more on left may = on left may
loss-more (m ∷ moves) now disk more on left (inl there) = inl (on left there)
loss-more (m ∷ moves) now disk more on left (inr later) =
    inr (loss-more moves (moved now m) (disk_behind now disk m) (disk_behind now more m) (disk-more now disk more m on) left later)

pub at-loss : (now : Files) (disk : Files → Type 0) (front rest : List Move) (left : Files) → disk_after now disk front left → PowerLossMayLeave now disk (front ++ rest) left
at-loss now disk [] [] left at = at
at-loss now disk [] (m ∷ rest) left at = inl at
at-loss now disk (m ∷ front) rest left at = inr (at-loss (moved now m) (disk_behind now disk m) front rest left at)

pub disk-append : (first second : List Move) (now : Files) (disk : Files → Type 0) (left : Files) → disk_after now disk (first ++ second) left →
    disk_after (standing now first) (λ (c : Files). disk_after now disk first c) second left
disk-append [] second now disk left at = at
disk-append (m ∷ first) second now disk left at = disk-append first second (moved now m) (disk_behind now disk m) left at

-- behind a sync the disk has what processes see
abbrev pub IsSettled : List Move → Type 0
IsSettled moves = (moves ≡ []) ⊎ ((front : List Move) × (moves ≡ front ++ Sync ∷ []))

pub settled-disk : (moves : List Move) (files : Files) → IsSettled moves → (c : Files) → disk_after files (Same files) moves c → Same (standing files moves) c
settled-disk moves files (inl none) c at = subst (λ (l : List Move). disk_after files (Same files) l c → Same (standing files l) c) (sym none) (λ same. same) at
settled-disk moves files (inr (front, is)) c at =
    subst (λ (l : List Move). disk_after files (Same files) l c → Same (standing files l) c) (sym is)
    (λ there. subst (λ (f : Files). Same f c) (sym (standing-append files front (Sync ∷ []))) (disk-append front (Sync ∷ []) files (Same files) c there)) at

each-settled : (block : List Put) (p : Put) → (front : List Move) × (synced_each (block ++ p ∷ []) ≡ front ++ Sync ∷ [])
each-settled [] p = (placing p ∷ [], refl)
each-settled (q ∷ block) p =
    let r = each-settled block p in
    (placing q ∷ Sync ∷ r.0, ap (λ (l : List Move). placing q ∷ Sync ∷ l) r.1)

settled-next : (puts staged : List Put) (p : Put) (ends : Bool) → staged_after (staged_with ends staged p) puts ≡ [] →
    (puts ≡ []) ⊎ ((front : List Move) × (synced_moves_behind (staged_with ends staged p) puts ≡ front ++ Sync ∷ [])) →
    (front : List Move) × (writing p ∷ (synced_placings ends staged p ++ synced_moves_behind (staged_with ends staged p) puts) ≡ front ++ Sync ∷ [])
settled-next puts staged p ends whole (inr (front, is)) = (
  writing p ∷ (synced_placings ends staged p ++ front),
  ap (λ (l : List Move). writing p ∷ (synced_placings ends staged p ++ l)) is ∙ ap (λ (l : List Move). writing p ∷ l) (sym (append_assoc (synced_placings ends staged p) front (Sync ∷ []))),
)
settled-next puts staged p true whole (inl none) =
    let r = each-settled staged p in
    let block = Sync ∷ synced_each (staged ++ p ∷ []) in (
      writing p ∷ Sync ∷ r.0,
      ap (λ (l : List Put). writing p ∷ (block ++ synced_moves_behind [] l)) none ∙ ap (λ (l : List Move). writing p ∷ l) (append-nil block) ∙ ap (λ (l : List Move). writing p ∷ Sync ∷ l) r.1,
    )
settled-next puts staged p false whole (inl none) =
    absurd (not-empty staged p (subst (λ (l : List Put). staged_after (staged ++ p ∷ []) l ≡ []) none whole))

moves-settled : (puts staged : List Put) → staged_after staged puts ≡ [] → (puts ≡ []) ⊎ ((front : List Move) × (synced_moves_behind staged puts ≡ front ++ Sync ∷ []))
moves-settled [] staged whole = inl refl
moves-settled (p ∷ puts) staged whole = inr (settled-next puts staged p p.ends whole (moves-settled puts (staged_with p.ends staged p) whole))

pub whole-settled : (puts : List Put) → staged_after [] puts ≡ [] → IsSettled (synced_moves_of puts)
whole-settled puts whole = elim (moves-settled puts [] whole) [ inl none ↦ inl (ap synced_moves_of none) | inr some ↦ inr some ]

-- behind a moment at which a segment went
loss-reached : (files whole : Files) (renditions : List KeepingValue) (all items tail : List ItemValue) (before behind rest : List Move) (name : List ℕ) → all ≡ items ++ tail → MayBePut [] (puts_of items) →
    (w : WentBehind true renditions items before name) → other_moves (before ++ Remove name ∷ behind) ++ other_moves rest ≡ synced_moves_of (puts_of items) →
    disk_after files (Same files) (other_moves (before ++ Remove name ∷ behind)) whole → IsReached files whole (keeping_at renditions w.went.r).name w.went.number w.put all
loss-reached files whole renditions all items tail before behind rest name is fit w total at =
    let k = keeping_at renditions w.went.r in
    let put = puts_of w.put in
    let first = synced_moves_of put in
    let b = standing files first in
    let later = other_moves (Remove name ∷ behind) in
    let split : other_moves (before ++ Remove name ∷ behind) ≡ first ++ later = other_moves-append before (Remove name ∷ behind) ∙ ap (λ (l : List Move). l ++ later) w.moves in
    let puts : puts_of items ≡ put ++ puts_of w.rest = ap puts_of w.all ∙ puts-append w.put w.rest in
    let both : first ++ (later ++ other_moves rest) ≡ first ++ synced_moves_of (puts_of w.rest) =
    sym (append_assoc first later (other_moves rest)) ∙ ap (λ (l : List Move). l ++ other_moves rest) (sym split) ∙ total ∙ ap synced_moves_of puts
    ∙ moves-append true put (puts_of w.rest) w.whole in
    let tail_is : later ++ other_moves rest ≡ synced_moves_of (puts_of w.rest) = append_cancel_left first (later ++ other_moves rest) (synced_moves_of (puts_of w.rest)) both in
    let disk : Files → Type 0 = λ c. disk_after files (Same files) first c in
    let then_at = disk-append first later files (Same files) whole (subst (λ (l : List Move). disk_after files (Same files) l whole) split at) in
    let may : PowerLossMayLeave b disk (synced_moves_of (puts_of w.rest)) whole =
    subst (λ (l : List Move). PowerLossMayLeave b disk l whole) tail_is (at-loss b disk later (other_moves rest) whole then_at) in
    let same = loss-more (synced_moves_of (puts_of w.rest)) b disk (Same b) (settled-disk first files (whole-settled put w.whole)) whole may in
    let fits : MayBePut [] (put ++ puts_of w.rest) = subst (λ (l : List Put). MayBePut [] l) puts fit in
    let fit_rest : MayBePut [] (puts_of w.rest) = subst (λ (l : List Put). MayBePut l (puts_of w.rest)) w.whole (fit-behind [] put (puts_of w.rest) fits) in
    reached files b whole k.name w.went.number w.put w.rest tail all (is ∙ ap (λ (l : List ItemValue). l ++ tail) w.all) w.later
    (seen-when true files put (fit-front [] put (puts_of w.rest) fits) w.whole) (each-loss b (puts_of w.rest) fit_rest whole same)

-- wherever a loss of power stops the moves of some items
pub losses-unlisted : (made : List Move) (renditions : List KeepingValue) (all items rest : List ItemValue) → AreBlocks all → FramesFollow all → all ≡ items ++ rest →
    other_moves made ≡ synced_moves_of (puts_of items) → WentInTurn true made renditions items → EachLossOfPowerLeavesUnlisted made items renditions
losses-unlisted made renditions all items rest blocks follow is moves turn files left may =
    let fit : MayBePut [] (puts_of items) = given-fit all items rest blocks is in
    let from : AreFromHidden made = from-others made (subst AreFromHidden (sym moves) (when-from-hidden true (puts_of items) fit)) in
    let p = each-loss-pruned files made from left may in
    let total : other_moves p.front ++ other_moves p.rest ≡ synced_moves_of (puts_of items) = sym (other_moves-append p.front p.rest) ∙ ap other_moves (sym p.all) ∙ moves in
    let behind : (name : List ℕ) (at : IsRemovedAt p.front name) → WentBehind true renditions items at.before name =
    λ name at. turn at.before (at.behind ++ p.rest) name (p.all ∙ ap (λ (l : List Move). l ++ p.rest) at.all ∙ append_assoc at.before (Remove name ∷ at.behind) p.rest) at.shown in
    let gone : (name : List ℕ) → WasPruned p.front name → IsGone renditions name = λ name was. (behind name (removed-at p.front name was)).went in
    record {
      whole = p.whole;
      prefix = each-loss files (puts_of items) fit p.whole
          (subst (λ (l : List Move). PowerLossMayLeave files (Same files) l p.whole) total (at-loss files (Same files) (other_moves p.front) (other_moves p.rest) p.whole p.at));
      but = λ name. elim (p.but name) [
        | inl same ↦ inl same
        | inr (was, none) ↦
            let at = removed-at p.front name was in
            let w = behind name at in
            inr (
              missed renditions files left p.whole (WasPruned p.front) name w.put all w.went p.but gone follow w.whole w.unlisted
                  (loss-reached files p.whole renditions all items rest at.before at.behind p.rest name is fit w
                  (subst (λ (l : List Move). other_moves l ++ other_moves p.rest ≡ synced_moves_of (puts_of items)) at.all total)
                  (subst (λ (l : List Move). disk_after files (Same files) (other_moves l) p.whole) at.all p.at)),
              none,
            )
      ];
    }
