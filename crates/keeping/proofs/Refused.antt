-- Where a put failed: wherever a process is stopped, no playlist in place lists what went.
use Rattle.std.specs.Prelude.{drop}
use Rattle.std.proofs.Common.{◌≡◌, ℕ, Bool, true, false, List, [], ◌∷◌, ◌++◌, get_or, refl, sym, ap, ap₂, ◌∙◌, subst, inl, inr, ◌⊎◌, append-nil, append_assoc}
use Rattle.std.proofs.lemmas.List.{append_cancel_left}
use Rattle.folder.specs.Moves.{Files, Move, Remove, Same, Shows, standing}
use Rattle.folder.specs.Kills.{KillMayLeave}
use Rattle.folder.specs.Puts.{MayBePut, Put, after_puts, staged_after}
use Rattle.folder.specs.PowerLoss.{PowerLossMayLeave, disk_after, synced_moves_of}
use Rattle.folder.specs.Prefixes.{HasPrefix, IsFailedPut}
use Rattle.folder.specs.Pruning.{AreAt, AreFromHidden, WasPruned, other_moves}
use Rattle.folder.specs.Syncing.{moves_when, placings_when}
use Rattle.folder.proofs.FromHidden.{at-kill}
use Rattle.folder.proofs.Kills.{staged_after-append}
use Rattle.folder.proofs.Losses.{each-killed-stop, each-lost-stop}
use Rattle.folder.proofs.OtherMoves.{other_moves-append}
use Rattle.folder.proofs.Pruning.{each-kill-pruned}
use Rattle.folder.proofs.PruningLosses.{each-loss-pruned}
use Rattle.folder.proofs.Stops.{each-stop}
use Rattle.item_io.specs.Blocks.{AreBlocks}
use Rattle.item_io.specs.Items.{ItemValue, FramesItem, MasterItem, MediaItem, SegmentItem}
use Rattle.item_io.specs.FolderMoves.{ends_block, put_of, puts_of}
use Rattle.item_io.proofs.Fitting.{given-fit, puts-append}
use Rattle.keeping.specs.Keepings.{AllBeginBehind, IsGone, KeepingValue, keeping_at}
use Rattle.keeping.specs.InPlace.{EachKillLeavesUnlisted, EachLossOfPowerLeavesUnlisted, FramesFollow, WentBehind, WentInTurn}
use Rattle.keeping.proofs.Losing.{at-loss, disk-append, loss-more, settled-disk, whole-settled}
use Rattle.keeping.proofs.Placed.{not-empty, open-last}
use Rattle.keeping.proofs.Stopping.{IsReached, IsRemovedAt, at-behind, fit-behind, fit-front, missed, moves-append, reached, removed-at, seen-when}
use Rattle.keeping.proofs.Unlisting.{all-begin-append}

split-last : (xs : List Put) → (xs ≡ []) ⊎ ((front : List Put) × (last : Put) × (xs ≡ front ++ last ∷ []))
split-last [] = inl refl
split-last (x ∷ xs) = elim (split-last xs) [ inl none ↦ inr ([], x, ap (λ (l : List Put). x ∷ l) none) | inr (front, last, is) ↦ inr (x ∷ front, last, ap (λ (l : List Put). x ∷ l) is) ]

same-fronts : (xs ys : List Put) (x y : Put) → xs ++ x ∷ [] ≡ ys ++ y ∷ [] → xs ≡ ys
same-fronts [] [] x y is = refl
same-fronts [] (b ∷ ys) x y is = absurd (not-empty ys y (sym (ap (λ (l : List Put). drop 1 l) is)))
same-fronts (a ∷ xs) [] x y is = absurd (not-empty xs x (ap (λ (l : List Put). drop 1 l) is))
same-fronts (a ∷ xs) (b ∷ ys) x y is = ap₂ (λ (p : Put) (l : List Put). p ∷ l) (ap (λ (l : List Put). get_or l 0 a) is) (same-fronts xs ys x y (ap (λ (l : List Put). drop 1 l) is))

-- a last file that doesn't end its block isn't in place
prefix-less : (files : Files) (puts : List Put) (p : Put) (left : Files) → p.ends ≡ false → HasPrefix files (puts ++ p ∷ []) left → HasPrefix files puts left
prefix-less files puts p left opens has =
    let done = has.blocks ++ (has.placed ++ has.due) in
    elim (split-last has.rest) [
      | inl none ↦
          let all : puts ++ p ∷ [] ≡ done = has.all ∙ ap (λ (l : List Put). done ++ l) none ∙ append-nil done in
          absurd (open-last puts p opens (ap (staged_after []) all ∙ has.whole_then))
      | inr (front, last, is) ↦ record {
        blocks = has.blocks;
        placed = has.placed;
        due = has.due;
        rest = front;
        all = same-fronts puts (done ++ front) p last (has.all ∙ ap (λ (l : List Put). done ++ l) is ∙ sym (append_assoc done front (last ∷ [])));
        shows = has.shows;
        gone = has.gone;
        beside = has.beside;
        apart = has.apart;
        whole = has.whole;
        whole_then = has.whole_then;
      }
    ]

-- what is left of further items, the last of which was refused
reached-more : (files b whole : Files) (name : List ℕ) (number : ℕ) (put items rest all : List ItemValue) (item : ItemValue) → AllBeginBehind name number (item ∷ []) → all ≡ (put ++ items) ++ item ∷ rest →
    AllBeginBehind name number items → Shows b (after_puts files (puts_of put)) → HasPrefix b (puts_of items ++ put_of item ∷ []) whole → IsReached files whole name number put all
reached-more files b whole name number put items rest all item one is later shows has =
    reached files b whole name number put (items ++ item ∷ []) rest all
    (is ∙ sym (append_assoc (put ++ items) (item ∷ []) rest) ∙ ap (λ (l : List ItemValue). l ++ rest) (append_assoc put items (item ∷ [])))
    (all-begin-append name number items (item ∷ []) later one) shows (subst (λ (l : List Put). HasPrefix b l whole) (sym (puts-append items (item ∷ []))) has)

reached-refused : (files b whole : Files) (name : List ℕ) (number : ℕ) (put items rest all : List ItemValue) (item : ItemValue) → all ≡ (put ++ items) ++ item ∷ rest → AllBeginBehind name number items →
    Shows b (after_puts files (puts_of put)) → HasPrefix b (puts_of items ++ put_of item ∷ []) whole → IsReached files whole name number put all
reached-refused files b whole name number put items rest all (SegmentItem s) is later shows has = reached-more files b whole name number put items rest all (SegmentItem s) tt is later shows has
reached-refused files b whole name number put items rest all (MediaItem p) is later shows has =
    reached files b whole name number put items (MediaItem p ∷ rest) all is later shows (prefix-less b (puts_of items) (put_of (MediaItem p)) whole refl has)
reached-refused files b whole name number put items rest all (FramesItem p) is later shows has = reached-more files b whole name number put items rest all (FramesItem p) tt is later shows has
reached-refused files b whole name number put items rest all (MasterItem text) is later shows has = reached-more files b whole name number put items rest all (MasterItem text) tt is later shows has

stop-when : (syncs : Bool) (files : Files) (puts : List Put) (next : Put) (more : List Move) → MayBePut [] (puts ++ next ∷ []) →
    IsFailedPut (placings_when syncs next.ends (staged_after [] puts) next) next more → (left : Files) → KillMayLeave files (moves_when syncs puts ++ more) left → HasPrefix files (puts ++ next ∷ []) left
stop-when true = each-killed-stop
stop-when false = each-stop

-- the items behind which one went, and those behind them with the one that was refused
record Parts (syncs : Bool) (put rest : List ItemValue) (item : ItemValue) (more : List Move) : Type 0 where
  pub fit_put : MayBePut [] (puts_of put)
  pub fit_rest : MayBePut [] (puts_of rest ++ put_of item ∷ [])
  pub stopped : IsFailedPut (placings_when syncs (ends_block item) (staged_after [] (puts_of rest)) (put_of item)) (put_of item) more

parts-of : (syncs : Bool) (items put rest : List ItemValue) (item : ItemValue) (more : List Move) → items ≡ put ++ rest → staged_after [] (puts_of put) ≡ [] → MayBePut [] (puts_of items ++ put_of item ∷ []) →
    IsFailedPut (placings_when syncs (ends_block item) (staged_after [] (puts_of items)) (put_of item)) (put_of item) more → Parts syncs put rest item more
parts-of syncs items put rest item more all whole fit stopped =
    let puts : puts_of items ≡ puts_of put ++ puts_of rest = ap puts_of all ∙ puts-append put rest in
    let fits : MayBePut [] (puts_of put ++ (puts_of rest ++ put_of item ∷ [])) =
    subst (λ (l : List Put). MayBePut [] l) (ap (λ (l : List Put). l ++ put_of item ∷ []) puts ∙ append_assoc (puts_of put) (puts_of rest) (put_of item ∷ [])) fit in
    let staged : staged_after [] (puts_of items) ≡ staged_after [] (puts_of rest) =
    ap (staged_after []) puts ∙ staged_after-append [] (puts_of put) (puts_of rest) ∙ ap (λ (l : List Put). staged_after l (puts_of rest)) whole in
    record {
      fit_put = fit-front [] (puts_of put) (puts_of rest ++ put_of item ∷ []) fits;
      fit_rest = subst (λ (l : List Put). MayBePut l (puts_of rest ++ put_of item ∷ [])) whole (fit-behind [] (puts_of put) (puts_of rest ++ put_of item ∷ []) fits);
      stopped = subst (λ (l : List Put). IsFailedPut (placings_when syncs (ends_block item) l (put_of item)) (put_of item) more) staged stopped;
    }

-- the moves behind those of the first items
tail-of : (syncs : Bool) (items put rest : List ItemValue) (more later behind : List Move) → items ≡ put ++ rest → staged_after [] (puts_of put) ≡ [] →
    (moves_when syncs (puts_of put) ++ later) ++ behind ≡ moves_when syncs (puts_of items) ++ more → later ++ behind ≡ moves_when syncs (puts_of rest) ++ more
tail-of syncs items put rest more later behind all whole total =
    let first = moves_when syncs (puts_of put) in
    let last = moves_when syncs (puts_of rest) in
    let items_are : moves_when syncs (puts_of items) ≡ first ++ last =
    ap (λ (l : List ItemValue). moves_when syncs (puts_of l)) all ∙ ap (moves_when syncs) (puts-append put rest) ∙ moves-append syncs (puts_of put) (puts_of rest) whole in
    append_cancel_left first (later ++ behind) (last ++ more)
    (sym (append_assoc first later behind) ∙ total ∙ ap (λ (l : List Move). l ++ more) items_are ∙ append_assoc first last more)

kill-refused : (syncs : Bool) (files whole : Files) (renditions : List KeepingValue) (all items last : List ItemValue) (item : ItemValue) (more before behind rest : List Move) (name : List ℕ) →
    all ≡ items ++ item ∷ last → MayBePut [] (puts_of items ++ put_of item ∷ []) → IsFailedPut (placings_when syncs (ends_block item) (staged_after [] (puts_of items)) (put_of item)) (put_of item) more →
    (w : WentBehind syncs renditions items before name) → other_moves (before ++ Remove name ∷ behind) ++ other_moves rest ≡ moves_when syncs (puts_of items) ++ more →
    AreAt files (other_moves (before ++ Remove name ∷ behind)) (other_moves rest) whole → IsReached files whole (keeping_at renditions w.went.r).name w.went.number w.put all
kill-refused syncs files whole renditions all items last item more before behind rest name is fit stopped w total at =
    let k = keeping_at renditions w.went.r in
    let put = puts_of w.put in
    let first = moves_when syncs put in
    let later = other_moves (Remove name ∷ behind) in
    let split : other_moves (before ++ Remove name ∷ behind) ≡ first ++ later = other_moves-append before (Remove name ∷ behind) ∙ ap (λ (l : List Move). l ++ later) w.moves in
    let tail : later ++ other_moves rest ≡ moves_when syncs (puts_of w.rest) ++ more =
    tail-of syncs items w.put w.rest more later (other_moves rest) w.all w.whole (ap (λ (l : List Move). l ++ other_moves rest) (sym split) ∙ total) in
    let then_at = at-behind files first later (other_moves rest) whole (subst (λ (l : List Move). AreAt files l (other_moves rest) whole) split at) in
    let may : KillMayLeave (standing files first) (moves_when syncs (puts_of w.rest) ++ more) whole =
    subst (λ (l : List Move). KillMayLeave (standing files first) l whole) tail (at-kill (standing files first) later (other_moves rest) whole then_at) in
    let parts = parts-of syncs items w.put w.rest item more w.all w.whole fit stopped in
    reached-refused files (standing files first) whole k.name w.went.number w.put w.rest last all item (is ∙ ap (λ (l : List ItemValue). l ++ item ∷ last) w.all) w.later
    (seen-when syncs files put parts.fit_put w.whole) (stop-when syncs (standing files first) (puts_of w.rest) (put_of item) more parts.fit_rest parts.stopped whole may)

loss-refused : (files whole : Files) (renditions : List KeepingValue) (all items end : List ItemValue) (item : ItemValue) (more before behind rest : List Move) (name : List ℕ) →
    all ≡ items ++ item ∷ end → MayBePut [] (puts_of items ++ put_of item ∷ []) → IsFailedPut (placings_when true (ends_block item) (staged_after [] (puts_of items)) (put_of item)) (put_of item) more →
    (w : WentBehind true renditions items before name) → other_moves (before ++ Remove name ∷ behind) ++ other_moves rest ≡ synced_moves_of (puts_of items) ++ more →
    disk_after files (Same files) (other_moves (before ++ Remove name ∷ behind)) whole → IsReached files whole (keeping_at renditions w.went.r).name w.went.number w.put all
loss-refused files whole renditions all items end item more before behind rest name is fit stopped w total at =
    let k = keeping_at renditions w.went.r in
    let put = puts_of w.put in
    let first = synced_moves_of put in
    let b = standing files first in
    let later = other_moves (Remove name ∷ behind) in
    let last = synced_moves_of (puts_of w.rest) ++ more in
    let split : other_moves (before ++ Remove name ∷ behind) ≡ first ++ later = other_moves-append before (Remove name ∷ behind) ∙ ap (λ (l : List Move). l ++ later) w.moves in
    let tail : later ++ other_moves rest ≡ last =
    tail-of true items w.put w.rest more later (other_moves rest) w.all w.whole (ap (λ (l : List Move). l ++ other_moves rest) (sym split) ∙ total) in
    let disk : Files → Type 0 = λ c. disk_after files (Same files) first c in
    let then_at = disk-append first later files (Same files) whole (subst (λ (l : List Move). disk_after files (Same files) l whole) split at) in
    let may : PowerLossMayLeave b disk last whole = subst (λ (l : List Move). PowerLossMayLeave b disk l whole) tail (at-loss b disk later (other_moves rest) whole then_at) in
    let same = loss-more last b disk (Same b) (settled-disk first files (whole-settled put w.whole)) whole may in
    let parts = parts-of true items w.put w.rest item more w.all w.whole fit stopped in
    reached-refused files b whole k.name w.went.number w.put w.rest end all item (is ∙ ap (λ (l : List ItemValue). l ++ item ∷ end) w.all) w.later
    (seen-when true files put parts.fit_put w.whole) (each-lost-stop b (puts_of w.rest) (put_of item) more parts.fit_rest parts.stopped whole same)

-- wherever a kill stops the moves of some items, and some of those of the next one, which was refused
pub kills-refused : (syncs : Bool) (made more : List Move) (renditions : List KeepingValue) (all items rest : List ItemValue) (item : ItemValue) → AreBlocks all → FramesFollow all → all ≡ items ++ item ∷ rest →
    other_moves made ≡ moves_when syncs (puts_of items) ++ more → IsFailedPut (placings_when syncs (ends_block item) (staged_after [] (puts_of items)) (put_of item)) (put_of item) more →
    AreFromHidden made → WentInTurn syncs made renditions items → EachKillLeavesUnlisted made (items ++ item ∷ []) renditions
kills-refused syncs made more renditions all items rest item blocks follow is moves stopped from turn files left may =
    let one : puts_of (items ++ item ∷ []) ≡ puts_of items ++ put_of item ∷ [] = puts-append items (item ∷ []) in
    let fit : MayBePut [] (puts_of items ++ put_of item ∷ []) =
    subst (λ (l : List Put). MayBePut [] l) one (given-fit all (items ++ item ∷ []) rest blocks (is ∙ sym (append_assoc items (item ∷ []) rest))) in
    let p = each-kill-pruned files made from left may in
    let total : other_moves p.front ++ other_moves p.rest ≡ moves_when syncs (puts_of items) ++ more = sym (other_moves-append p.front p.rest) ∙ ap other_moves (sym p.all) ∙ moves in
    let behind : (name : List ℕ) (at : IsRemovedAt p.front name) → WentBehind syncs renditions items at.before name =
    λ name at. turn at.before (at.behind ++ p.rest) name (p.all ∙ ap (λ (l : List Move). l ++ p.rest) at.all ∙ append_assoc at.before (Remove name ∷ at.behind) p.rest) at.shown in
    let gone : (name : List ℕ) → WasPruned p.front name → IsGone renditions name = λ name was. (behind name (removed-at p.front name was)).went in
    record {
      whole = p.whole;
      prefix = subst (λ (l : List Put). HasPrefix files l p.whole) (sym one)
          (stop-when syncs files (puts_of items) (put_of item) more fit stopped p.whole
          (subst (λ (l : List Move). KillMayLeave files l p.whole) total (at-kill files (other_moves p.front) (other_moves p.rest) p.whole p.at)));
      but = λ name. elim (p.but name) [
        | inl same ↦ inl same
        | inr (was, none) ↦
            let at = removed-at p.front name was in
            let w = behind name at in
            inr (
              missed renditions files left p.whole (WasPruned p.front) name w.put all w.went p.but gone follow w.whole w.unlisted
                  (kill-refused syncs files p.whole renditions all items rest item more at.before at.behind p.rest name is fit stopped w
                  (subst (λ (l : List Move). other_moves l ++ other_moves p.rest ≡ moves_when syncs (puts_of items) ++ more) at.all total)
                  (subst (λ (l : List Move). AreAt files (other_moves l) (other_moves p.rest) p.whole) at.all p.at)),
              none,
            )
      ];
    }

pub losses-refused : (made more : List Move) (renditions : List KeepingValue) (all items rest : List ItemValue) (item : ItemValue) → AreBlocks all → FramesFollow all → all ≡ items ++ item ∷ rest →
    other_moves made ≡ synced_moves_of (puts_of items) ++ more → IsFailedPut (placings_when true (ends_block item) (staged_after [] (puts_of items)) (put_of item)) (put_of item) more →
    AreFromHidden made → WentInTurn true made renditions items → EachLossOfPowerLeavesUnlisted made (items ++ item ∷ []) renditions
losses-refused made more renditions all items rest item blocks follow is moves stopped from turn files left may =
    let one : puts_of (items ++ item ∷ []) ≡ puts_of items ++ put_of item ∷ [] = puts-append items (item ∷ []) in
    let fit : MayBePut [] (puts_of items ++ put_of item ∷ []) =
    subst (λ (l : List Put). MayBePut [] l) one (given-fit all (items ++ item ∷ []) rest blocks (is ∙ sym (append_assoc items (item ∷ []) rest))) in
    let p = each-loss-pruned files made from left may in
    let total : other_moves p.front ++ other_moves p.rest ≡ synced_moves_of (puts_of items) ++ more = sym (other_moves-append p.front p.rest) ∙ ap other_moves (sym p.all) ∙ moves in
    let behind : (name : List ℕ) (at : IsRemovedAt p.front name) → WentBehind true renditions items at.before name =
    λ name at. turn at.before (at.behind ++ p.rest) name (p.all ∙ ap (λ (l : List Move). l ++ p.rest) at.all ∙ append_assoc at.before (Remove name ∷ at.behind) p.rest) at.shown in
    let gone : (name : List ℕ) → WasPruned p.front name → IsGone renditions name = λ name was. (behind name (removed-at p.front name was)).went in
    record {
      whole = p.whole;
      prefix = subst (λ (l : List Put). HasPrefix files l p.whole) (sym one)
          (each-lost-stop files (puts_of items) (put_of item) more fit stopped p.whole
          (subst (λ (l : List Move). PowerLossMayLeave files (Same files) l p.whole) total (at-loss files (Same files) (other_moves p.front) (other_moves p.rest) p.whole p.at)));
      but = λ name. elim (p.but name) [
        | inl same ↦ inl same
        | inr (was, none) ↦
            let at = removed-at p.front name was in
            let w = behind name at in
            inr (
              missed renditions files left p.whole (WasPruned p.front) name w.put all w.went p.but gone follow w.whole w.unlisted
                  (loss-refused files p.whole renditions all items rest item more at.before at.behind p.rest name is fit stopped w
                  (subst (λ (l : List Move). other_moves l ++ other_moves p.rest ≡ synced_moves_of (puts_of items) ++ more) at.all total)
                  (subst (λ (l : List Move). disk_after files (Same files) (other_moves l) p.whole) at.all p.at)),
              none,
            )
      ];
    }
