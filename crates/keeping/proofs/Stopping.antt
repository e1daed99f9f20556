-- Wherever a process is stopped, no playlist in place lists what went.
use Rattle.std.proofs.Common.{◌≡◌, ◌≢◌, ℕ, Bool, true, false, List, [], ◌∷◌, ◌++◌, sym, ap, ◌∙◌, subst, inl, inr, append_assoc}
use Rattle.std.proofs.lemmas.List.{append_cancel_left}
use Rattle.folder.specs.Moves.{Files, Looked, Move, Remove, Rename, Shows, Sync, Write, is_hidden, standing}
use Rattle.folder.specs.Kills.{CutOff, KillMayLeave}
use Rattle.folder.specs.Puts.{MayBePut, Put, after_puts, moves_behind, staged_after, staged_with}
use Rattle.folder.specs.Prefixes.{HasPrefix}
use Rattle.folder.specs.PowerLoss.{synced_moves_behind}
use Rattle.folder.specs.Pruning.{AreAt, AreFromHidden, SameBut, WasPruned, other_moves}
use Rattle.folder.specs.Syncing.{moves_when}
use Rattle.folder.proofs.FromHidden.{at-kill, from-others, when-from-hidden}
use Rattle.folder.proofs.Kills.{all-there, standing-append}
use Rattle.folder.proofs.Names.{Shows-trans}
use Rattle.folder.proofs.Placing.{Shows-after_puts, after_puts-append}
use Rattle.folder.proofs.Losses.{all-there-synced, synced_moves_behind-append}
use Rattle.folder.proofs.OtherMoves.{other_moves-append}
use Rattle.folder.proofs.Pruning.{each-kill-pruned}
use Rattle.folder.proofs.Stops.{moves_behind-append}
use Rattle.item_io.specs.Blocks.{AreBlocks}
use Rattle.item_io.specs.Items.{ItemValue}
use Rattle.item_io.specs.FileNames.{segment_file_name}
use Rattle.item_io.specs.FolderMoves.{puts_of}
use Rattle.item_io.proofs.Fitting.{given-fit, puts-append}
use Rattle.item_io.proofs.Leaving.{kill-when}
use Rattle.keeping.specs.Keepings.{AllBeginBehind, IsGone, IsUnlisted, KeepingValue, keeping_at}
use Rattle.keeping.specs.InPlace.{EachKillLeavesUnlisted, FramesFollow, HasIn, IsMissed, WentBehind, WentInTurn, frames_file, media_file}
use Rattle.keeping.proofs.Placed.{all-begin-front, frames-in, media-in, puts-front, segment-frames, segment-media, shown-name}
use Rattle.keeping.proofs.Standing.{shown-in}

-- where a served file was removed
pub record IsRemovedAt (moves : List Move) (name : List ℕ) : Type 0 where
  pub before : List Move
  pub behind : List Move
  pub all : moves ≡ before ++ Remove name ∷ behind
  pub shown : is_hidden name ≡ false

one-earlier : (m : Move) (moves : List Move) (name : List ℕ) → IsRemovedAt moves name → IsRemovedAt (m ∷ moves) name
one-earlier m moves name at = record { before = m ∷ at.before; behind = at.behind; all = ap (λ (l : List Move). m ∷ l) at.all; shown = at.shown }

pub removed-at : (moves : List Move) (name : List ℕ) → WasPruned moves name → IsRemovedAt moves name
removed-at [] name was = absurd was
removed-at (Write n bytes ∷ moves) name was = one-earlier (Write n bytes) moves name (removed-at moves name was)
removed-at (Rename old new ∷ moves) name was = one-earlier (Rename old new) moves name (removed-at moves name was)
removed-at (Remove n ∷ moves) name (inl (is, shown)) = record {
  before = [];
  behind = moves;
  all = ap (λ (m : List ℕ). Remove m ∷ moves) is;
  shown = subst (λ (m : List ℕ). is_hidden m ≡ false) is shown;
}
removed-at (Remove n ∷ moves) name (inr was) = one-earlier (Remove n) moves name (removed-at moves name was)
removed-at (Looked n there ∷ moves) name was = one-earlier (Looked n there) moves name (removed-at moves name was)
removed-at (Sync ∷ moves) name was = one-earlier Sync moves name (removed-at moves name was)

-- behind the first moves
pub at-behind : (files : Files) (first front rest : List Move) (whole : Files) → AreAt files (first ++ front) rest whole → AreAt (standing files first) front rest whole
at-behind files first front [] whole at = λ name. at name ∙ ap (λ (f : Files). f name) (standing-append files first front)
at-behind files first front (m ∷ rest) whole (inl same) = inl (λ name. same name ∙ ap (λ (f : Files). f name) (standing-append files first front))
at-behind files first front (m ∷ rest) whole (inr cut) = inr (subst (λ (f : Files). CutOff f m whole) (standing-append files first front) cut)

pub moves-append : (syncs : Bool) (puts more : List Put) → staged_after [] puts ≡ [] → moves_when syncs (puts ++ more) ≡ moves_when syncs puts ++ moves_when syncs more
moves-append true puts more whole = synced_moves_behind-append [] puts more ∙ ap (λ (l : List Put). synced_moves_behind [] puts ++ synced_moves_behind l more) whole
moves-append false puts more whole = moves_behind-append [] puts more ∙ ap (λ (l : List Put). moves_behind [] puts ++ moves_behind l more) whole

pub fit-front : (staged puts more : List Put) → MayBePut staged (puts ++ more) → MayBePut staged puts
fit-front staged [] more fit = tt
fit-front staged (p ∷ puts) more fit = (fit.0, fit.1, fit-front (staged_with p.ends staged p) puts more fit.2)

pub fit-behind : (staged puts more : List Put) → MayBePut staged (puts ++ more) → MayBePut (staged_after staged puts) more
fit-behind staged [] more fit = fit
fit-behind staged (p ∷ puts) more fit = fit-behind (staged_with p.ends staged p) puts more fit.2

pub seen-when : (syncs : Bool) (files : Files) (puts : List Put) → MayBePut [] puts → staged_after [] puts ≡ [] → Shows (standing files (moves_when syncs puts)) (after_puts files puts)
seen-when true = all-there-synced
seen-when false = all-there

-- What processes see once all of some items are in place, and some of those behind them, which don't list a segment either.
pub record IsReached (files whole : Files) (name : List ℕ) (number : ℕ) (put all : List ItemValue) : Type 0 where
  pub given : List ItemValue
  pub rest : List ItemValue
  pub all_are : all ≡ (put ++ given) ++ rest
  pub later : AllBeginBehind name number given
  pub shows : Shows whole (after_puts files (puts_of (put ++ given)))

pub reached : (files b whole : Files) (name : List ℕ) (number : ℕ) (put items rest all : List ItemValue) → all ≡ (put ++ items) ++ rest → AllBeginBehind name number items →
    Shows b (after_puts files (puts_of put)) → HasPrefix b (puts_of items) whole → IsReached files whole name number put all
reached files b whole name number put items rest all is later shows has =
    let front = has.blocks ++ has.placed in
    let split : puts_of items ≡ front ++ (has.due ++ has.rest) = has.all ∙ append_assoc has.blocks (has.placed ++ has.due) has.rest
    ∙ ap (λ (l : List Put). has.blocks ++ l) (append_assoc has.placed has.due has.rest) ∙ sym (append_assoc has.blocks has.placed (has.due ++ has.rest)) in
    let f = puts-front items front (has.due ++ has.rest) split in
    let then_at = after_puts files (puts_of put) in
    record {
      given = f.0;
      rest = f.1 ++ rest;
      all_are = is ∙ ap (λ (l : List ItemValue). (put ++ l) ++ rest) f.2 ∙ ap (λ (l : List ItemValue). l ++ rest) (sym (append_assoc put f.0 f.1)) ∙ append_assoc (put ++ f.0) f.1 rest;
      later = all-begin-front name number f.0 f.1 (subst (AllBeginBehind name number) f.2 later);
      shows = subst (λ (l : List Put). Shows whole (after_puts files l)) (sym (puts-append put f.0))
          (subst (λ (g : Files). Shows whole g) (sym (after_puts-append files (puts_of put) (puts_of f.0)))
          (Shows-trans whole (after_puts b (puts_of f.0)) (after_puts then_at (puts_of f.0)) (subst (λ (l : List Put). Shows whole (after_puts b l)) f.3 has.shows)
          (Shows-after_puts b then_at (puts_of f.0) shows)));
    }

-- what is left has the same file as what would be left if nothing went, where that is no segment's
left-same : (renditions : List KeepingValue) (left whole : Files) (Went : List ℕ → Type 0) (file : List ℕ) (Is : List ℕ → Type 0) → ((name : List ℕ) (number : ℕ) → segment_file_name name number ≢ file) →
    SameBut Went left whole → ((name : List ℕ) → Went name → IsGone renditions name) → HasIn whole file Is → HasIn left file Is
left-same renditions left whole Went file Is apart but gone has =
    let same : left file ≡ whole file = elim (but file) [
      | inl same ↦ same
      | inr (went, none) ↦ let g = gone file went in absurd (apart (keeping_at renditions g.r).name g.number (sym g.named))
    ] in
    record { text = has.text; in_place = same ∙ has.in_place; so = has.so }

-- a segment that went is listed by no playlist in place
pub missed : (renditions : List KeepingValue) (files left whole : Files) (Went : List ℕ → Type 0) (name : List ℕ) (put all : List ItemValue) (went : IsGone renditions name) →
    SameBut Went left whole → ((n : List ℕ) → Went n → IsGone renditions n) → FramesFollow all → staged_after [] (puts_of put) ≡ [] → IsUnlisted (keeping_at renditions went.r).name went.number put →
    IsReached files whole (keeping_at renditions went.r).name went.number put all → IsMissed renditions left name
missed renditions files left whole Went name put all went but gone follow ends u r =
    let own = (keeping_at renditions went.r).name in
    record {
      went = went;
      unlisted = left-same renditions left whole Went (media_file own) _ (λ n number. segment-media n own number) but gone
          (shown-in (media_file own) _ whole (after_puts files (puts_of (put ++ r.given))) (shown-name own _ u.served) r.shows (media-in own went.number put r.given u r.later files));
      frames = left-same renditions left whole Went (frames_file own) _ (λ n number. segment-frames n own number) but gone
          (shown-in (frames_file own) _ whole (after_puts files (puts_of (put ++ r.given))) (shown-name own _ u.served) r.shows
          (frames-in own went.number put r.given r.rest (subst FramesFollow r.all_are follow) ends u r.later files));
    }

-- behind a moment at which a segment went
kill-reached : (syncs : Bool) (files whole : Files) (renditions : List KeepingValue) (all items tail : List ItemValue) (before behind rest : List Move) (name : List ℕ) → all ≡ items ++ tail → MayBePut [] (puts_of items) →
    (w : WentBehind syncs renditions items before name) → other_moves (before ++ Remove name ∷ behind) ++ other_moves rest ≡ moves_when syncs (puts_of items) →
    AreAt files (other_moves (before ++ Remove name ∷ behind)) (other_moves rest) whole → IsReached files whole (keeping_at renditions w.went.r).name w.went.number w.put all
kill-reached syncs files whole renditions all items tail before behind rest name is fit w total at =
    let k = keeping_at renditions w.went.r in
    let put = puts_of w.put in
    let first = moves_when syncs put in
    let later = other_moves (Remove name ∷ behind) in
    let split : other_moves (before ++ Remove name ∷ behind) ≡ first ++ later = other_moves-append before (Remove name ∷ behind) ∙ ap (λ (l : List Move). l ++ later) w.moves in
    let puts : puts_of items ≡ put ++ puts_of w.rest = ap puts_of w.all ∙ puts-append w.put w.rest in
    let both : first ++ (later ++ other_moves rest) ≡ first ++ moves_when syncs (puts_of w.rest) =
    sym (append_assoc first later (other_moves rest)) ∙ ap (λ (l : List Move). l ++ other_moves rest) (sym split) ∙ total ∙ ap (moves_when syncs) puts
    ∙ moves-append syncs put (puts_of w.rest) w.whole in
    let tail_is : later ++ other_moves rest ≡ moves_when syncs (puts_of w.rest) = append_cancel_left first (later ++ other_moves rest) (moves_when syncs (puts_of w.rest)) both in
    let then_at = at-behind files first later (other_moves rest) whole (subst (λ (l : List Move). AreAt files l (other_moves rest) whole) split at) in
    let may : KillMayLeave (standing files first) (moves_when syncs (puts_of w.rest)) whole =
    subst (λ (l : List Move). KillMayLeave (standing files first) l whole) tail_is (at-kill (standing files first) later (other_moves rest) whole then_at) in
    let fits : MayBePut [] (put ++ puts_of w.rest) = subst (λ (l : List Put). MayBePut [] l) puts fit in
    let fit_rest : MayBePut [] (puts_of w.rest) = subst (λ (l : List Put). MayBePut l (puts_of w.rest)) w.whole (fit-behind [] put (puts_of w.rest) fits) in
    reached files (standing files first) whole k.name w.went.number w.put w.rest tail all (is ∙ ap (λ (l : List ItemValue). l ++ tail) w.all) w.later
    (seen-when syncs files put (fit-front [] put (puts_of w.rest) fits) w.whole) (kill-when syncs (standing files first) (puts_of w.rest) fit_rest whole may)

-- wherever a kill stops the moves of some items
pub kills-unlisted : (syncs : Bool) (made : List Move) (renditions : List KeepingValue) (all items rest : List ItemValue) → AreBlocks all → FramesFollow all → all ≡ items ++ rest →
    other_moves made ≡ moves_when syncs (puts_of items) → WentInTurn syncs made renditions items → EachKillLeavesUnlisted made items renditions
kills-unlisted syncs made renditions all items rest blocks follow is moves turn files left may =
    let fit : MayBePut [] (puts_of items) = given-fit all items rest blocks is in
    let from : AreFromHidden made = from-others made (subst AreFromHidden (sym moves) (when-from-hidden syncs (puts_of items) fit)) in
    let p = each-kill-pruned files made from left may in
    let total : other_moves p.front ++ other_moves p.rest ≡ moves_when syncs (puts_of items) = sym (other_moves-append p.front p.rest) ∙ ap other_moves (sym p.all) ∙ moves in
    let behind : (name : List ℕ) (at : IsRemovedAt p.front name) → WentBehind syncs renditions items at.before name =
    λ name at. turn at.before (at.behind ++ p.rest) name (p.all ∙ ap (λ (l : List Move). l ++ p.rest) at.all ∙ append_assoc at.before (Remove name ∷ at.behind) p.rest) at.shown in
    let gone : (name : List ℕ) → WasPruned p.front name → IsGone renditions name = λ name was. (behind name (removed-at p.front name was)).went in
    record {
      whole = p.whole;
      prefix = kill-when syncs files (puts_of items) fit p.whole (subst (λ (l : List Move). KillMayLeave files l p.whole) total (at-kill files (other_moves p.front) (other_moves p.rest) p.whole p.at));
      but = λ name. elim (p.but name) [
        | inl same ↦ inl same
        | inr (was, none) ↦
            let at = removed-at p.front name was in
            let w = behind name at in
            inr (
              missed renditions files left p.whole (WasPruned p.front) name w.put all w.went p.but gone follow w.whole w.unlisted
                  (kill-reached syncs files p.whole renditions all items rest at.before at.behind p.rest name is fit w
                  (subst (λ (l : List Move). other_moves l ++ other_moves p.rest ≡ moves_when syncs (puts_of items)) at.all total)
                  (subst (λ (l : List Move). AreAt files (other_moves l) (other_moves p.rest) p.whole) at.all p.at)),
              none,
            )
      ];
    }
