-- What a kill leaves of blocks.
use Rattle.std.proofs.Common.{◌≡◌, Bool, true, false, Some, None, List, [], ◌∷◌, ◌++◌, map, refl, sym, ap, ◌∙◌, subst, inl, inr, ◌⊎◌, append_assoc}
use Rattle.folder.specs.Moves.{Files, Move, Shows, moved, standing, with_file}
use Rattle.folder.specs.Kills.{CutOff, KillMayLeave}
use Rattle.folder.specs.Puts.{IsServed, MayBePut, Put, after_puts, moves_behind, moves_of, placing, placings, staged_after, staged_with, writing}
use Rattle.folder.specs.Prefixes.{AreStaged, HasPrefix}
use Rattle.folder.proofs.Names.{at_name, Shows-hidden, Shows-trans, Shows-Same}
use Rattle.folder.proofs.Placing.{AreStaged-written, AreStaged-more, Shows-after_puts, after_puts-append, placed, IsInPart, placing_killed}

-- during the first moves, or behind all of them
pub KillMayLeave-append : (a : Files) (first second : List Move) (left : Files) → KillMayLeave a (first ++ second) left → KillMayLeave a first left ⊎ KillMayLeave (standing a first) second left
KillMayLeave-append a [] second left may = inr may
KillMayLeave-append a (m ∷ first) second left (inl same) = inl (inl same)
KillMayLeave-append a (m ∷ first) second left (inr (inl cut)) = inl (inr (inl cut))
KillMayLeave-append a (m ∷ first) second left (inr (inr later)) =
    elim (KillMayLeave-append (moved a m) first second left later) [ inl there ↦ inl (inr (inr there)) | inr behind ↦ inr behind ]

pub staged_after-append : (staged puts more : List Put) → staged_after staged (puts ++ more) ≡ staged_after (staged_after staged puts) more
staged_after-append staged [] more = refl
staged_after-append staged (p ∷ puts) more = staged_after-append (staged_with p.ends staged p) puts more

-- nothing more is in place
pub nothing_more : (a : Files) (puts : List Put) (left : Files) → Shows left a → HasPrefix a puts left
nothing_more a puts left shows = record { blocks = []; placed = []; due = []; rest = puts; all = refl; shows = shows; gone = tt; beside = tt; apart = tt; whole = refl; whole_then = refl }

-- a prefix of a prefix
pub HasPrefix-more : (files : Files) (puts more : List Put) (left : Files) → HasPrefix files puts left → HasPrefix files (puts ++ more) left
HasPrefix-more files puts more left has = record {
  blocks = has.blocks;
  placed = has.placed;
  due = has.due;
  rest = has.rest ++ more;
  all = ap (λ (l : List Put). l ++ more) has.all ∙ append_assoc (has.blocks ++ (has.placed ++ has.due)) has.rest more;
  shows = has.shows;
  gone = has.gone;
  beside = has.beside;
  apart = has.apart;
  whole = has.whole;
  whole_then = has.whole_then;
}

-- a write that is cut off isn't seen
cut_off : (a : Files) (p : Put) (left : Files) → IsServed p → CutOff a (writing p) left → Shows left a
cut_off a p left served (inl (front, rest, whole, same)) =
    Shows-Same left (with_file a p.part (Some front)) a same (Shows-hidden a p.part (Some front) served.hidden)
cut_off a p left served (inr same) = Shows-Same left (with_file a p.part None) a same (Shows-hidden a p.part None served.hidden)

-- none of those staged ends a block
abbrev pub AreOpen : List Put → Type 0
AreOpen [] = Unit {0}
AreOpen (p ∷ puts) = (p.ends ≡ false) × AreOpen puts

pub AreOpen-more : (p : Put) (puts : List Put) → AreOpen puts → p.ends ≡ false → AreOpen (puts ++ p ∷ [])
AreOpen-more p [] open_ones not_last = (not_last, tt)
AreOpen-more p (q ∷ puts) open_ones not_last = (open_ones.0, AreOpen-more p puts open_ones.1 not_last)

-- the last of a block leaves nothing staged
pub ends_all : (before staged : List Put) (p : Put) → AreOpen staged → p.ends ≡ true → staged_after before (staged ++ p ∷ []) ≡ []
ends_all before [] p open_ones last = rw last refl
ends_all before (q ∷ staged) p open_ones last = ends_all (staged_with q.ends before q) staged p open_ones.1 last

abbrev pub Claim : List Put → Type 0
Claim puts = (a : Files) (staged : List Put) → AreStaged a staged → AreOpen staged → MayBePut staged puts → (left : Files) → KillMayLeave a (moves_behind staged puts) left → HasPrefix a (staged ++ puts) left

-- what is seen before a file is written beside its name is seen behind it
pub seen_before : (a : Files) (p : Put) (puts all : List Put) (left : Files) → IsServed p → all ≡ puts → HasPrefix (with_file a p.part (Some p.bytes)) all left → HasPrefix a puts left
seen_before a p puts all left served same has = record {
  blocks = has.blocks;
  placed = has.placed;
  due = has.due;
  rest = has.rest;
  all = sym same ∙ has.all;
  shows = Shows-trans left (after_puts (with_file a p.part (Some p.bytes)) (has.blocks ++ has.placed)) (after_puts a (has.blocks ++ has.placed)) has.shows
      (Shows-after_puts (with_file a p.part (Some p.bytes)) a (has.blocks ++ has.placed) (Shows-hidden a p.part (Some p.bytes) served.hidden));
  gone = has.gone;
  beside = has.beside;
  apart = has.apart;
  whole = has.whole;
  whole_then = has.whole_then;
}

-- within the block that is placed
pub in_block : (a : Files) (block puts : List Put) (left : Files) → staged_after [] block ≡ [] → IsInPart a block left → HasPrefix a (block ++ puts) left
in_block a block puts left whole is = record {
  blocks = [];
  placed = is.given;
  due = is.due;
  rest = puts;
  all = ap (λ (l : List Put). l ++ puts) is.all;
  shows = is.shows;
  gone = is.gone;
  beside = is.beside;
  apart = is.apart;
  whole = refl;
  whole_then = subst (λ (l : List Put). staged_after [] l ≡ []) is.all whole;
}

-- behind a block
pub behind_block : (a b : Files) (block puts : List Put) (left : Files) → staged_after [] block ≡ [] → Shows b (after_puts a block) → HasPrefix b puts left → HasPrefix a (block ++ puts) left
behind_block a b block puts left whole shows has =
    let given = has.blocks ++ has.placed in
    let next = has.placed ++ has.due in
    record {
      blocks = block ++ has.blocks;
      placed = has.placed;
      due = has.due;
      rest = has.rest;
      all = ap (λ (l : List Put). block ++ l) has.all ∙ sym (append_assoc block (has.blocks ++ next) has.rest)
          ∙ ap (λ (l : List Put). l ++ has.rest) (sym (append_assoc block has.blocks next));
      shows = subst (λ (l : List Put). Shows left (after_puts a l)) (sym (append_assoc block has.blocks has.placed))
          (subst (λ (files : Files). Shows left files) (sym (after_puts-append a block given))
          (Shows-trans left (after_puts b given) (after_puts (after_puts a block) given) has.shows (Shows-after_puts b (after_puts a block) given shows)));
      gone = has.gone;
      beside = has.beside;
      apart = has.apart;
      whole = staged_after-append [] block has.blocks ∙ ap (λ (l : List Put). staged_after l has.blocks) whole ∙ has.whole;
      whole_then = ap (staged_after []) (append_assoc block has.blocks next) ∙ staged_after-append [] block (has.blocks ++ next)
          ∙ ap (λ (l : List Put). staged_after l (has.blocks ++ next)) whole ∙ has.whole_then;
    }

-- behind the write of a file beside its name
behind_write : (puts : List Put) → Claim puts → (a : Files) (staged : List Put) (p : Put) (ends : Bool) → p.ends ≡ ends → AreStaged a (staged ++ p ∷ []) → AreOpen staged →
    MayBePut (staged_with ends staged p) puts → (left : Files) → KillMayLeave a (placings ends staged p ++ moves_behind (staged_with ends staged p) puts) left → HasPrefix a ((staged ++ p ∷ []) ++ puts) left
behind_write puts later a staged p false not_last beside open_ones fit left may = later a (staged ++ p ∷ []) beside (AreOpen-more p staged open_ones not_last) fit left may
behind_write puts later a staged p true last beside open_ones fit left may =
    let block = staged ++ p ∷ [] in
    let whole = ends_all [] staged p open_ones last in
    elim (KillMayLeave-append a (map placing block) (moves_behind [] puts) left may) [
      | inl within ↦ in_block a block puts left whole (placing_killed a block left beside within)
      | inr behind ↦ behind_block a (standing a (map placing block)) block puts left whole (placed a block beside)
          (later (standing a (map placing block)) [] tt tt fit left behind)
    ]

step : (p : Put) (puts : List Put) → Claim puts → (a : Files) (staged : List Put) → AreStaged a staged → AreOpen staged → MayBePut staged (p ∷ puts) → (left : Files) →
    KillMayLeave a (moves_behind staged (p ∷ puts)) left → HasPrefix a (staged ++ p ∷ puts) left
step p puts later a staged beside open_ones fit left (inl same) = nothing_more a (staged ++ p ∷ puts) left (λ name shown. same name)
step p puts later a staged beside open_ones fit left (inr (inl cut)) = nothing_more a (staged ++ p ∷ puts) left (cut_off a p left fit.0 cut)
step p puts later a staged beside open_ones fit left (inr (inr behind)) =
    let written = with_file a p.part (Some p.bytes) in
    let now = AreStaged-more written p staged (AreStaged-written a p (Some p.bytes) staged fit.1 beside) fit.0 (at_name a p.part (Some p.bytes)) fit.1 in
    seen_before a p (staged ++ p ∷ puts) ((staged ++ p ∷ []) ++ puts) left fit.0 (append_assoc staged (p ∷ []) puts)
    (behind_write puts later written staged p p.ends refl now open_ones fit.2 left behind)

pub kills : (puts : List Put) → Claim puts
kills [] = λ a staged beside open_ones fit left same. nothing_more a (staged ++ []) left (λ name shown. same name)
kills (p ∷ puts) = step p puts (kills puts)

pub each-kill : (files : Files) (puts : List Put) → MayBePut [] puts → (left : Files) → KillMayLeave files (moves_of puts) left → HasPrefix files puts left
each-kill files puts fit left may = kills puts files [] tt tt fit left may

pub standing-append : (a : Files) (first second : List Move) → standing a (first ++ second) ≡ standing (standing a first) second
standing-append a [] second = refl
standing-append a (m ∷ first) second = standing-append (moved a m) first second

-- behind all moves: where nothing is staged, all is in place
abbrev pub AllThere : List Put → Type 0
AllThere puts = (a : Files) (staged : List Put) → AreStaged a staged → MayBePut staged puts → staged_after staged puts ≡ [] →
    Shows (standing a (moves_behind staged puts)) (after_puts a (staged ++ puts))

behind_last : (puts : List Put) → AllThere puts → (a : Files) (staged : List Put) (p : Put) (ends : Bool) → AreStaged a (staged ++ p ∷ []) →
    MayBePut (staged_with ends staged p) puts → staged_after (staged_with ends staged p) puts ≡ [] →
    Shows (standing a (placings ends staged p ++ moves_behind (staged_with ends staged p) puts)) (after_puts a ((staged ++ p ∷ []) ++ puts))
behind_last puts later a staged p false beside fit whole = later a (staged ++ p ∷ []) beside fit whole
behind_last puts later a staged p true beside fit whole =
    let block = staged ++ p ∷ [] in
    let now = standing a (map placing block) in
    let shown : Shows (standing now (moves_behind [] puts)) (after_puts (after_puts a block) puts) =
    Shows-trans (standing now (moves_behind [] puts)) (after_puts now puts) (after_puts (after_puts a block) puts)
    (later now [] tt fit whole) (Shows-after_puts now (after_puts a block) puts (placed a block beside)) in
    let as_all : Shows (standing now (moves_behind [] puts)) (after_puts a (block ++ puts)) =
    subst (λ (files : Files). Shows (standing now (moves_behind [] puts)) files) (sym (after_puts-append a block puts)) shown in
    subst (λ (files : Files). Shows files (after_puts a (block ++ puts))) (sym (standing-append a (map placing block) (moves_behind [] puts))) as_all

there_step : (p : Put) (puts : List Put) → AllThere puts → (a : Files) (staged : List Put) → AreStaged a staged → MayBePut staged (p ∷ puts) → staged_after staged (p ∷ puts) ≡ [] →
    Shows (standing a (moves_behind staged (p ∷ puts))) (after_puts a (staged ++ p ∷ puts))
there_step p puts later a staged beside fit whole =
    let written = with_file a p.part (Some p.bytes) in
    let now = AreStaged-more written p staged (AreStaged-written a p (Some p.bytes) staged fit.1 beside) fit.0 (at_name a p.part (Some p.bytes)) fit.1 in
    let all = standing a (moves_behind staged (p ∷ puts)) in
    let behind : Shows all (after_puts written ((staged ++ p ∷ []) ++ puts)) = behind_last puts later written staged p p.ends now fit.2 whole in
    let same : Shows all (after_puts written (staged ++ p ∷ puts)) = subst (λ (l : List Put). Shows all (after_puts written l)) (append_assoc staged (p ∷ []) puts) behind in
    Shows-trans all (after_puts written (staged ++ p ∷ puts)) (after_puts a (staged ++ p ∷ puts)) same
    (Shows-after_puts written a (staged ++ p ∷ puts) (Shows-hidden a p.part (Some p.bytes) (fit.0).hidden))

there_all : (puts : List Put) → AllThere puts
there_all [] = λ a staged beside fit whole. subst (λ (l : List Put). Shows a (after_puts a (l ++ []))) (sym whole) (λ name shown. refl)
there_all (p ∷ puts) = there_step p puts (there_all puts)

pub all-there : (files : Files) (puts : List Put) → MayBePut [] puts → staged_after [] puts ≡ [] → Shows (standing files (moves_of puts)) (after_puts files puts)
all-there files puts fit whole = there_all puts files [] tt fit whole
