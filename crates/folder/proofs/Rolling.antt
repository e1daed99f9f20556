-- A block that was cut off is rolled forward.
use Rattle.std.proofs.Common.{◌≡◌, ℕ, Bool, true, false, List, [], ◌∷◌, ◌++◌, map, length, refl, sym, ap, ◌∙◌, subst, inl, inr, append_assoc, length-append, ◌+◌, arith, take, drop}
use Rattle.std.proofs.lemmas.List.{take-append-drop}
use Rattle.std.specs.Prelude.{is_some}
use Rattle.folder.specs.Moves.{Files, Looked, Move, Rename, Same, Shows, moved, standing}
use Rattle.folder.specs.Kills.{KillMayLeave}
use Rattle.folder.specs.Looks.{LooksAreTrue}
use Rattle.folder.specs.Puts.{Names, Put, after_puts, placing, put_names, staged_after}
use Rattle.folder.specs.Prefixes.{AreStaged, AreUnstaged, HasPrefix, HaveOwnParts}
use Rattle.folder.specs.StagedFiles.{staged_file_names, staged_names}
use Rattle.folder.specs.Rolling.{AreSeen, IsLook, IsRolled, IsRolledInPart, rolling_moves}
use Rattle.folder.specs.declared.staged_file.StagedFile.{StagedFile}
use Rattle.folder.proofs.Names.{Shows-trans}
use Rattle.folder.proofs.Placing.{AreStaged-placed, HasOwnPart-behind, IsInPart, Shows-after_puts, after_puts-append, placed, placing_killed, stays-gone}

-- all of those that are due are seen, and placed
due-rolled : (due : List Put) (a : Files) (seen : List Bool) → AreStaged a due → length seen ≡ length due → LooksAreTrue a (rolling_moves (map put_names due) seen) →
    standing a (rolling_moves (map put_names due) seen) ≡ standing a (map placing due)
due-rolled [] a seen beside same true_of = refl
due-rolled (p ∷ due) a [] beside same true_of = absurd (cc same)
due-rolled (p ∷ due) a (true ∷ seen) beside same true_of =
    due-rolled due (moved a (placing p)) seen (AreStaged-placed a p due beside.0 beside.2 beside.3) (omega (arith, same)) true_of.1
due-rolled (p ∷ due) a (false ∷ seen) beside same true_of =
    let there : false ≡ true = true_of.0 ∙ ap is_some beside.1 in
    absurd (cc there)

-- none of those placed is
block-rolled : (gone due : List Put) (a : Files) (seen : List Bool) → AreUnstaged a gone → AreStaged a due → length seen ≡ length (gone ++ due) →
    LooksAreTrue a (rolling_moves (map put_names (gone ++ due)) seen) → standing a (rolling_moves (map put_names (gone ++ due)) seen) ≡ standing a (map placing due)
block-rolled [] due a seen none beside same true_of = due-rolled due a seen beside same true_of
block-rolled (p ∷ gone) due a [] none beside same true_of = absurd (cc same)
block-rolled (p ∷ gone) due a (true ∷ seen) none beside same true_of =
    let there : true ≡ false = true_of.0 ∙ ap is_some none.0 in
    absurd (cc there)
block-rolled (p ∷ gone) due a (false ∷ seen) none beside same true_of = block-rolled gone due a seen none.1 beside (omega (arith, same)) true_of.1

pub rolls-forward : (files : Files) (puts : List Put) (left : Files) (has : HasPrefix files puts left) (seen : List Bool) →
    AreSeen left (has.placed ++ has.due) seen →
    Shows (standing left (rolling_moves (map put_names (has.placed ++ has.due)) seen)) (after_puts files (has.blocks ++ (has.placed ++ has.due)))
rolls-forward files puts left has seen looks =
    let now = standing left (map placing has.due) in
    let given = has.blocks ++ has.placed in
    let shown : Shows now (after_puts files (given ++ has.due)) =
    subst (λ (f : Files). Shows now f) (sym (after_puts-append files given has.due))
    (Shows-trans now (after_puts left has.due) (after_puts (after_puts files given) has.due) (placed left has.due has.beside)
    (Shows-after_puts left (after_puts files given) has.due has.shows)) in
    let regrouped : Shows now (after_puts files (has.blocks ++ (has.placed ++ has.due))) =
    subst (λ (l : List Put). Shows now (after_puts files l)) (append_assoc has.blocks has.placed has.due) shown in
    subst (λ (f : Files). Shows f (after_puts files (has.blocks ++ (has.placed ++ has.due)))) (sym (block-rolled has.placed has.due left seen has.gone has.beside looks.each looks.true_looks)) regrouped

-- one file more
rolling-more : (names : List (List ℕ × List ℕ)) (seen : List Bool) (n : List ℕ × List ℕ) (t : Bool) → length seen ≡ length names →
    rolling_moves (names ++ n ∷ []) (seen ++ t ∷ []) ≡ rolling_moves names seen ++ rolling_moves (n ∷ []) (t ∷ [])
rolling-more [] [] n t same = refl
rolling-more [] (u ∷ seen) n t same = absurd (cc same)
rolling-more (m ∷ names) [] n t same = absurd (cc same)
rolling-more (m ∷ names) (true ∷ seen) n t same = ap (λ (l : List Move). Looked m.0 true ∷ Rename m.0 m.1 ∷ l) (rolling-more names seen n t (omega (arith, same)))
rolling-more (m ∷ names) (false ∷ seen) n t same = ap (λ (l : List Move). Looked m.0 false ∷ l) (rolling-more names seen n t (omega (arith, same)))

names-more : (block : List StagedFile) (b : StagedFile) → staged_names (block ++ b ∷ []) ≡ staged_names block ++ staged_file_names b ∷ []
names-more [] b = refl
names-more (c ∷ block) b = ap (λ (l : List Names). staged_file_names c ∷ l) (names-more block b)

pub rolled-more : (made before now : List Move) (block : List StagedFile) (b : StagedFile) (t : Bool) → IsRolled made before (staged_names block) →
    now ≡ before ++ rolling_moves (staged_file_names b ∷ []) (t ∷ []) → IsRolled made now (staged_names (block ++ b ∷ []))
rolled-more made before now block b t so_far then_one =
    let names = staged_names block in
    let last = rolling_moves (staged_file_names b ∷ []) (t ∷ []) in
    let seen = so_far.seen in
    subst (λ (l : List Names). IsRolled made now l) (sym (names-more block b)) (record {
      seen = seen ++ t ∷ [];
      each = length-append seen (t ∷ []) ∙ ap (λ (n : ℕ). n + 1) so_far.each ∙ sym (length-append names (staged_file_names b ∷ []));
      made = then_one ∙ ap (λ (l : List Move). l ++ last) so_far.made ∙ append_assoc made (rolling_moves names seen) last
          ∙ ap (λ (l : List Move). made ++ l) (sym (rolling-more names seen (staged_file_names b) t so_far.each));
    })

names-behind : (rolled : List StagedFile) (b : StagedFile) (rest : List StagedFile) → staged_names (rolled ++ b ∷ rest) ≡ staged_names rolled ++ staged_file_names b ∷ staged_names rest
names-behind [] b rest = refl
names-behind (c ∷ rolled) b rest = ap (λ (l : List Names). staged_file_names c ∷ l) (names-behind rolled b rest)

-- the files before one, it, and those behind
one-of : (n : ℕ) (block : List StagedFile) (b : StagedFile) → take (n + 1) block ≡ take n block ++ b ∷ [] → block ≡ take n block ++ b ∷ drop (n + 1) block
one-of n block b next =
    sym (take-append-drop (n + 1) block) ∙ ap (λ (l : List StagedFile). l ++ drop (n + 1) block) next ∙ append_assoc (take n block) (b ∷ []) (drop (n + 1) block)

pub rolled-in-part : (made before now : List Move) (n : ℕ) (block : List StagedFile) (b : StagedFile) → take (n + 1) block ≡ take n block ++ b ∷ [] →
    IsRolled made before (staged_names (take n block)) → (looked : List Move) → now ≡ before ++ looked → IsLook (staged_file_names b) looked → IsRolledInPart made now (staged_names block)
rolled-in-part made before now n block b next so_far looked then_looked look = record {
  rolled = staged_names (take n block);
  next = staged_file_names b;
  rest = staged_names (drop (n + 1) block);
  all = ap staged_names (one-of n block b next) ∙ names-behind (take n block) b (drop (n + 1) block);
  seen = so_far.seen;
  each = so_far.each;
  looked = looked;
  look = look;
  made = then_looked ∙ ap (λ (l : List Move). l ++ looked) so_far.made;
}

KillMayLeave-now : (a : Files) (moves : List Move) (left : Files) → Same left a → KillMayLeave a moves left
KillMayLeave-now a [] left same = same
KillMayLeave-now a (m ∷ moves) left same = inl same

-- a kill while those that are due are placed
due-killed : (due : List Put) (a : Files) (seen : List Bool) (left : Files) → AreStaged a due → length seen ≡ length due → LooksAreTrue a (rolling_moves (map put_names due) seen) →
    KillMayLeave a (rolling_moves (map put_names due) seen) left → KillMayLeave a (map placing due) left
due-killed [] a seen left beside same true_of may = may
due-killed (p ∷ due) a [] left beside same true_of may = absurd (cc same)
due-killed (p ∷ due) a (true ∷ seen) left beside same true_of (inl now) = inl now
due-killed (p ∷ due) a (true ∷ seen) left beside same true_of (inr (inl cut)) = absurd cut
due-killed (p ∷ due) a (true ∷ seen) left beside same true_of (inr (inr (inl now))) = inl now
due-killed (p ∷ due) a (true ∷ seen) left beside same true_of (inr (inr (inr (inl cut)))) = absurd cut
due-killed (p ∷ due) a (true ∷ seen) left beside same true_of (inr (inr (inr (inr later)))) =
    inr (inr (due-killed due (moved a (placing p)) seen left (AreStaged-placed a p due beside.0 beside.2 beside.3) (omega (arith, same)) true_of.1 later))
due-killed (p ∷ due) a (false ∷ seen) left beside same true_of may =
    let there : false ≡ true = true_of.0 ∙ ap is_some beside.1 in
    absurd (cc there)

block-killed : (gone due : List Put) (a : Files) (seen : List Bool) (left : Files) → AreUnstaged a gone → AreStaged a due → length seen ≡ length (gone ++ due) →
    LooksAreTrue a (rolling_moves (map put_names (gone ++ due)) seen) → KillMayLeave a (rolling_moves (map put_names (gone ++ due)) seen) left → KillMayLeave a (map placing due) left
block-killed [] due a seen left none beside same true_of may = due-killed due a seen left beside same true_of may
block-killed (p ∷ gone) due a [] left none beside same true_of may = absurd (cc same)
block-killed (p ∷ gone) due a (true ∷ seen) left none beside same true_of may =
    let there : true ≡ false = true_of.0 ∙ ap is_some none.0 in
    absurd (cc there)
block-killed (p ∷ gone) due a (false ∷ seen) left none beside same true_of (inl now) = KillMayLeave-now a (map placing due) left now
block-killed (p ∷ gone) due a (false ∷ seen) left none beside same true_of (inr (inl cut)) = absurd cut
block-killed (p ∷ gone) due a (false ∷ seen) left none beside same true_of (inr (inr later)) = block-killed gone due a seen left none.1 beside (omega (arith, same)) true_of.1 later

-- what was placed before isn't beside its name later
all-gone : (gone due : List Put) (a left : Files) → HaveOwnParts gone due → AreStaged a due → AreUnstaged a gone → KillMayLeave a (map placing due) left → AreUnstaged left gone
all-gone [] due a left apart beside none may = tt
all-gone (p ∷ gone) due a left apart beside none may =
    (stays-gone a p due left apart.0 apart.1 beside none.0 may, all-gone gone due a left apart.2 beside none.1 may)

gone-more : (first second : List Put) (left : Files) → AreUnstaged left first → AreUnstaged left second → AreUnstaged left (first ++ second)
gone-more [] second left one two = two
gone-more (p ∷ first) second left one two = (one.0, gone-more first second left one.1 two)

apart-more : (first given due : List Put) → HaveOwnParts first (given ++ due) → HaveOwnParts given due → HaveOwnParts (first ++ given) due
apart-more [] given due one two = two
apart-more (p ∷ first) given due one two = (one.0, HasOwnPart-behind p given due one.1, apart-more first given due one.2 two)

pub rolling-killed : (files : Files) (puts : List Put) (left : Files) (has : HasPrefix files puts left) (seen : List Bool) →
    AreSeen left (has.placed ++ has.due) seen → (left_then : Files) → KillMayLeave left (rolling_moves (map put_names (has.placed ++ has.due)) seen) left_then →
    HasPrefix files puts left_then
rolling-killed files puts left has seen looks left_then may =
    let m : KillMayLeave left (map placing has.due) left_then = block-killed has.placed has.due left seen left_then has.gone has.beside looks.each looks.true_looks may in
    let is : IsInPart left has.due left_then = placing_killed left has.due left_then has.beside m in
    let before = has.blocks ++ has.placed in
    let regrouped : has.placed ++ has.due ≡ (has.placed ++ is.given) ++ is.due =
    ap (λ (l : List Put). has.placed ++ l) is.all ∙ sym (append_assoc has.placed is.given is.due) in
    record {
      blocks = has.blocks;
      placed = has.placed ++ is.given;
      due = is.due;
      rest = has.rest;
      all = has.all ∙ ap (λ (l : List Put). has.blocks ++ l ++ has.rest) regrouped;
      shows = subst (λ (l : List Put). Shows left_then (after_puts files l)) (append_assoc has.blocks has.placed is.given)
          (subst (λ (f : Files). Shows left_then f) (sym (after_puts-append files before is.given))
          (Shows-trans left_then (after_puts left is.given) (after_puts (after_puts files before) is.given) is.shows (Shows-after_puts left (after_puts files before) is.given has.shows)));
      gone = gone-more has.placed is.given left_then (all-gone has.placed has.due left left_then has.apart has.beside has.gone m) is.gone;
      beside = is.beside;
      apart = apart-more has.placed is.given is.due (subst (λ (l : List Put). HaveOwnParts has.placed l) is.all has.apart) is.apart;
      whole = has.whole;
      whole_then = ap (λ (l : List Put). staged_after [] (has.blocks ++ l)) (sym regrouped) ∙ has.whole_then;
    }
