-- What a keeping outlet holds behind a put.
use Rattle.std.proofs.Common.{arith, ◌≡◌, ℕ, ◌+◌, Bool, true, List, [], ◌∷◌, ◌++◌, refl, sym, ap, ◌∙◌, subst, inl, append-nil}
use Rattle.folder.specs.Moves.{Move}
use Rattle.folder.specs.Pruning.{other_moves, pruned_names, prunings}
use Rattle.folder.specs.Syncing.{moves_when}
use Rattle.item_io.specs.Items.{ItemValue, SegmentItem, SegmentValue}
use Rattle.item_io.specs.FileNames.{is_named}
use Rattle.item_io.specs.Outlets.{BreaksOff, Grows, Held, with_items}
use Rattle.item_io.specs.FolderMoves.{FolderState, HoldsFiles, HoldsFilesUpTo, puts_of}
use Rattle.item_io.proofs.Growing.{Grows-nil}
use Rattle.keeping.specs.Keepings.{AreGone, AreNotedBy, AreTold, AreUnlisted, ComesInTurn, GoBehind, KeepingValue}
use Rattle.keeping.specs.Turns.{AreInTurn}
use Rattle.keeping.specs.Holding.{KeepingState, KeptBy, KeptUpTo}
use Rattle.keeping.proofs.Keeps.{all-gone-still, gone-behind}
use Rattle.keeping.proofs.Telling.{noted-all-same, same-all, told-behind, told-more}
use Rattle.keeping.proofs.Turns.{same-names, turns-put, turns-still}
use Rattle.keeping.proofs.Unlisting.{unlisted-behind, unlisted-put}

-- the files of an outlet
abbrev Holds : {F : Type 0} → (F → List Move) → FolderState F → Held → Type 0
Holds made f = HoldsFiles f.syncs (other_moves (made f.folder)) f.staged f.failures

-- a put was refused before anything was done
failed-files : (syncs : Bool) (made : List Move) (staged : _) (f : ℕ) (held : Held) → HoldsFiles syncs made staged f held → HoldsFiles syncs made staged (f + 1) held
failed-files syncs made staged f held h = record {
  marked = h.marked;
  next = h.next;
  more = h.more;
  made_are = h.made_are;
  stopped = h.stopped;
  none = λ none. absurd (omega (arith, none));
  staged_are = λ none. absurd (omega (arith, none));
}

pub refused : {F : Type 0} (made : F → List Move) (o : KeepingState F) (renditions : List KeepingValue) → renditions ≡ o.renditions →
    Grows (KeptBy made o) (KeptBy made (record { files = record o.files { failures = o.files.failures + 1 }; renditions = renditions; lags = o.lags; missed = o.missed })) []
refused {F} made o renditions is = record {
  follows = λ held h. (Grows-nil (KeptBy made (record { files = record o.files { failures = o.files.failures + 1 }; renditions = renditions; lags = o.lags; missed = o.missed }))).follows held (record {
    files = failed-files o.files.syncs (other_moves (made o.files.folder)) o.files.staged o.files.failures held h.files;
    told = λ none. absurd (omega (arith, none));
    gone = subst (AreGone (pruned_names (made o.files.folder))) (sym is) h.gone;
    unlisted = λ none. absurd (omega (arith, none));
    turns = λ none. absurd (omega (arith, none));
  });
}

pub refused-first : {F : Type 0} (made : F → List Move) (o : KeepingState F) (renditions : List KeepingValue) (item : ItemValue) → renditions ≡ o.renditions → o.files.failures ≡ 0 →
    BreaksOff (KeptBy made o) (KeptUpTo made (record { files = record o.files { failures = o.files.failures + 1 }; renditions = renditions; lags = o.lags; missed = o.missed })) [] item
refused-first {F} made o renditions item is well = record {
  follows = λ held h. subst (λ (items : List ItemValue). KeptUpTo made (record { files = record o.files { failures = o.files.failures + 1 }; renditions = renditions; lags = o.lags; missed = o.missed }) (record { before = held.before; items = items }) item)
      (sym (append-nil held.items)) (record {
        files = record { marked = h.files.marked; more = h.files.more; made_are = h.files.made_are; stopped = inl (inl (h.files.none well)) };
        turns = turns-still o.files.syncs (prunings (made o.files.folder)) held.items o.renditions renditions (same-all o.renditions renditions is) (h.turns well);
      });
}

pub refused-by : {F : Type 0} (made : F → List Move) (o : KeepingState F) (files : FolderState F) (renditions : List KeepingValue) (item : ItemValue) → files ≡ record o.files { failures = o.files.failures + 1 } →
    renditions ≡ o.renditions → o.files.failures ≡ 0 → BreaksOff (KeptBy made o) (KeptUpTo made (record { files = files; renditions = renditions; lags = o.lags; missed = o.missed })) [] item
refused-by {F} made o files renditions item counted is well =
    subst (λ (f : FolderState F). BreaksOff (KeptBy made o) (KeptUpTo made (record { files = f; renditions = renditions; lags = o.lags; missed = o.missed })) [] item) (sym counted)
    (refused-first made o renditions item is well)

-- a put failed in the folder
pub put-failed : {F : Type 0} (made : F → List Move) (o n : KeepingState F) (item : ItemValue) → AreNotedBy item o.renditions n.renditions →
    Grows (Holds made o.files) (Holds made n.files) [] → n.files.failures ≡ o.files.failures + 1 → prunings (made n.files.folder) ≡ prunings (made o.files.folder) →
    Grows (KeptBy made o) (KeptBy made n) []
put-failed made o n item noted grows more same = record {
  follows = λ held h. record {
    files = grows.follows held h.files;
    told = λ none. absurd (omega (arith, none, more));
    gone = all-gone-still (pruned_names (made o.files.folder)) (pruned_names (made n.files.folder)) o.renditions n.renditions (same-names (made o.files.folder) (made n.files.folder) same)
        (noted-all-same item o.renditions n.renditions noted) h.gone;
    unlisted = λ none. absurd (omega (arith, none, more));
    turns = λ none. absurd (omega (arith, none, more));
  };
}

pub put-broke : {F : Type 0} (made : F → List Move) (o n : KeepingState F) (item : ItemValue) → AreNotedBy item o.renditions n.renditions →
    BreaksOff (Holds made o.files) (HoldsFilesUpTo n.files.syncs (other_moves (made n.files.folder))) [] item → n.files.syncs ≡ o.files.syncs →
    prunings (made n.files.folder) ≡ prunings (made o.files.folder) → o.files.failures ≡ 0 → BreaksOff (KeptBy made o) (KeptUpTo made n) [] item
put-broke made o n item noted breaks synced same well = record {
  follows = λ held h. record {
    files = breaks.follows held h.files;
    turns = subst (λ (items : List ItemValue). AreInTurn n.files.syncs (prunings (made n.files.folder)) n.renditions items) (sym (append-nil held.items))
        (subst (λ (l : List (ℕ × List ℕ)). AreInTurn n.files.syncs l n.renditions held.items) (sym same)
        (turns-still n.files.syncs (prunings (made o.files.folder)) held.items o.renditions n.renditions (noted-all-same item o.renditions n.renditions noted)
        (subst (λ (t : Bool). AreInTurn t (prunings (made o.files.folder)) o.renditions held.items) (sym synced) (h.turns well))));
  };
}

-- an item was put, and segments went behind it
pub put-well : {F : Type 0} (made : F → List Move) (o m n : KeepingState F) (item : ItemValue) → AreNotedBy item o.renditions m.renditions → ComesInTurn item m.renditions → is_named item ≡ true →
    Grows (Holds made o.files) (Holds made m.files) (item ∷ []) → m.files.failures ≡ o.files.failures → m.files.syncs ≡ o.files.syncs → prunings (made m.files.folder) ≡ prunings (made o.files.folder) →
    GoBehind item m.renditions n.renditions (made m.files.folder) (made n.files.folder) → other_moves (made n.files.folder) ≡ other_moves (made m.files.folder) → n.files ≡ record m.files { folder = n.files.folder } →
    Grows (KeptBy made o) (KeptBy made n) (item ∷ [])
put-well {F} made o m n item noted turn named grows well synced same behind others is = record {
  follows = λ held h.
      let made_o = made o.files.folder in
      let made_m = made m.files.folder in
      let made_n = made n.files.folder in
      let failures : n.files.failures ≡ m.files.failures = ap (λ (f : FolderState F). f.failures) is in
      let put = grows.follows held h.files in
      let held_now : Holds made n.files (with_items held (item ∷ [])) =
      subst (λ (f : FolderState F). HoldsFiles f.syncs (other_moves made_n) f.staged f.failures (with_items held (item ∷ []))) (sym is)
      (subst (λ (moves : List Move). HoldsFiles m.files.syncs moves m.files.staged m.files.failures (with_items held (item ∷ []))) (sym others) put) in
      let before : n.files.failures ≡ 0 → o.files.failures ≡ 0 = λ none. omega (arith, none, failures, well) in
      let gone_m : AreGone (pruned_names made_m) m.renditions =
      all-gone-still (pruned_names made_o) (pruned_names made_m) o.renditions m.renditions (same-names made_o made_m same) (noted-all-same item o.renditions m.renditions noted) h.gone in
      record {
        files = held_now;
        told = λ none. told-behind item (held.items ++ item ∷ []) m.renditions n.renditions made_m made_n behind
            (told-more held.items item o.renditions m.renditions noted (h.told (before none)));
        gone = gone-behind item m.renditions n.renditions made_m made_n behind gone_m;
        unlisted = λ none. unlisted-behind item (held.items ++ item ∷ []) m.renditions n.renditions made_m made_n behind
            (unlisted-put item held.items o.renditions m.renditions named noted turn (h.unlisted (before none)));
        turns = λ none.
            let all = moves_when m.files.syncs (puts_of (held.items ++ item ∷ [])) in
            let none_m : m.files.failures ≡ 0 = sym failures ∙ none in
            let moves : other_moves made_m ≡ all = put.made_are ∙ ap (λ (l : List Move). all ++ l) (put.none none_m) ∙ append-nil all in
            let turns_o : AreInTurn m.files.syncs (prunings made_o) o.renditions held.items =
            subst (λ (t : Bool). AreInTurn t (prunings made_o) o.renditions held.items) (sym synced) (h.turns (before none)) in
            subst (λ (f : FolderState F). AreInTurn f.syncs (prunings made_n) n.renditions (held.items ++ item ∷ [])) (sym is)
            (turns-put m.files.syncs item held.items o.renditions m.renditions n.renditions made_o made_m made_n named noted turn same behind others moves gone_m (h.unlisted (before none)) turns_o);
      };
}

-- A file was taken for a segment: as if it were put, of which nothing is noted, and behind which nothing goes.
pub taken : {F : Type 0} (made : F → List Move) (o n : KeepingState F) (s : SegmentValue) → n.renditions ≡ o.renditions → is_named (SegmentItem s) ≡ true →
    Grows (Holds made o.files) (Holds made n.files) (SegmentItem s ∷ []) → n.files.failures ≡ o.files.failures → n.files.syncs ≡ o.files.syncs → prunings (made n.files.folder) ≡ prunings (made o.files.folder) →
    Grows (KeptBy made o) (KeptBy made n) (SegmentItem s ∷ [])
taken made o n s is named grows well synced same = put-well made o n n (SegmentItem s) is tt named grows well synced same (refl, refl) refl refl

-- None was taken: all is as it was.
pub untaken : {F : Type 0} (made : F → List Move) (o n : KeepingState F) → n.renditions ≡ o.renditions →
    Grows (Holds made o.files) (Holds made n.files) [] → n.files.failures ≡ o.files.failures → n.files.syncs ≡ o.files.syncs → prunings (made n.files.folder) ≡ prunings (made o.files.folder) →
    Grows (KeptBy made o) (KeptBy made n) []
untaken made o n is grows well synced same = record {
  follows = λ held h.
      let items_are : held.items ≡ held.items ++ [] = sym (append-nil held.items) in
      let before : n.files.failures ≡ 0 → o.files.failures ≡ 0 = λ none. sym well ∙ none in
      record {
        files = grows.follows held h.files;
        told = λ none. subst (AreTold n.renditions) items_are (subst (λ (l : List KeepingValue). AreTold l held.items) (sym is) (h.told (before none)));
        gone = all-gone-still (pruned_names (made o.files.folder)) (pruned_names (made n.files.folder)) o.renditions n.renditions (same-names (made o.files.folder) (made n.files.folder) same)
            (same-all o.renditions n.renditions is) h.gone;
        unlisted = λ none. subst (AreUnlisted n.renditions) items_are (subst (λ (l : List KeepingValue). AreUnlisted l held.items) (sym is) (h.unlisted (before none)));
        turns = λ none. subst (AreInTurn n.files.syncs (prunings (made n.files.folder)) n.renditions) items_are
            (subst (λ (l : List (ℕ × List ℕ)). AreInTurn n.files.syncs l n.renditions held.items) (sym same)
            (turns-still n.files.syncs (prunings (made o.files.folder)) held.items o.renditions n.renditions (same-all o.renditions n.renditions is)
            (subst (λ (t : Bool). AreInTurn t (prunings (made o.files.folder)) o.renditions held.items) (sym synced) (h.turns (before none)))));
      };
}
