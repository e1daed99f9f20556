-- Behind a run that ended well each rendition is cleared.
use Rattle.std.specs.Prelude.{Err, IfOk, Ok, OnOk, Result, ◌==◌, ◌&&◌, eqb, not, replicate}
use Rattle.std.specs.List.{Contains}
use Rattle.std.proofs.Common.{arith, ◌≡◌, ◌∙◌, ℕ, zero, suc, ◌<◌, Bool, true, false, List, [], ◌∷◌, ◌++◌, length, refl, sym, ap, subst, inl, inr}
use Rattle.std.proofs.lemmas.Bool.Decides.{eqb_tells}
use Rattle.std.proofs.lemmas.List.{get_or-set_same}
use Rattle.folder.specs.Moves.{Move}
use Rattle.item_io.specs.Items.{FramesItem, ItemValue, PlaylistValue}
use Rattle.item_io.specs.Outlets.{Held}
use Rattle.item_io.specs.Views.{SourceView}
use Rattle.live_board.specs.Snapshots.{SnapshotFacts}
use Rattle.live_board.specs.Counts.{counts_shown}
use Rattle.ladder_items.specs.declared.report.Report.{Report}
use Rattle.ladder_items.specs.Ladder.{Ladder, rendition_at}
use Rattle.ladder_items.specs.Items.{Part, no_part, part_at, playlist_of, shown_of}
use Rattle.ladder_items.specs.Shown.{frames_text}
use Rattle.ladder_items.specs.Packed.{IsPacked}
use Rattle.ladder_items.specs.Runs.{run_of}
use Rattle.ladder_items.specs.Weave.{AreLegal, End, Event, Row, after, after_all, block, blocks, closed_part, grown, none_of}
use Rattle.ladder_items.proofs.Elsewhere.{after-other, some-at}
use Rattle.rounds.specs.Shown.{Fits, IsPackedShown}
use Rattle.keeping.specs.Clearing.{AreCleared, IsCleared}
use Rattle.keeping.specs.Holding.{KeepingState, KeptBy}
use Rattle.keeping.specs.Keepings.{KeepingValue, keeping_at, texts_of, with_text}
use Rattle.commands.specs.declared.packing_fault.LadderPackingFault.{LadderPackingFault}
use Rattle.removal.specs.Removing.{AreAllCleared}
use Rattle.removal.specs.Since.{since_view}
use Rattle.removal.proofs.Since.{cleared-grown}

-- a rendition's playlist ends a block, and behind it none of its playlists tells a segment more
record EndsLast (items : List ItemValue) (r : ℕ) : Type 0 where
  front : List ItemValue
  rest : List ItemValue
  last : PlaylistValue
  all : items ≡ front ++ FramesItem last ∷ rest
  of_r : last.rendition ≡ r
  none : texts_of r rest ≡ []

no-text : (ended : Bool) (s r : ℕ) (text : List ℕ) (texts : List (List ℕ)) → eqb s r ≡ false → with_text (not ended && (s == r)) text texts ≡ texts
no-text true s r text texts apart = refl
no-text false s r text texts apart = ap (λ (t : Bool). with_text t text texts) apart

apart-of : (s r : ℕ) → (s ≡ r → ⊥) → eqb s r ≡ false
apart-of s r differs = elim (eqb_tells s r) [ inl (tells, is) ↦ absurd (differs is) | inr (tells, apart) ↦ tells ]

module _ (ladder : Ladder) (r : ℕ) where
  -- behind its end nothing of a rendition comes
  no-more : (parts : List Part) (events : List Event) → AreLegal parts events → (part_at parts r).ended ≡ true → texts_of r (blocks ladder parts events) ≡ []
  unfolding blocks AreLegal
  no-more parts [] legal ended = refl
  no-more parts (Row s plan ∷ events) legal ended =
      let other : s ≡ r → ⊥ = λ is. (let open_then = ap (λ (n : ℕ). (part_at parts n).ended) is in let was = legal.1 in cc (open_then, was, ended)) in
      let same : part_at (after parts (Row s plan)) r ≡ part_at parts r = after-other s r parts (Row s plan) refl (λ is. other (sym is)) in
      no-text false s r _ _ (apart-of s r other)
      ∙ no-more (after parts (Row s plan)) events legal.2 (ap (λ (p : Part). p.ended) same ∙ ended)
  no-more parts (End s ∷ events) legal ended =
      let other : s ≡ r → ⊥ = λ is. (let open_then = ap (λ (n : ℕ). (part_at parts n).ended) is in let was = legal.1 in cc (open_then, was, ended)) in
      let same : part_at (after parts (End s)) r ≡ part_at parts r = after-other s r parts (End s) refl (λ is. other (sym is)) in
      no-more (after parts (End s)) events legal.2 (ap (λ (p : Part). p.ended) same ∙ ended)

  behind-block : (block more : List ItemValue) → EndsLast more r → EndsLast (block ++ more) r
  behind-block [] more e = e
  behind-block (i ∷ block) more e =
      let then = behind-block block more e in
      record { front = i ∷ then.front; rest = then.rest; last = then.last; all = ap (λ (l : List ItemValue). i ∷ l) then.all; of_r = then.of_r; none = then.none }

  -- a rendition that ends has such a block
  ends-last : (parts : List Part) (events : List Event) → AreLegal parts events → (part_at parts r).ended ≡ false → (part_at (after_all parts events) r).ended ≡ true →
      EndsLast (blocks ladder parts events) r
  unfolding blocks AreLegal after_all
  ends-last parts [] legal open_now ended = absurd (cc (open_now, ended))
  ends-last parts (Row s plan ∷ events) legal open_now ended = elim (eqb_tells s r) [
    | inl (tells, is) ↦
        let grows : part_at (after parts (Row s plan)) s ≡ grown (part_at parts s) plan = get_or-set_same parts s (grown (part_at parts s) plan) no_part legal.0 in
        let still : (part_at (after parts (Row s plan)) r).ended ≡ false =
        subst (λ (n : ℕ). (part_at (after parts (Row s plan)) n).ended ≡ false) is (ap (λ (p : Part). p.ended) grows ∙ legal.1) in
        behind-block (block ladder parts (Row s plan)) (blocks ladder (after parts (Row s plan)) events) (ends-last (after parts (Row s plan)) events legal.2 still ended)
    | inr (tells, apart) ↦
        let same : part_at (after parts (Row s plan)) r ≡ part_at parts r = after-other s r parts (Row s plan) refl (λ is. apart (sym is)) in
        behind-block (block ladder parts (Row s plan)) (blocks ladder (after parts (Row s plan)) events)
        (ends-last (after parts (Row s plan)) events legal.2 (ap (λ (p : Part). p.ended) same ∙ open_now) ended)
  ]
  ends-last parts (End s ∷ events) legal open_now ended = elim (eqb_tells s r) [
    | inl (tells, is) ↦
        let shown = shown_of ladder (rendition_at ladder s) (part_at parts s).plans in
        let closes : part_at (after parts (End s)) s ≡ closed_part (part_at parts s) = get_or-set_same parts s (closed_part (part_at parts s)) no_part legal.0 in
        let over : (part_at (after parts (End s)) r).ended ≡ true =
        subst (λ (n : ℕ). (part_at (after parts (End s)) n).ended ≡ true) is (ap (λ (p : Part). p.ended) closes) in
        record {
          front = _ ∷ [];
          rest = blocks ladder (after parts (End s)) events;
          last = playlist_of s (rendition_at ladder s) shown true (frames_text shown true);
          all = refl;
          of_r = is;
          none = no-more (after parts (End s)) events legal.2 over;
        }
    | inr (tells, apart) ↦
        let same : part_at (after parts (End s)) r ≡ part_at parts r = after-other s r parts (End s) refl (λ is. apart (sym is)) in
        behind-block (block ladder parts (End s)) (blocks ladder (after parts (End s)) events)
        (ends-last (after parts (End s)) events legal.2 (ap (λ (p : Part). p.ended) same ∙ open_now) ended)
  ]

first-open : (n r : ℕ) → (part_at (replicate n no_part) r).ended ≡ false
first-open zero r = refl
first-open (suc n) zero = refl
first-open (suc n) (suc r) = first-open n r

cleared-at : (missed : List ℕ) (renditions : List KeepingValue) (items : List ItemValue) (r : ℕ) → AreCleared missed renditions items → EndsLast items r → r < length renditions →
    ¬ Contains missed r → IsCleared (keeping_at renditions r)
cleared-at missed renditions items r cleared e within unmissed =
    subst (λ (n : ℕ). IsCleared (keeping_at renditions n)) e.of_r
    (cleared e.front e.rest e.last e.all (subst (λ (n : ℕ). texts_of n e.rest ≡ []) (sym e.of_r) e.none) (subst (λ (n : ℕ). n < length renditions) (sym e.of_r) within)
    (subst (λ (n : ℕ). ¬ Contains missed n) (sym e.of_r) unmissed))

module _ {X F : Type 0} (input : SourceView X) (made : F → List Move) (ladder : Ladder) (most : ℕ) (before now : List X) (x y : KeepingState F) (first : Held) (held_first : KeptBy made x first) (fresh : x.files.failures ≡ 0) where
  packed-cleared : (report : Report) → length before ≡ length ladder.renditions → IsPacked (run_of input (since_view made) most before now x y) ladder report → AreAllCleared ladder y.missed y.renditions
  packed-cleared report each p r below within unmissed =
      let a = some-at before r (omega (arith, below, each)) in
      let b = some-at now r (omega (arith, below, each, p.same_now)) in
      let whole = (p.each r a.0 b.0 a.1 b.1).0 in
      let ended : (part_at (after_all (none_of ladder) p.weave.events) r).ended ≡ true = ap (λ (l : List Part). (part_at l r).ended) p.weave.parts_are ∙ whole.ended in
      let last = ends-last ladder r (none_of ladder) p.weave.events p.weave.legal (first-open (length ladder.renditions) r) ended in
      cleared-at y.missed y.renditions p.items r (cleared-grown input made ladder most before now x y first held_first p.items p.puts.grows (p.puts.unfailed ∙ fresh))
      (subst (λ (l : List ItemValue). EndsLast l r) (sym p.weave.items_are) last) within unmissed

  pub all-cleared : (workers : ℕ) (old new : List SnapshotFacts) (answer : Result Report LadderPackingFault) →
      IfOk answer (IsPackedShown (run_of input (since_view made) most before now x y) ladder workers old new) → OnOk answer (Fits ladder (length before) workers (counts_shown old)) →
      OnOk answer (AreAllCleared ladder y.missed y.renditions)
  all-cleared workers old new (Ok report) shown fits = packed-cleared report fits.1 shown.packed
  all-cleared workers old new (Err fault) shown fits = tt
