-- Which sources are left, turn by turn.
use Rattle.std.proofs.Common.{◌≡◌, ◌∙◌, ℕ, true, false, List, Option, Some, None, length, inl, inr, sym, subst, arith, slice_get}
use Rattle.std.specs.Prelude.{Result, Ok, Err, IfOk, OnOk}
use Rattle.std.proofs.lemmas.Bool.{cases_eq}
use Rattle.std.specs.List.{All}
use Rattle.std.proofs.Math.ListN.{set}
use Rattle.std.proofs.lemmas.Option.{same_Some, get_or_from_slice_get}
use Rattle.item_io.specs.Views.{SourceView}
use Rattle.ingest.specs.declared.lane.Lane.{Lane}
use Rattle.ingest.specs.declared.lane.Stop.{Stop}
use Rattle.ladder_items.specs.Packed.{told_of}
use Rattle.ladder_items.specs.Standing.{NoneStands}
use Rattle.ladder_items.proofs.Elsewhere.{set-here, set-elsewhere, some-at}
use Rattle.serial_run.specs.Leaving.{AreLeftAtStops, IsLeftAtStop}

-- before the first turn none was read
pub left-first : {X : Type 0} (input : SourceView X) (sources : List X) (lanes : List Lane) → ((k : ℕ) (lane : Lane) → slice_get lanes k ≡ Some lane → lane.stop ≡ None)
    → AreLeftAtStops input sources sources lanes
left-first input sources lanes going k a b lane at now there =
    (λ some. absurd (some (going k lane there)), λ none. inl (same_Some b a (sym now ∙ at)))

-- a turn of rendition r
pub left-turn : {X : Type 0} (input : SourceView X) (before sources : List X) (lanes : List Lane) (r : ℕ) (new : X) (turned given : Lane)
    → AreLeftAtStops input before sources lanes
    → ((turned.stop ≡ None → ⊥) → input.is_left new ≡ true) → (turned.stop ≡ None → input.is_left new ≡ false) → given.stop ≡ turned.stop
    → AreLeftAtStops input before (set sources r new) (set lanes r given)
left-turn {X} input before sources lanes r new turned given all stops goes same k a b lane at now there = elim (cases_eq k r) as (λ _. IsLeftAtStop input lane.stop a b) [
  | inl is ↦
      let source : new ≡ b = set-here sources r new b (subst (λ (m : ℕ). slice_get (set sources r new) m ≡ Some b) is now) in
      let mine : given ≡ lane = set-here lanes r given lane (subst (λ (m : ℕ). slice_get (set lanes r given) m ≡ Some lane) is there) in
      subst (λ (x : X). IsLeftAtStop input lane.stop a x) source
      (subst (λ (l : Lane). IsLeftAtStop input l.stop a new) mine
      (λ some. stops (λ none. some (same ∙ none)), λ none. inr (goes (sym same ∙ none))))
  | inr other ↦ all k a b lane at (sym (set-elsewhere sources r k new other) ∙ now) (sym (set-elsewhere lanes r k given other) ∙ there)
]

-- none went on where none stands
going-stands : (k : ℕ) (stop : Option Stop) → told_of k stop ≡ None → stop ≡ None → ⊥
going-stands k None told none = cc
going-stands k (Some stop) told none = cc

-- where no fault stands, all are left
pub all-left : {X : Type 0} (input : SourceView X) (before now : List X) (lanes : List Lane) → length before ≡ length now → length lanes ≡ length now
    → AreLeftAtStops input before now lanes → NoneStands lanes → All (λ source. input.is_left source ≡ true) now
all-left {X} input before now lanes same as_many left none k d within =
    let a = some-at before k (omega (arith, within, same)) in
    let b = some-at now k within in
    let lane = some-at lanes k (omega (arith, within, as_many)) in
    subst (λ (x : X). input.is_left x ≡ true) (sym (get_or_from_slice_get now k b.0 d b.1))
    ((left k a.0 b.0 lane.0 a.1 b.1 lane.1).0 (going-stands k lane.0.stop (none k lane.0 lane.1)))

-- what follows from a success
pub on-ok : {T E Q : Type 0} (P : T → Type 0) (r : Result T E) → IfOk r P → ((x : T) → P x → Q) → OnOk r Q
on-ok P (Ok x) p f = f x p
on-ok P (Err e) p f = tt
