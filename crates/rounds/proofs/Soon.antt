-- Each rendition had one turn at the most.
use Rattle.std.proofs.Common.{◌≡◌, ◌∙◌, inl, inr, Bool, true, false, ℕ, ◌+◌, ◌<◌, ◌≤◌, length, Some, refl, ap, sym, subst, arith}
use Rattle.std.specs.Prelude.{◌||◌}
use Rattle.std.specs.List.{slice_get, slice_index_or, slice_set}
use Rattle.std.proofs.Math.ListN.{set}
use Rattle.std.proofs.lemmas.Bool.{cases_eq, false≢true}
use Rattle.std.proofs.lemmas.List.{get_or-set_same}
use Rattle.std.proofs.lemmas.Option.{slice_get_within}
use Rattle.ingest.specs.declared.lane.Lane.{Lane}
use Rattle.ingest.specs.Lanes.{IsTurned}
use Rattle.item_io.specs.Views.{SourceView}
use Rattle.ladder_items.proofs.Elsewhere.{set-there}
use Rattle.rounds.specs.declared.run.course.Course.{Course}
use Rattle.rounds.specs.Courses.{HadNone, HadOne, HadOneAtMost, HasTurns, OthersStay, ReadsNone, turns_at}

pub had-none : {X Y : Type 0} (k : ℕ) (course : Course X Y) → HadNone k course course
had-none k course = record { turns = refl; lanes = refl; sources = refl }

pub none-then : {X Y : Type 0} (k : ℕ) (a b c : Course X Y) → HadNone k a b → HadNone k b c → HadNone k a c
none-then k a b c f g = record { turns = g.turns ∙ f.turns; lanes = g.lanes ∙ f.lanes; sources = g.sources ∙ f.sources }

pub none-other : {X Y : Type 0} (r k : ℕ) (a b : Course X Y) → OthersStay r a b → (k ≡ r → ⊥) → HadNone k a b
none-other r k a b others other = record { turns = others.turns k other; lanes = others.lanes k other; sources = others.sources k other }

pub none-looked : {X Y : Type 0} (k : ℕ) (a b : Course X Y) → b.sources.items ≡ a.sources.items → b ≡ record a { sources = b.sources } → HadNone k a b
none-looked k a b sources same = record {
  turns = ap (λ (d : Course _ _). turns_at d k) same;
  lanes = ap (λ (d : Course _ _). slice_get d.lanes.items k) same;
  sources = ap (λ l. slice_get l k) sources;
}

pub none-unread : {X Y : Type 0} (k : ℕ) (a b : Course X Y) → ReadsNone a b → HadNone k a b
none-unread k a b none = record {
  turns = ap (λ t. slice_index_or t.items k 0) none.turns;
  lanes = ap (λ t. slice_get t.items k) none.lanes;
  sources = ap (λ t. slice_get t.items k) none.sources;
}

-- rendition r had its turn
pub had-one : {X Y : Type 0} (input : SourceView X) (r : ℕ) (course now : Course X Y) (b c : X) (was is : Lane)
    → slice_get course.sources.items r ≡ Some b → slice_get course.lanes.items r ≡ Some was → IsTurned input b c was is
    → now.sources.items ≡ set course.sources.items r c → now.lanes.items ≡ set course.lanes.items r is
    → now.turns.items ≡ slice_set course.turns.items r (turns_at course r + 1) → r < length course.turns.items → HadOne input r course now
had-one input r course now b c was is f g turn sources lanes turns within = record {
  turns = ap (λ l. slice_index_or l r 0) turns ∙ get_or-set_same course.turns.items r (turns_at course r + 1) 0 within;
  source = b;
  source_now = c;
  lane = was;
  lane_now = is;
  source_was = f;
  source_is = ap (λ l. slice_get l r) sources ∙ set-there course.sources.items r c (slice_get_within course.sources.items r b f);
  lane_was = g;
  lane_is = ap (λ l. slice_get l r) lanes ∙ set-there course.lanes.items r is (slice_get_within course.lanes.items r was g);
  turned = turn;
}

pub one-behind : {X Y : Type 0} (input : SourceView X) (k : ℕ) (a b c : Course X Y) → HadNone k a b → HadOne input k b c → HadOne input k a c
one-behind input k a b c f g = record {
  turns = omega (arith, g.turns, f.turns);
  source = g.source;
  source_now = g.source_now;
  lane = g.lane;
  lane_now = g.lane_now;
  source_was = sym f.sources ∙ g.source_was;
  source_is = g.source_is;
  lane_was = sym f.lanes ∙ g.lane_was;
  lane_is = g.lane_is;
  turned = g.turned;
}

one-before : {X Y : Type 0} (input : SourceView X) (k : ℕ) (a b c : Course X Y) → HadOne input k a b → HadNone k b c → HadOne input k a c
one-before input k a b c f g = record {
  turns = omega (arith, f.turns, g.turns);
  source = f.source;
  source_now = f.source_now;
  lane = f.lane;
  lane_now = f.lane_now;
  source_was = f.source_was;
  source_is = g.sources ∙ f.source_is;
  lane_was = f.lane_was;
  lane_is = g.lanes ∙ f.lane_is;
  turned = f.turned;
}

pub most-behind : {X Y : Type 0} (input : SourceView X) (k : ℕ) (a b c : Course X Y) → HadNone k a b → HadOneAtMost input k b c → HadOneAtMost input k a c
most-behind input k a b c f (inl none) = inl (none-then k a b c f none)
most-behind input k a b c f (inr one) = inr (one-behind input k a b c f one)

pub most-before : {X Y : Type 0} (input : SourceView X) (k : ℕ) (a b c : Course X Y) → HadOneAtMost input k a b → HadNone k b c → HadOneAtMost input k a c
most-before input k a b c (inl none) g = inl (none-then k a b c none g)
most-before input k a b c (inr one) g = inr (one-before input k a b c one g)

-- those before r had one at the most, and those from there on none; then rendition r had one at the most
pub most-then : {X Y : Type 0} (input : SourceView X) (r : ℕ) (a b c : Course X Y) → ((k : ℕ) → HadOneAtMost input k a b) → ((k : ℕ) → r ≤ k → HadNone k a b)
    → HadOneAtMost input r b c → OthersStay r b c → (k : ℕ) → HadOneAtMost input k a c
most-then {X} {Y} input r a b c each rest one others k =
    elim (cases_eq k r) as (λ _. HadOneAtMost input k a c) [
      | inl q ↦ subst (λ (j : ℕ). HadOneAtMost input j a c) (sym q) (most-behind input r a b c (rest r (omega arith)) one)
      | inr q ↦ most-before input k a b c (each k) (none-other r k b c others q)
    ]

pub rest-then : {X Y : Type 0} (r : ℕ) (a b c : Course X Y) → ((k : ℕ) → r ≤ k → HadNone k a b) → OthersStay r b c → (k : ℕ) → r + 1 ≤ k → HadNone k a c
rest-then r a b c rest others k above =
    none-then k a b c (rest k (omega (arith, above))) (none-other r k b c others (λ q. absurd (omega (arith, above, q))))

-- no rendition had a turn, and r has none now
none-both : {X Y : Type 0} (r k : ℕ) (a b c : Course X Y) → HadNone k a b → HadNone r b c → OthersStay r b c → HadNone k a c
none-both {X} {Y} r k a b c before none others =
    elim (cases_eq k r) as (λ _. HadNone k a c) [
      | inl q ↦ none-then k a b c before (subst (λ (j : ℕ). HadNone j b c) (sym q) none)
      | inr q ↦ none-then k a b c before (none-other r k b c others q)
    ]

pub none-there : {X Y : Type 0} (r k : ℕ) (a b c : Course X Y) (any now : Bool) → (any ≡ false → (k : ℕ) → HadNone k a b) → (now ≡ false → HadNone r b c) → OthersStay r b c
    → (any || now) ≡ false → HadNone k a c
none-there r k a b c true now before none others neither = absurd (false≢true (sym neither))
none-there r k a b c false now before none others neither = none-both r k a b c (before refl k) (none neither) others

-- rendition k had its turn among those before r, or has it now
pub one-then : {X Y : Type 0} (input : SourceView X) (r k : ℕ) (a b c : Course X Y) → k < r + 1 → (k < r → HadOne input k a b) → HadNone r a b
    → (k ≡ r → HadOne input r b c) → OthersStay r b c → HadOne input k a c
one-then {X} {Y} input r k a b c below before none here others =
    elim (cases_eq k r) as (λ _. HadOne input k a c) [
      | inl q ↦ subst (λ (j : ℕ). HadOne input j a c) (sym q) (one-behind input r a b c none (here q))
      | inr q ↦ one-before input k a b c (before (omega (arith, below, q))) (none-other r k b c others q)
    ]

-- a rendition that had none has none left, if it would have had one
pub waits-not : {X Y : Type 0} (input : SourceView X) (k : ℕ) (a b : Course X Y) → HadNone k a b → b.reads ≡ a.reads → HasTurns k b → (HasTurns k a → HadOne input k a b) → ⊥
waits-not input k a b none reads has had =
    let one = had (record { lane = has.lane; there = sym none.lanes ∙ has.there; going = has.going; below = omega (arith, none.turns, reads, has.below) }) in
    omega (arith, one.turns, none.turns)

-- a rendition that had no turn has those that it had
pub turns-behind : {X Y : Type 0} (k : ℕ) (a b : Course X Y) → HadNone k a b → b.reads ≡ a.reads → HasTurns k a → HasTurns k b
turns-behind k a b none reads has = record { lane = has.lane; there = none.lanes ∙ has.there; going = has.going; below = omega (arith, none.turns, reads, has.below) }
