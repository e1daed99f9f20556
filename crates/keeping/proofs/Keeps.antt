-- What went is gone, whatever comes behind it.
use Rattle.std.specs.Prelude.{length, take, drop}
use Rattle.std.specs.List.{Contains}
use Rattle.std.proofs.Common.{arith, ◌≡◌, ℕ, zero, suc, ◌+◌, ◌<◌, ◌≤◌, Bool, true, false, List, [], ◌∷◌, ◌++◌, refl, sym, ap, ◌∙◌, subst, inl, inr}
use Rattle.std.proofs.lemmas.List.Elements.{All-contains, Contains-append_cases, Contains-append_right}
use Rattle.keeping.proofs.Taking.{Contains-take-more, taken-on}
use Rattle.retention.specs.Steps.{MayGo}
use Rattle.folder.specs.Moves.{Move, is_hidden}
use Rattle.folder.specs.Pruning.{pruned_names, unless_hidden}
use Rattle.folder.proofs.OtherMoves.{pruned_names-append}
use Rattle.item_io.specs.Items.{ItemValue, FramesItem, MasterItem, MediaItem, SegmentItem}
use Rattle.item_io.specs.FileNames.{segment_file_name}
use Rattle.keeping.specs.Keepings.{AreAsOf, AreGone, AreNotedBy, GoBehind, IsGone, IsPassed, KeepingValue, LetsGo, Stay, Stays, SweptBehind, WentOf, keeping_at, removals, removals_of}
use Rattle.keeping.proofs.Telling.{gone-all-same, passed-on}

-- what was gone is gone still
pub went-still : (old new : KeepingValue) (number : ℕ) → Stays old new → WentOf old number → WentOf new number
went-still old new number same (inl (n, lower, is)) = inl (n, omega (arith, lower, same.gone), is ∙ ap (λ (b : ℕ). b + n) (sym same.base))
went-still old new number same (inr gone) = inr (
  omega (arith, gone.0, same.gone),
  Contains-take-more old.swept new.swept new.older number same.swept (subst (λ (l : List ℕ). Contains (take old.swept l) number) (sym same.older) gone.1),
)

unfoldable pub gone-still : (old new : List KeepingValue) (name : List ℕ) → Stay old new → IsGone old name → IsGone new name
gone-still old new name same gone =
    let one = same.each gone.r in
    record {
      r = gone.r;
      number = gone.number;
      one = omega (arith, gone.one, same.len);
      gone = went-still (keeping_at old gone.r) (keeping_at new gone.r) gone.number one gone.gone;
      passed = passed-on (keeping_at old gone.r) (keeping_at new gone.r) gone.number one gone.passed;
      named = gone.named ∙ ap (λ (text : List ℕ). segment_file_name text gone.number) (sym one.name);
    }

pub all-gone-still : (names names_then : List (List ℕ)) (old new : List KeepingValue) → names_then ≡ names → Stay old new → AreGone names old → AreGone names_then new
all-gone-still names names_then old new is same gone name has = gone-still old new name same (gone name (subst (λ (l : List (List ℕ)). Contains l name) is has))

-- what has one name
one-name : (name other : List ℕ) → Contains (name ∷ []) other → other ≡ name
one-name name other (zero, within, is) = sym is
one-name name other (suc k, within, is) = absurd (omega (arith, within))

in-removals-more : (t : Bool) (name other : List ℕ) (number n : ℕ) → let s = segment_file_name name number in
    (Contains (pruned_names (removals name (number + 1) n)) other → (k : ℕ) × (k < n) × (other ≡ segment_file_name name (number + 1 + k))) →
    Contains (unless_hidden t s (pruned_names (removals name (number + 1) n))) other → (k : ℕ) × (k < suc n) × (other ≡ segment_file_name name (number + k))
in-removals-more true name other number n later has =
    let l = later has in
    (suc l.0, omega (arith, l.1), l.2 ∙ ap (segment_file_name name) (omega arith))
in-removals-more false name other number n later has =
    elim (Contains-append_cases (segment_file_name name number ∷ []) (pruned_names (removals name (number + 1) n)) other has) [
      | inl here ↦ (0, omega arith, one-name (segment_file_name name number) other here ∙ ap (segment_file_name name) (omega arith))
      | inr behind ↦ let l = later behind in (suc l.0, omega (arith, l.1), l.2 ∙ ap (segment_file_name name) (omega arith))
    ]

-- what is among some that are taken away
in-removals : (name other : List ℕ) (number n : ℕ) → Contains (pruned_names (removals name number n)) other → (k : ℕ) × (k < n) × (other ≡ segment_file_name name (number + k))
in-removals name other number zero (k, within, is) = absurd (omega (arith, within))
in-removals name other number (suc n) has =
    in-removals-more (is_hidden (segment_file_name name number)) name other number n (in-removals name other (number + 1) n) has

-- what is among some numbers that are taken away
in-removals-of-more : (t : Bool) (name other : List ℕ) (number : ℕ) (numbers : List ℕ) →
    (Contains (pruned_names (removals_of name numbers)) other → (n : ℕ) × Contains numbers n × (other ≡ segment_file_name name n)) →
    Contains (unless_hidden t (segment_file_name name number) (pruned_names (removals_of name numbers))) other → (n : ℕ) × Contains (number ∷ numbers) n × (other ≡ segment_file_name name n)
in-removals-of-more true name other number numbers later has =
    let l = later has in (l.0, Contains-append_right (number ∷ []) numbers l.0 l.1, l.2)
in-removals-of-more false name other number numbers later has =
    elim (Contains-append_cases (segment_file_name name number ∷ []) (pruned_names (removals_of name numbers)) other has) [
      | inl here ↦ (number, (0, omega arith, refl), one-name (segment_file_name name number) other here)
      | inr behind ↦ let l = later behind in (l.0, Contains-append_right (number ∷ []) numbers l.0 l.1, l.2)
    ]

in-removals-of : (name other : List ℕ) (numbers : List ℕ) → Contains (pruned_names (removals_of name numbers)) other → (n : ℕ) × Contains numbers n × (other ≡ segment_file_name name n)
in-removals-of name other [] (k, within, is) = absurd (omega (arith, within))
in-removals-of name other (number ∷ numbers) has =
    in-removals-of-more (is_hidden (segment_file_name name number)) name other number numbers (in-removals-of name other numbers) has

-- a segment that may go was passed, and so were all before it
passed-place : (k : KeepingValue) (n number : ℕ) → MayGo k.kept.least k.kept.steps n → number ≤ k.base + n → IsPassed k number
passed-place k n number may below = (may.at, may.within, omega (arith, may.out), omega (arith, may.out, below))

gone-places : (r : ℕ) (old new : List KeepingValue) (made made_then : List Move) (name : List ℕ) → r < length old → length new ≡ length old → (went : LetsGo (keeping_at old r) (keeping_at new r) made made_then) →
    Contains (pruned_names (removals (keeping_at old r).name ((keeping_at old r).base + (keeping_at old r).gone) went.count)) name → IsGone new name
gone-places r old new made made_then name within len went now =
    let k = keeping_at old r in
    let one = in-removals k.name name (k.base + k.gone) went.count now in
    record {
      r = r;
      number = k.base + k.gone + one.0;
      one = omega (arith, within, len);
      gone = subst (λ (x : KeepingValue). WentOf x (k.base + k.gone + one.0)) (sym went.now) (inl (k.gone + one.0, omega (arith, one.1), omega arith));
      passed = subst (λ (x : KeepingValue). IsPassed x (k.base + k.gone + one.0)) (sym went.now)
          (passed-place k (k.gone + one.0) (k.base + k.gone + one.0) (went.may_go (k.gone + one.0) (omega (arith, one.1))) (omega arith));
      named = one.2 ∙ ap (λ (x : KeepingValue). segment_file_name x.name (k.base + k.gone + one.0)) (sym went.now);
    }

-- one of these numbers went, so there is one
some-number : (more : ℕ) (numbers : List ℕ) (n : ℕ) → Contains (take more numbers) n → 0 < more
some-number zero numbers n (k, within, is) = absurd (omega (arith, within))
some-number (suc more) numbers n has = omega arith

gone-older : (r : ℕ) (old new : List KeepingValue) (made made_then : List Move) (name : List ℕ) → r < length old → length new ≡ length old → (went : LetsGo (keeping_at old r) (keeping_at new r) made made_then) →
    Contains (pruned_names (removals_of (keeping_at old r).name (take went.more (drop (keeping_at old r).swept (keeping_at old r).older)))) name → IsGone new name
gone-older r old new made made_then name within len went now =
    let k = keeping_at old r in
    let one = in-removals-of k.name name (take went.more (drop k.swept k.older)) now in
    record {
      r = r;
      number = one.0;
      one = omega (arith, within, len);
      gone = subst (λ (x : KeepingValue). WentOf x one.0) (sym went.now)
          (inr (went.some_went (some-number went.more (drop k.swept k.older) one.0 one.1), taken-on k.swept went.more k.older one.0 one.1));
      passed = subst (λ (x : KeepingValue). IsPassed x one.0) (sym went.now)
          (passed-place k 0 one.0 (went.may_go 0 (went.some_went (some-number went.more (drop k.swept k.older) one.0 one.1)))
          (omega (arith, All-contains (λ n. n < k.base) (take went.more (drop k.swept k.older)) one.0 went.earlier one.1)));
      named = one.2 ∙ ap (λ (x : KeepingValue). segment_file_name x.name one.0) (sym went.now);
    }

gone-of : (r : ℕ) (old new : List KeepingValue) (made made_then : List Move) → r < length old → AreAsOf r old new (λ before now. LetsGo before now made made_then) → Stay old new →
    AreGone (pruned_names made) old → AreGone (pruned_names made_then) new
gone-of r old new made made_then within did same gone name has =
    let k = keeping_at old r in
    let went = did.is in
    let places = removals k.name (k.base + k.gone) went.count in
    let others = removals_of k.name (take went.more (drop k.swept k.older)) in
    let split : pruned_names made_then ≡ pruned_names made ++ (pruned_names places ++ pruned_names others) =
    ap pruned_names went.made_are ∙ pruned_names-append made (places ++ others) ∙ ap (λ (l : List (List ℕ)). pruned_names made ++ l) (pruned_names-append places others) in
    elim (Contains-append_cases (pruned_names made) (pruned_names places ++ pruned_names others) name (subst (λ (l : List (List ℕ)). Contains l name) split has)) [
      | inl before ↦ gone-still old new name same (gone name before)
      | inr now ↦ elim (Contains-append_cases (pruned_names places) (pruned_names others) name now) [
        | inl place ↦ gone-places r old new made made_then name within did.len went place
        | inr other ↦ gone-older r old new made made_then name within did.len went other
      ]
    ]

-- segments that go behind an item
pub gone-behind : (item : ItemValue) (old new : List KeepingValue) (made made_then : List Move) → GoBehind item old new made made_then → AreGone (pruned_names made) old → AreGone (pruned_names made_then) new
gone-behind (SegmentItem s) old new made made_then went gone = all-gone-still (pruned_names made) (pruned_names made_then) old new (ap pruned_names went.1) (gone-all-same (SegmentItem s) old new made made_then went) gone
gone-behind (MediaItem p) old new made made_then went gone = all-gone-still (pruned_names made) (pruned_names made_then) old new (ap pruned_names went.1) (gone-all-same (MediaItem p) old new made made_then went) gone
gone-behind (FramesItem p) old new made made_then (inl (within, did)) gone = gone-of p.rendition old new made made_then within did (gone-all-same (FramesItem p) old new made made_then (inl (within, did))) gone
gone-behind (FramesItem p) old new made made_then (inr (beyond, is, same)) gone =
    all-gone-still (pruned_names made) (pruned_names made_then) old new (ap pruned_names same) (gone-all-same (FramesItem p) old new made made_then (inr (beyond, is, same))) gone
gone-behind (MasterItem text) old new made made_then went gone = all-gone-still (pruned_names made) (pruned_names made_then) old new (ap pruned_names went.1) (gone-all-same (MasterItem text) old new made made_then went) gone

-- what went of older segments
pub swept-behind : (item : ItemValue) (o m n : List KeepingValue) → AreNotedBy item o m → SweptBehind item m n → SweptBehind item o n
swept-behind (SegmentItem s) o m n noted swept = tt
swept-behind (MediaItem p) o m n noted swept = tt
swept-behind (FramesItem p) o m n noted swept = subst (λ (l : List KeepingValue). SweptBehind (FramesItem p) l n) noted swept
swept-behind (MasterItem text) o m n noted swept = tt
