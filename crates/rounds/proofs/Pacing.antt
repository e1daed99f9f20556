-- A round that has enough when it begins still has, where nothing was read.
use Rattle.std.proofs.Common.{◌≡◌, ◌∙◌, inl, inr, Bool, List, ℕ, ◌-◌, ◌<◌, ◌≤◌, refl, ap, sym, subst, arith}
use Rattle.std.specs.Prelude.{sum}
use Rattle.std.specs.List.{slice_get, slice_index_or}
use Rattle.ingest.specs.declared.lane.Lane.{Lane}
use Rattle.rounds.specs.declared.run.course.Course.{Course}
use Rattle.rounds.specs.declared.run.pace.Pace.{Pace}
use Rattle.rounds.specs.Courses.{NoneWaits, ReadsNone, turns_in}
use Rattle.rounds.specs.Paces.{HasEnough, ReadsEnough, closed_in, wanted}

pub still-enough : {X Y : Type 0} (pace : Pace) (old new : Course X Y) (awaited left turns : ℕ) → new ≡ old → left ≡ awaited → turns ≡ 0
    → HasEnough (wanted pace awaited 0) old → HasEnough (wanted pace left turns) new
still-enough {X} {Y} pace old new awaited left turns same is none enough =
    subst (λ (course : Course X Y). HasEnough (wanted pace left turns) course) (sym same)
    (subst (λ (n : ℕ). HasEnough (wanted pace left n) old) (sym none) (subst (λ (n : ℕ). HasEnough (wanted pace n 0) old) (sym is) enough))

-- where there is enough for some round, there is for the least one
pub enough-one : {X Y : Type 0} (least : ℕ) (course : Course X Y) → HasEnough least course → HasEnough 1 course
enough-one least course (inl rests) = inl rests
enough-one least course (inr closed) = let some = closed.0 in inr (some, omega (arith, some))

-- there is as much by the same numbers
pub enough-as : {X Y : Type 0} (pace : Pace) (course : Course X Y) (awaited left turns had : ℕ) → left ≡ awaited → had ≡ turns
    → HasEnough (wanted pace awaited turns) course → HasEnough (wanted pace left had) course
enough-as pace course awaited left turns had is same enough =
    subst (λ (n : ℕ). HasEnough (wanted pace left n) course) (sym same) (subst (λ (n : ℕ). HasEnough (wanted pace n turns) course) (sym is) enough)

-- while no round is under way: there still is, where nothing was read
pub still-here : {X Y : Type 0} (pace : Pace) (old new : Course X Y) (had before : ℕ) → new ≡ old → had ≡ turns_in new → before ≡ turns_in old
    → HasEnough (wanted pace 0 0) old → HasEnough (wanted pace 0 (had - before)) new
still-here pace old new had before same is was enough =
    let none : had - before ≡ 0 = omega (arith, is, was, ap turns_in same) in
    still-enough pace old new 0 0 (had - before) same refl none enough

-- and there is, by how many turns were had since
pub enough-since : {X Y : Type 0} (pace : Pace) (new old : Course X Y) (had before : ℕ) → had ≡ turns_in new → before ≡ turns_in old
    → HasEnough (wanted pace 0 (turns_in new - turns_in old)) new → HasEnough (wanted pace 0 (had - before)) new
enough-since pace new old had before is was enough =
    let same : had - before ≡ turns_in new - turns_in old = omega (arith, is, was) in
    enough-as pace new 0 0 (turns_in new - turns_in old) (had - before) refl same enough

-- there is as much where nothing was read
enough-unread : {X Y : Type 0} (least : ℕ) (old new : Course X Y) → ReadsNone old new → HasEnough least old → HasEnough least new
enough-unread least old new none (inl rests) =
    inl (λ k lane at going.
    omega (arith, rests k lane (ap (λ l. slice_get l.items k) (sym none.lanes) ∙ at) going, none.reads, ap (λ t. slice_index_or t.items k 0) none.turns))
enough-unread least old new none (inr closed) =
    inr (subst (λ (lanes : List Lane). (0 < closed_in lanes) × (least ≤ closed_in lanes)) (ap (λ l. l.items) (sym none.lanes)) closed)

-- and no source waits that didn't
none-waits : {X Y : Type 0} (tells : X → Bool) (old new : Course X Y) → ReadsNone old new → NoneWaits tells old → NoneWaits tells new
none-waits tells old new none rest k source at is has =
    rest k source (ap (λ l. slice_get l.items k) (sym none.sources) ∙ at) is (record {
      lane = has.lane;
      there = ap (λ l. slice_get l.items k) (sym none.lanes) ∙ has.there;
      going = has.going;
      below = omega (arith, has.below, none.reads, ap (λ t. slice_index_or t.items k 0) none.turns);
    })

pub reads-unread : {X Y : Type 0} (tells : X → Bool) (pace : Pace) (awaited : ℕ) (a b c d : Course X Y) → ReadsNone a b → ReadsNone c d
    → ReadsEnough tells pace awaited b c → ReadsEnough tells pace awaited a d
reads-unread tells pace awaited a b c d before behind (inl enough) =
    let same : turns_in c - turns_in b ≡ turns_in d - turns_in a = omega (arith, ap (λ t. sum t.items) before.turns, ap (λ t. sum t.items) behind.turns) in
    inl (subst (λ (n : ℕ). HasEnough (wanted pace awaited n) d) same (enough-unread _ c d behind enough))
reads-unread tells pace awaited a b c d before behind (inr rest) = inr (none-waits tells c d behind rest)
