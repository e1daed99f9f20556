-- Between two rounds.
use Rattle.std.proofs.Common.{◌≡◌, ◌∙◌, ◌⊎◌, inl, inr, ℕ, ◌+◌, ◌<◌, ◌≤◌, ◌^◌, true, false, List, [], length, Some, ap, sym, subst, arith}
use Rattle.std.specs.Prelude.{sum}
use Rattle.std.specs.List.{slice_get, slice_index_or}
use Rattle.std.proofs.lemmas.Option.{slice_get_within}
use Rattle.ingest.specs.Lanes.{is_good}
use Rattle.rounds.proofs.Turning.{counts-few}
use Rattle.std.proofs.lemmas.Bool.{cases_eq}
use Rattle.cutter.specs.Plans.{SegmentPlan}
use Rattle.live_board.specs.Snapshots.{Known}
use Rattle.ingest.specs.declared.lane.Lane.{Lane}
use Rattle.item_io.specs.Views.{OutletView, SourceView}
use Rattle.ladder_items.specs.Ladder.{Ladder}
use Rattle.rounds.specs.declared.run.course.Course.{Course}
use Rattle.rounds.specs.Courses.{Start, IsOn, ReadsMore, ReadsNone, Rests, HasClosed, NoneClosed, IsAllGiven, turns_in}
use Rattle.rounds.specs.Rounds.{unfed_of}

-- Each round but the first read a turn at least; in the last none may have been read.
abbrev pub IsCounted : {X Y : Type 0} → ℕ → Course X Y → Type 0
IsCounted rounds course = (rounds ≤ turns_in course) ⊎ (NoneClosed course.lanes.items × (rounds ≤ turns_in course + 1))

pub counted-read : {X Y : Type 0} (rounds now : ℕ) (old new : Course X Y) → now ≡ rounds → ReadsNone old new → IsCounted rounds old → IsCounted now new
counted-read rounds now old new same none (inl few) = inl (omega (arith, few, same, ap (λ t. sum t.items) none.turns))
counted-read rounds now old new same none (inr last) = inr ((λ k lane at. last.0 k lane (ap (λ l. slice_get l.items k) (sym none.lanes) ∙ at)), omega (arith, last.1, same, ap (λ t. sum t.items) none.turns))

pub few-rounds : {X Y : Type 0} (rounds : ℕ) (course : Course X Y) → HasClosed course.lanes.items → IsCounted rounds course → rounds ≤ turns_in course
few-rounds rounds course some (inl few) = few
few-rounds rounds course some (inr last) = absurd (some.3 (last.0 some.0 some.1 some.2))

pub counted-round : {X Y : Type 0} (rounds now : ℕ) (old new : Course X Y) → now ≡ rounds + 1 → rounds ≤ turns_in old → ReadsMore old new
    → NoneClosed old.lanes.items → IsCounted now new
counted-round rounds now old new more few further none =
    elim (cases_eq (turns_in new) (turns_in old)) as (λ _. IsCounted now new) [
      | inl q ↦ inr ((λ k lane at. none k lane (ap (λ l. slice_get l.items k) (sym (further.stays q)) ∙ at)), omega (arith, more, few, further.more))
      | inr q ↦ inl (omega (arith, more, few, further.more, q))
    ]

-- some was read between two rounds
pub counted-more : {X Y : Type 0} (rounds now : ℕ) (old new : Course X Y) → now ≡ rounds → ReadsMore old new → IsCounted rounds old → IsCounted now new
counted-more rounds now old new same further (inl few) = inl (omega (arith, few, same, further.more))
counted-more rounds now old new same further (inr last) =
    elim (cases_eq (turns_in new) (turns_in old)) as (λ _. IsCounted now new) [
      | inl q ↦ inr ((λ k lane at. last.0 k lane (ap (λ l. slice_get l.items k) (sym (further.stays q)) ∙ at)), omega (arith, last.1, same, q))
      | inr q ↦ inl (omega (arith, last.1, same, further.more, q))
    ]

-- a run has few turns: 32 renditions at most have 2^40 each
pub on-turns : {X Y : Type 0} (input : SourceView X) (out : OutletView Y) (ladder : Ladder) (start : Start X Y) (course : Course X Y) (shows : Known) (waiting : ℕ → List SegmentPlan)
    → IsOn input out ladder start course shows waiting → turns_in course ≤ 2 ^ 45
on-turns input out ladder start course shows waiting on =
    let all = counts-few course.turns.items (2 ^ 40) (λ k. omega (arith, on.turns k, on.most)) in
    let most = on.allowed.within.renditions.1 in
    omega (arith, all, on.counted, most)

-- the same run, as it is named elsewhere
pub on-as : {X Y : Type 0} (input : SourceView X) (out : OutletView Y) (ladder : Ladder) (start : Start X Y) (course : Course X Y) (shows named : Known) (spools full : List (List SegmentPlan))
    → named ≡ shows → full ≡ spools → IsOn input out ladder start course shows (unfed_of spools) → IsOn input out ladder start course named (unfed_of full)
on-as input out ladder start course shows named spools full same are on =
    subst (λ (k : Known). IsOn input out ladder start course k (unfed_of full)) (sym same)
    (subst (λ (l : List (List SegmentPlan)). IsOn input out ladder start course shows (unfed_of l)) (sym are) on)

pub never : {A : Type 0} → false ≡ true → A
never e = cc

-- where nothing is closed, all was given
pub all-given : {X Y : Type 0} (n : ℕ) (now : Course X Y) → Rests now → NoneClosed now.lanes.items → length now.lanes.items ≡ n
    → ((k : ℕ) (lane : Lane) → k < n → slice_get now.lanes.items k ≡ Some lane → lane.intake.filled ≡ [] → slice_index_or now.ended.items k false ≡ is_good lane.stop) → IsAllGiven now
all-given n now rests none each ended = record {
  rests = rests;
  filled = none;
  ended = λ k lane at. ended k lane (omega (arith, slice_get_within now.lanes.items k lane at, each)) at (none k lane at);
}
