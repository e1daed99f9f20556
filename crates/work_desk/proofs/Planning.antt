-- Each plan at a desk may be fed.
use Rattle.std.proofs.Common.{◌≡◌, ℕ, Bool, true, false, List, [], ◌∷◌, ◌++◌, Option, Some, None, IfSome, IfNone, refl, sym, subst}
use Rattle.std.specs.List.{All}
use Rattle.std.proofs.lemmas.Option.{get_or_from_slice_get, slice_get_within}
use Rattle.std.proofs.lemmas.List.Elements.{All-append, All-cons, All-head, All-nil, All-push, All-tail}
use Rattle.cutter.specs.Plans.{SegmentPlan}
use Rattle.flow_core.specs.declared.outcome.Outcome.{Outcome}
use Rattle.flow_core.specs.declared.outcome.Outcome.TheVariants.{Sealed, Refused, Held}
use Rattle.flow_core.specs.declared.outcome.Finished.{Finished}
use Rattle.flow_core.specs.Queues.{Claimed, IsOwnOutcome, KnowsClaimed, QueueValue}
use Rattle.flow_core.specs.Steps.{Claims, Delivered, Delivers, Feeds, Gives}
use Rattle.work_desk.specs.Permits.{AreKnownByNumber, ArePermitted, ArePlanned, IsPermitted, IsPlanned}

module _ {A : Type 0} (P : A → Type 0) where
  all-front : (front back : List A) → All P (front ++ back) → All P front
  all-front [] back all = All-nil P
  all-front (x ∷ xs) back all = All-cons P x xs (All-head P x (xs ++ back) all) (all-front xs back (All-tail P x (xs ++ back) all))

  all-back : (front back : List A) → All P (front ++ back) → All P back
  all-back [] back all = all
  all-back (x ∷ xs) back all = all-back xs back (All-tail P x (xs ++ back) all)

  -- of one in a list, and of the others
  one-of : (front : List A) (x : A) (back : List A) → All P (front ++ x ∷ back) → P x
  one-of front x back all = All-head P x back (all-back front (x ∷ back) all)

  others-of : (front : List A) (x : A) (back : List A) → All P (front ++ x ∷ back) → All P (front ++ back)
  others-of front x back all = All-append P front back (all-front front (x ∷ back) all) (All-tail P x back (all-back front (x ∷ back) all))

module _ (plans : SegmentPlan → Type 0) where
  abbrev of-claim : Claimed → Type 0
  of-claim claim = plans claim.plan

  abbrev of-finished : Finished → Type 0
  of-finished finished = plans finished.plan

  -- one more waits
  pub planned-fed : (q after : QueueValue) (plan : SegmentPlan) → Feeds q plan after → plans plan → ArePlanned plans q → ArePlanned plans after
  planned-fed q after plan feeds one all =
      subst (ArePlanned plans) (sym feeds.fed) (record { waiting = All-push plans q.waiting plan all.waiting one; claimed = all.claimed; done = all.done })

  -- one is claimed
  pub planned-claimed : (q after : QueueValue) (claim : Claimed) → Claims q claim after → ArePlanned plans q → ArePlanned plans after
  planned-claimed q after claim claims all =
      let waits = subst (All plans) claims.waits all.waiting in
      subst (ArePlanned plans) (sym claims.claimed)
      (record {
        waiting = others-of plans claims.front claim.plan claims.back waits;
        claimed = All-push of-claim q.claimed claim all.claimed (one-of plans claims.front claim.plan claims.back waits);
        done = all.done;
      })

  -- which is one of those that may be fed
  pub claimed-planned : (taken : Option Claimed) (old new : QueueValue) → IfSome taken (λ claim. Claims old claim new) → ArePlanned plans old
      → IfSome taken (λ claim. plans claim.plan)
  claimed-planned (Some claim) old new claims all = one-of plans claims.front claim.plan claims.back (subst (All plans) claims.waits all.waiting)
  claimed-planned None old new claims all = tt

  -- a plan that may be fed is the one that a worker has of its rendition and number, if any has one
  pub knows-claimed : (q : QueueValue) (plan : SegmentPlan) → AreKnownByNumber plans → ArePlanned plans q → plans plan → KnowsClaimed q.claimed plan
  knows-claimed q plan known all one claim k at rendition number =
      let there = slice_get_within q.claimed k claim at in
      let own = subst of-claim (get_or_from_slice_get q.claimed k claim claim at) (all.claimed k claim there) in
      known claim.plan plan own one rendition number

  -- something became of one
  pub planned-delivered : (q after : QueueValue) (claim : Claimed) (outcome : Outcome) → Delivers q claim outcome after → ArePlanned plans q → ArePlanned plans after
  planned-delivered q after claim outcome delivers all =
      let stood = subst (All of-claim) delivers.stands all.claimed in
      subst (ArePlanned plans) (sym delivers.delivered)
      (record {
        waiting = all.waiting;
        claimed = others-of of-claim delivers.front claim delivers.back stood;
        done = All-push of-finished q.done (record { plan = claim.plan; outcome = outcome }) all.done (one-of of-claim delivers.front claim delivers.back stood);
      })

  own-planned : (plan : SegmentPlan) (outcome : Outcome) → IsOwnOutcome plan outcome → plans plan → IsPlanned plans outcome
  own-planned plan (Sealed segment) own one = subst plans (sym own) one
  own-planned plan Refused own one = tt
  own-planned plan Held own one = tt

  -- what is handed out is of one of them
  pub planned-given : (q after : QueueValue) (delivery : Delivered) → Gives q delivery after → ArePlanned plans q → IsPlanned plans delivery.outcome
  planned-given q after delivery gives all =
      let takes = gives.takes in
      own-planned gives.plan delivery.outcome gives.own
      (one-of of-finished takes.front (record { plan = gives.plan; outcome = delivery.outcome }) takes.back (subst (All of-finished) takes.stands all.done))

  -- and those that are left are
  pub planned-taken : (q after : QueueValue) (delivery : Delivered) → Gives q delivery after → ArePlanned plans q → ArePlanned plans after
  planned-taken q after delivery gives all =
      let takes = gives.takes in
      subst (ArePlanned plans) (sym takes.taken)
      (record {
        waiting = all.waiting;
        claimed = all.claimed;
        done = others-of of-finished takes.front (record { plan = gives.plan; outcome = delivery.outcome }) takes.back (subst (All of-finished) takes.stands all.done);
      })

  -- one was handed out, or none
  pub planned-left : (taken : Option Delivered) (old new : QueueValue) → IfSome taken (λ delivery. Gives old delivery new)
      → IfNone taken ((new ≡ old) × (old.done ≡ [])) → ArePlanned plans old → ArePlanned plans new
  planned-left (Some delivery) old new gives none all = planned-taken old new delivery gives all
  planned-left None old new gives none all = subst (ArePlanned plans) (sym none.0) all

  pub planned-some : (taken : Option Delivered) (old new : QueueValue) → IfSome taken (λ delivery. Gives old delivery new) → ArePlanned plans old
      → IfSome taken (λ delivery. IsPlanned plans delivery.outcome)
  planned-some (Some delivery) old new gives all = planned-given old new delivery gives all
  planned-some None old new gives all = tt

  module _ (permits : ℕ → ℕ → Type 0) where
    abbrev are-both : QueueValue → Type 0
    are-both q = ArePermitted permits q.done × ArePlanned plans q

    -- one was claimed, or none
    pub both-claimed : (taken : Option Claimed) (old new : QueueValue) → IfSome taken (λ claim. Claims old claim new)
        → IfNone taken ((new ≡ old) × (old.waiting ≡ [])) → are-both old → are-both new
    both-claimed (Some claim) old new claims none all =
        (subst (λ (q : QueueValue). ArePermitted permits q.done) (sym claims.claimed) all.0, planned-claimed old new claim claims all.1)
    both-claimed None old new claims none all = subst are-both (sym none.0) all

    -- something became of one, or of none
    pub both-delivered : (told : Bool) (old new : QueueValue) (claim : Claimed) (outcome : Outcome) → (told ≡ true → Delivers old claim outcome new)
        → (told ≡ false → new ≡ old) → IsPermitted permits outcome → are-both old → are-both new
    both-delivered true old new claim outcome told-so untold permitted all =
        let delivers = told-so refl in (
          subst (λ (q : QueueValue). ArePermitted permits q.done) (sym delivers.delivered)
              (All-push (λ (finished : Finished). IsPermitted permits finished.outcome) old.done (record { plan = claim.plan; outcome = outcome }) all.0 permitted),
          planned-delivered old new claim outcome delivers all.1,
        )
    both-delivered false old new claim outcome told-so untold permitted all = subst are-both (sym (untold refl)) all
