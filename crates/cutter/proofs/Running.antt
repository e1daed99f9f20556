-- A stream with one packet more.
use Rattle.std.proofs.Common.{◌≡◌, ◌∙◌, ℕ, true, false, List, [], ◌∷◌, ◌++◌, Option, Some, None, refl, ap, subst}
use Rattle.std.proofs.lemmas.List.{append-nil}
use Rattle.pes_time.specs.declared.clock.Stamp.{Stamp}
use Rattle.cutter.specs.declared.settings.CutSettings.{CutSettings}
use Rattle.cutter.specs.declared.fault.CutFault.{CutFault}
use Rattle.cutter.specs.declared.fault.CutFault.TheVariants.{Limit}
use Rattle.cutter.specs.Plans.{SegmentPlan}
use Rattle.cutter.specs.Stream.{Fact, fact_behind, facts, facts_from}
use Rattle.cutter.specs.Points.{mark, counted, top_after}
use Rattle.cutter.specs.Cuts.{Cuts, uncut, made, step, placed, cut_from, cuts, closed, fault, plans, Ends}
use Rattle.cutter.specs.SegmentState.{Gathered, Out, taken, gives, faults}
use Rattle.cutter.specs.State.{IsAt}
use Rattle.cutter.proofs.Facts.{facts-around}
use Rattle.cutter.proofs.Placing.{Goes, placed-goes}

pub cut_from-append : (r : ℕ) (s : CutSettings) (a : Cuts) (xs ys : List Fact) → cut_from r s a (xs ++ ys) ≡ cut_from r s (cut_from r s a xs) ys
unfolding cut_from
cut_from-append r s a [] ys = refl
cut_from-append r s a (f ∷ xs) ys = cut_from-append r s (step r s a.fault a f) xs ys

-- a stream up to a packet, the packet, and the packets behind
pub cuts-around : (r : ℕ) (s : CutSettings) (ps : List (List ℕ)) (p : List ℕ) (more : List (List ℕ))
    → cuts r s (ps ++ p ∷ more) ≡ cut_from r s (step r s (cuts r s ps).fault (cuts r s ps) (fact_behind s ps p)) (facts_from s (ps ++ p ∷ []) more)
unfolding cut_from
cuts-around r s ps p more =
    ap (cut_from r s uncut) (facts-around s ps p more)
    ∙ cut_from-append r s uncut (facts s ps) (fact_behind s ps p ∷ facts_from s (ps ++ p ∷ []) more)

pub cuts-more : (r : ℕ) (s : CutSettings) (ps : List (List ℕ)) (p : List ℕ)
    → cuts r s (ps ++ p ∷ []) ≡ step r s (cuts r s ps).fault (cuts r s ps) (fact_behind s ps p)
unfolding cut_from facts_from
cuts-more r s ps p = cuts-around r s ps p []

-- a fault stays, and nothing is cut behind it
pub record Stops (a : Cuts) (told : CutFault) (given : List SegmentPlan) : Type 0 where
  pub fault : a.fault ≡ Some told
  pub closed : a.closed ≡ given

step-stops : (r : ℕ) (s : CutSettings) (e : Option CutFault) (a : Cuts) (f : Fact) (told : CutFault) (given : List SegmentPlan)
    → e ≡ Some told → Stops a told given → Stops (step r s e a f) told given
step-stops r s None a f told given is stops = cc
step-stops r s (Some e) a f told given is stops = stops

pub stays : (r : ℕ) (s : CutSettings) (a : Cuts) (told : CutFault) (given : List SegmentPlan) (fs : List Fact) → Stops a told given → Stops (cut_from r s a fs) told given
unfolding cut_from
stays r s a told given [] stops = stops
stays r s a told given (f ∷ fs) stops = stays r s (step r s a.fault a f) told given fs (step-stops r s a.fault a f told given stops.fault stops)

ends : (r : ℕ) (s : CutSettings) (ps : List (List ℕ)) (told : CutFault) (given : List SegmentPlan) → Stops (cuts r s ps) told given → Ends r s ps told given
unfolding fault plans closed
ends r s ps told given stops =
    let f = stops.fault in
    record { fault = rw f refl; plans = rw f (append-nil _ ∙ stops.closed) }

-- a packet whose PTS has no time
pub step-lost : (r : ℕ) (s : CutSettings) (e : Option CutFault) (a : Cuts) (f : Fact) → e ≡ None → f.is_lost ≡ true → Stops (step r s e a f) Limit a.closed
step-lost r s None a f is lost = rw lost (record { fault = refl; closed = refl })
step-lost r s (Some e) a f is lost = cc

-- what the code holds, and a packet that isn't lost
pub step-sound : (r : ℕ) (s : CutSettings) (e : Option CutFault) (a : Cuts) (f : Fact) → e ≡ None → f.is_lost ≡ false
    → step r s e a f ≡ placed r s (top_after a.top (counted a.top f.look)) a.closed a.going f.tables (counted a.top f.look) (mark f.packet f.look (counted a.top f.look))
step-sound r s None a f is kept = rw kept refl
step-sound r s (Some e) a f is kept = cc

step-goes : (r : ℕ) (s : CutSettings) (a : Cuts) (f : Fact) (last : Option Stamp) (now : Option Gathered) → IsAt a last now → f.is_lost ≡ false
    → Goes (step r s a.fault a f) (taken r s now f.tables (counted last f.look) (mark f.packet f.look (counted last f.look))) (top_after last (counted last f.look)) a.closed
step-goes r s a f last now at kept =
    let placed = placed-goes r s (top_after a.top (counted a.top f.look)) a.closed a.going f.tables (counted a.top f.look) (mark f.packet f.look (counted a.top f.look)) in
    rw (step-sound r s a.fault a f at.sound kept, ← at.top, ← at.going) placed

-- a packet that isn't lost, behind others
more-goes : (r : ℕ) (s : CutSettings) (ps : List (List ℕ)) (f : Fact) (p : List ℕ) (last : Option Stamp) (now : Option Gathered)
    → fact_behind s ps p ≡ f → IsAt (cuts r s ps) last now → f.is_lost ≡ false
    → Goes (cuts r s (ps ++ p ∷ [])) (taken r s now f.tables (counted last f.look) (mark f.packet f.look (counted last f.look))) (top_after last (counted last f.look)) (closed r s ps)
unfolding closed
more-goes r s ps f p last now is at kept = rw (cuts-more r s ps p, is) (step-goes r s (cuts r s ps) f last now at kept)

-- a packet that is placed
pub record Placed (r : ℕ) (s : CutSettings) (ps : List (List ℕ)) (p : List ℕ) (last : Option Stamp) (now : Option Gathered) (plan : Option SegmentPlan) : Type 0 where
  pub at : IsAt (cuts r s (ps ++ p ∷ [])) last now
  pub plans : closed r s (ps ++ p ∷ []) ≡ closed r s ps ++ made plan

pub placed-more : (r : ℕ) (s : CutSettings) (ps : List (List ℕ)) (f : Fact) (p : List ℕ) (last : Option Stamp) (now after : Option Gathered) (plan : Option SegmentPlan)
    → fact_behind s ps p ≡ f → IsAt (cuts r s ps) last now → f.is_lost ≡ false
    → taken r s now f.tables (counted last f.look) (mark f.packet f.look (counted last f.look)) ≡ gives after plan
    → Placed r s ps p (top_after last (counted last f.look)) after plan
unfolding closed
placed-more r s ps f p last now after plan is at kept gave =
    let goes = subst (λ (out : Out). Goes (cuts r s (ps ++ p ∷ [])) out (top_after last (counted last f.look)) (closed r s ps)) gave (more-goes r s ps f p last now is at kept) in
    record { at = record { sound = goes.fault; top = goes.last refl; going = goes.going }; plans = goes.closed }

-- the fault behind a packet
pub placed-told : (r : ℕ) (s : CutSettings) (ps : List (List ℕ)) (f : Fact) (p : List ℕ) (last : Option Stamp) (now : Option Gathered)
    → fact_behind s ps p ≡ f → IsAt (cuts r s ps) last now → f.is_lost ≡ false
    → (cuts r s (ps ++ p ∷ [])).fault ≡ (taken r s now f.tables (counted last f.look) (mark f.packet f.look (counted last f.look))).fault
placed-told r s ps f p last now is at kept = (more-goes r s ps f p last now is at kept).fault

-- a packet that brings a fault
pub placed-fault : (r : ℕ) (s : CutSettings) (ps : List (List ℕ)) (f : Fact) (p : List ℕ) (last : Option Stamp) (now : Option Gathered) (told : CutFault) (more : List (List ℕ))
    → fact_behind s ps p ≡ f → IsAt (cuts r s ps) last now → f.is_lost ≡ false
    → taken r s now f.tables (counted last f.look) (mark f.packet f.look (counted last f.look)) ≡ faults told
    → Ends r s (ps ++ p ∷ more) told (closed r s ps)
unfolding closed
placed-fault r s ps f p last now told more is at kept brought =
    let goes = subst (λ (out : Out). Goes (cuts r s (ps ++ p ∷ [])) out (top_after last (counted last f.look)) (closed r s ps)) brought (more-goes r s ps f p last now is at kept) in
    let stops : Stops (cuts r s (ps ++ p ∷ [])) told (closed r s ps) = record { fault = goes.fault; closed = goes.closed ∙ append-nil _ } in
    ends r s (ps ++ p ∷ more) told (closed r s ps)
    (rw (cuts-around r s ps p more) (stays r s _ told (closed r s ps) _ (subst (λ (a : Cuts). Stops a told (closed r s ps)) (cuts-more r s ps p) stops)))

-- a packet whose PTS has no time
pub lost-fault : (r : ℕ) (s : CutSettings) (ps : List (List ℕ)) (p : List ℕ) (last : Option Stamp) (now : Option Gathered) (more : List (List ℕ))
    → IsAt (cuts r s ps) last now → (fact_behind s ps p).is_lost ≡ true → Ends r s (ps ++ p ∷ more) Limit (closed r s ps)
unfolding closed
lost-fault r s ps p last now more at lost =
    ends r s (ps ++ p ∷ more) Limit (closed r s ps)
    (rw (cuts-around r s ps p more) (stays r s _ Limit (closed r s ps) _ (step-lost r s (cuts r s ps).fault (cuts r s ps) (fact_behind s ps p) at.sound lost)))
