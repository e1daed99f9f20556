-- A stream that ends here.
use Rattle.std.proofs.Common.{◌≡◌, ◌∙◌, ◌⊎◌, inl, inr, ℕ, Bool, true, false, List, [], ◌∷◌, ◌++◌, Option, Some, None, is_none, if◌then◌else◌, refl, ap, sym, subst, All}
use Rattle.std.proofs.lemmas.List.{append-nil, append_assoc}
use Rattle.psi_tables.specs.InForce.{InForce, tables_behind}
use Rattle.psi_tables.specs.State.{Watched}
use Rattle.cutter.specs.declared.settings.CutSettings.{CutSettings}
use Rattle.cutter.specs.declared.fault.CutFault.{CutFault}
use Rattle.cutter.specs.declared.fault.CutFault.TheVariants.{NoMemory, LongSegment}
use Rattle.cutter.specs.declared.spool_cutter.SpoolCutter.TheInside.{Inside}
use Rattle.cutter.specs.Spooled.{Spooling, joined, Closes}
use Rattle.cutter.specs.Plans.{SegmentPlan}
use Rattle.cutter.specs.Stream.{in_force}
use Rattle.cutter.specs.Segments.{Segment, is_long, plan_of}
use Rattle.cutter.specs.Cuts.{cuts, closed, fault, plans, made, end_fault, last_plan, Ends}
use Rattle.cutter.specs.SegmentState.{Gathered, Out, gathered, Refuses, gives, faults, finished, held_in, Places}
use Rattle.cutter.specs.Reels.{Filled}
use Rattle.cutter.specs.Ordered.{IsPacketLong}
use Rattle.cutter.proofs.Ordering.{finish-order}
use Rattle.cutter.proofs.Telling.{finished-never, hides-none}
use Rattle.pes_time.specs.declared.clock.Stamp.{Stamp}
use Rattle.cutter.specs.State.{held, spooled, Keeps, IsAt}
use Rattle.cutter.proofs.Gathering.{plan_of-gathered}

-- the plans of the spools, with one more
more-plans : (turned before after were whole : List SegmentPlan) (plan : Option SegmentPlan) → turned ++ before ≡ were → after ≡ before ++ made plan → whole ≡ were ++ made plan → turned ++ after ≡ whole
more-plans turned before after were whole plan so_far grown made_is =
    ap (λ list. turned ++ list) grown ∙ sym (append_assoc turned before (made plan)) ∙ ap (λ list. list ++ made plan) so_far ∙ sym made_is

pub all-more : (c : Inside) (v : Spooling) (after : List SegmentPlan) (plan : Option SegmentPlan) (whole : List SegmentPlan) → spooled c ≡ v → Keeps c
    → after ≡ c.reel.plans ++ made plan → whole ≡ closed v.rendition v.settings v.list ++ made plan → joined v.turned ++ after ≡ whole
all-more c v after plan whole is k grown made_is =
    more-plans (joined v.turned) v.filled after (closed v.rendition v.settings v.list) whole plan
    (subst (λ (x : Spooling). joined x.turned ++ x.filled ≡ closed x.rendition x.settings x.list) is k.plans)
    (grown ∙ ap (λ (x : Spooling). x.filled ++ made plan) is) made_is

-- what the end makes of the segment that goes on
pub record Comes (told : Option CutFault) (given : List SegmentPlan) (out : Out) : Type 0 where
  pub fault : told ≡ out.fault
  pub plans : given ≡ made out.plan

abbrev last : ℕ → CutSettings → Option InForce → Option Segment → List SegmentPlan
last r s t going = if is_none (end_fault r s t going) then last_plan r s going else []

long-comes : (test : Bool) (told : CutFault) (plan : SegmentPlan)
    → Comes (if test then Some told else None) (if is_none (if test then Some told else None) then plan ∷ [] else []) (if test then faults told else gives None (Some plan))
long-comes true told plan = record { fault = refl; plans = refl }
long-comes false told plan = record { fault = refl; plans = refl }

comes : (r : ℕ) (s : CutSettings) (t : Option InForce) (going : Option Segment) → Comes (end_fault r s t going) (last r s t going) (finished r s t (held going))
unfolding gathered plan_of
comes r s None None = record { fault = refl; plans = refl }
comes r s (Some t) None = record { fault = refl; plans = refl }
comes r s None (Some g) = rw (← plan_of-gathered r s g None) (long-comes (is_long s (plan_of r s g None)) (LongSegment g.number) (plan_of r s g None))
comes r s (Some t) (Some g) = rw (← plan_of-gathered r s g None) (long-comes (is_long s (plan_of r s g None)) (LongSegment g.number) (plan_of r s g None))

-- the fault and the plans of a stream that is cut so far without a fault, and ends
record Ending (r : ℕ) (s : CutSettings) (ps : List (List ℕ)) (out : Out) : Type 0 where
  pub fault : fault r s ps ≡ out.fault
  pub plans : plans r s ps ≡ closed r s ps ++ made out.plan

ending : (r : ℕ) (s : CutSettings) (ps : List (List ℕ)) (top : Option Stamp) (now : Option Gathered) → IsAt (cuts r s ps) top now
    → Ending r s ps (finished r s (in_force s ps) now)
unfolding fault plans
ending r s ps top now at =
    let f = at.sound in
    let c = comes r s (in_force s ps) (cuts r s ps).going in
    rw (← at.going) (record { fault = rw f c.fault; plans = rw f (ap (λ list. closed r s ps ++ list) c.plans) })

kept-ending : (c : Inside) (now : Option Gathered) (t : Option InForce) → Keeps c → now ≡ held_in c.going c.reel → t ≡ tables_behind c.watch.program c.watch.packets
    → Ending c.rendition c.settings c.fed.items (finished c.rendition c.settings t now)
kept-ending c now t k going tables =
    let t' : t ≡ in_force c.settings c.fed.items = tables ∙ ap (λ (w : Watched). tables_behind w.program w.packets) k.watch in
    rw (t', going) (ending c.rendition c.settings c.fed.items c.top (held_in c.going c.reel) k.cuts)

pub finish-plan : (c : Inside) (v : Spooling) (now : Option Gathered) (t : Option InForce) (plan : Option SegmentPlan) → spooled c ≡ v → Keeps c → now ≡ held_in c.going c.reel
    → t ≡ tables_behind c.watch.program c.watch.packets → finished c.rendition c.settings t now ≡ gives None plan
    → plans v.rendition v.settings v.list ≡ closed v.rendition v.settings v.list ++ made plan
finish-plan c v now t plan is k going tables gave =
    rw (← is) ((kept-ending c now t k going tables).plans ∙ ap (λ (out : Out). closed c.rendition c.settings c.fed.items ++ made out.plan) gave)

pub finish-sound : (c : Inside) (v : Spooling) (now : Option Gathered) (t : Option InForce) (plan : Option SegmentPlan) → spooled c ≡ v → Keeps c → now ≡ held_in c.going c.reel
    → t ≡ tables_behind c.watch.program c.watch.packets → finished c.rendition c.settings t now ≡ gives None plan
    → fault v.rendition v.settings v.list ≡ None
finish-sound c v now t plan is k going tables gave =
    rw (← is) ((kept-ending c now t k going tables).fault ∙ ap (λ (out : Out). out.fault) gave)

pub finish-fault : (c : Inside) (v : Spooling) (now : Option Gathered) (t : Option InForce) (e : CutFault) → spooled c ≡ v → Keeps c → now ≡ held_in c.going c.reel
    → t ≡ tables_behind c.watch.program c.watch.packets → Refuses (finished c.rendition c.settings t now) e
    → (e ≡ NoMemory) ⊎ Ends v.rendition v.settings v.list e (closed v.rendition v.settings v.list)
finish-fault c v now t e is k going tables (inl none) = inl none.0
finish-fault c v now t e is k going tables (inr brought) =
    let end = kept-ending c now t k going tables in
    inr (rw (← is) (record {
      fault = end.fault ∙ ap (λ (out : Out). out.fault) brought;
      plans = end.plans ∙ ap (λ (out : Out). closed c.rendition c.settings c.fed.items ++ made out.plan) brought ∙ append-nil _;
    }))

-- want of memory hides no fault
pub finish-scarce : (c : Inside) (v : Spooling) (now : Option Gathered) (t : Option InForce) (e : CutFault) → spooled c ≡ v → Keeps c → now ≡ held_in c.going c.reel
    → t ≡ tables_behind c.watch.program c.watch.packets → Refuses (finished c.rendition c.settings t now) e
    → e ≡ NoMemory → fault v.rendition v.settings v.list ≡ None
finish-scarce c v now t e is k going tables told memory =
    rw (← is) ((kept-ending c now t k going tables).fault ∙ hides-none _ e (finished-never c.rendition c.settings t now) told memory)

-- the plan that the end closes
pub finish-closes : (c : Inside) (v : Spooling) (now : Option Gathered) (t : Option InForce) (after : Filled) → spooled c ≡ v → Keeps c → All IsPacketLong c.fed.items → now ≡ held_in c.going c.reel
    → t ≡ tables_behind c.watch.program c.watch.packets → Places (finished c.rendition c.settings t now) c.reel after None true
    → Closes v.rendition v.settings (closed v.rendition v.settings v.list) (plans v.rendition v.settings v.list) v.filled after.plans true
finish-closes c v now t after is k long going tables placed =
    let plan = (finished c.rendition c.settings t now).plan in
    let made_is = finish-plan c v now t plan is k going tables placed.going in
    record {
      plan = plan;
      plans = made_is;
      filled = rw (← is) placed.plans;
      told = placed.told;
      order = finish-order v plan (subst (λ (x : Spooling). All IsPacketLong x.list) is long) made_is;
    }

-- all plans of the stream are there
pub finish-all : (c : Inside) (v : Spooling) (now : Option Gathered) (t : Option InForce) (after : Filled) → spooled c ≡ v → Keeps c → now ≡ held_in c.going c.reel
    → t ≡ tables_behind c.watch.program c.watch.packets → Places (finished c.rendition c.settings t now) c.reel after None true
    → joined v.turned ++ after.plans ≡ plans v.rendition v.settings v.list
finish-all c v now t after is k going tables placed =
    let plan = (finished c.rendition c.settings t now).plan in
    all-more c v after.plans plan _ is k placed.plans (finish-plan c v now t plan is k going tables placed.going)
