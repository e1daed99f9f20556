-- No packet and no end brings want of memory: that is told of a call, and never of a stream.
use Rattle.std.proofs.Common.{◌∙◌, inl, inr, ap}
use Rattle.std.specs.Prelude.{◌≡◌, ◌*◌, nat_le, nat_lt, ℕ, Bool, true, false, length, if◌then◌else◌, Option, Some, None}
use Rattle.ts_packet.specs.declared.lengths.TheConstants.{PACKET}
use Rattle.limits.specs.declared.TheConstants.{LAST_SEGMENT}
use Rattle.psi_tables.specs.InForce.{InForce}
use Rattle.pes_time.specs.declared.clock.Stamp.{Stamp}
use Rattle.cutter.specs.declared.settings.CutSettings.{CutSettings}
use Rattle.cutter.specs.declared.fault.CutFault.{CutFault}
use Rattle.cutter.specs.declared.fault.CutFault.TheVariants.{NoProgram, NoStart, LongSegment, BigSegment, Limit, NoMemory}
use Rattle.cutter.specs.Plans.{SegmentPlan}
use Rattle.cutter.specs.Points.{Mark}
use Rattle.cutter.specs.Segments.{Point, is_cut, is_long}
use Rattle.cutter.specs.SegmentState.{Gathered, Out, faults, gives, added, empty, next_of, plan_from, sized, renewed, cut, carried, taken_at, taken, finished, Refuses}

abbrev pub NeverMemory : Out → Type 0
NeverMemory out = out.fault ≡ Some NoMemory → ⊥

either : (test : Bool) (out other : Out) → NeverMemory out → NeverMemory other → NeverMemory (if test then out else other)
either true out other never never_other = never
either false out other never never_other = never_other

gives-never : (g : Option Gathered) (plan : Option SegmentPlan) → NeverMemory (gives g plan)
gives-never g plan told = let none : None ≡ Some NoMemory = told in cc

long-never : (n : ℕ) → NeverMemory (faults (LongSegment n))
long-never n told = let long : Some (LongSegment n) ≡ Some NoMemory = told in cc

big-never : (n : ℕ) → NeverMemory (faults (BigSegment n))
big-never n told = let big : Some (BigSegment n) ≡ Some NoMemory = told in cc

last-never : NeverMemory (faults Limit)
last-never told = let last : Some Limit ≡ Some NoMemory = told in cc

sized-never : (s : CutSettings) (g : Gathered) (plan : Option SegmentPlan) → NeverMemory (sized s g plan)
sized-never s g plan = either (nat_lt (PACKET * s.most) (length g.body)) (faults (BigSegment g.number)) (gives (Some g) plan) (big-never g.number) (gives-never (Some g) plan)

cut-never : (r : ℕ) (s : CutSettings) (g : Gathered) (p : Point) (m : Mark) → NeverMemory (cut r s g p m)
cut-never r s g p m =
    let plan = plan_from r s g (Some p.stamp) in
    either (is_long s plan) (faults (LongSegment g.number)) (if nat_le LAST_SEGMENT g.number then faults Limit else renewed r s g p m) (long-never g.number)
    (either (nat_le LAST_SEGMENT g.number) (faults Limit) (renewed r s g p m) last-never (sized-never s (added (next_of g p) m) (Some plan)))

carried-never : (s : CutSettings) (g : Option Gathered) (m : Mark) → NeverMemory (carried s g m)
carried-never s None m = gives-never None None
carried-never s (Some g) m = sized-never s (added g m) None

taken_at-never : (r : ℕ) (s : CutSettings) (g : Option Gathered) (p : Point) (m : Mark) → NeverMemory (taken_at r s g p m)
taken_at-never r s None p m = sized-never s (added (empty 0 false 0 p) m) None
taken_at-never r s (Some g) p m =
    either (is_cut s g.head p) (cut r s g p m) (sized s (added g m) None) (cut-never r s g p m) (sized-never s (added g m) None)

pub taken-never : (r : ℕ) (s : CutSettings) (g : Option Gathered) (t : Option InForce) (c : Option Stamp) (m : Mark) → NeverMemory (taken r s g t c m)
taken-never r s g None c m = carried-never s g m
taken-never r s g (Some t) None m = carried-never s g m
taken-never r s g (Some t) (Some c) m = taken_at-never r s g (record { stamp = c; tables = t }) m

ended-never : (r : ℕ) (s : CutSettings) (g : Gathered) → NeverMemory (if is_long s (plan_from r s g None) then faults (LongSegment g.number) else gives None (Some (plan_from r s g None)))
ended-never r s g =
    either (is_long s (plan_from r s g None)) (faults (LongSegment g.number)) (gives None (Some (plan_from r s g None))) (long-never g.number) (gives-never None (Some (plan_from r s g None)))

pub finished-never : (r : ℕ) (s : CutSettings) (t : Option InForce) (g : Option Gathered) → NeverMemory (finished r s t g)
finished-never r s None None = λ told. let none : Some NoProgram ≡ Some NoMemory = told in cc
finished-never r s (Some t) None = λ told. let none : Some NoStart ≡ Some NoMemory = told in cc
finished-never r s None (Some g) = ended-never r s g
finished-never r s (Some t) (Some g) = ended-never r s g

-- so it hides no fault
pub hides-none : (out : Out) (e : CutFault) → NeverMemory out → Refuses out e → e ≡ NoMemory → out.fault ≡ None
hides-none out e never (inl none) memory = none.1
hides-none out e never (inr brought) memory = absurd (never (ap (λ (o : Out). o.fault) brought ∙ ap (λ (f : CutFault). Some f) memory))
