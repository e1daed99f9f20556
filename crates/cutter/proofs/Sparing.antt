-- Where there is nothing to do.
use Rattle.std.proofs.Common.{◌≡◌, ◌≢◌, ◌∙◌, ◌⊎◌, ℕ, ◌*◌, ◌&&◌, Bool, true, false, is_some, nat_lt, nat_le, List, [], ◌∷◌, ◌++◌, take, drop, length, Option, Some, None, if◌then◌else◌, inl, inr, refl, sym, ap, subst, arith}
use Rattle.std.proofs.lemmas.List.{append-nil, length-take}
use Rattle.std.proofs.lemmas.Option.{none-some}
use Rattle.std.proofs.lemmas.Bool.{cases_Bool, false≢true}
use Rattle.ts_packet.specs.Fields.{random_access_indicator}
use Rattle.psi_tables.specs.InForce.{InForce}
use Rattle.psi_tables.specs.State.{Watched, BringsTables}
use Rattle.pes_time.specs.declared.clock.Stamp.{Stamp}
use Rattle.cutter.specs.declared.look.Look.{Look}
use Rattle.cutter.specs.declared.fault.CutFault.{CutFault}
use Rattle.cutter.specs.declared.fault.CutFault.TheVariants.{BigSegment, Limit, LongSegment, NoMemory}
use Rattle.cutter.specs.declared.settings.CutSettings.{CutSettings}
use Rattle.cutter.specs.declared.spool_cutter.SpoolCutter.TheInside.{Inside}
use Rattle.cutter.specs.Plans.{SegmentPlan}
use Rattle.cutter.specs.Stream.{is_packet, packets_of, in_force, is_accepted, starts_video, is_lost, pts_at, facts, Fact, BringsParts}
use Rattle.cutter.specs.Points.{Mark, mark, counted, top_after}
use Rattle.cutter.specs.Segments.{Point, Segment, bytes_of, AddsNothing, is_cut, is_long, is_big, plan_of}
use Rattle.cutter.specs.Framing.{Framing}
use Rattle.cutter.specs.Reels.{Filled}
use Rattle.cutter.specs.Cuts.{Cuts, HasSegment, uncut, going_on, with_mark, first_segment, next_segment, carried_on, pointed, placed, step, cut_from, cuts}
use Rattle.cutter.specs.Spooled.{Spooling}
use Rattle.cutter.specs.SegmentState.{Gathered, Opened, Out, IsIdle, LeavesAll, LeavesBody, Places, Refuses, added, cut, empty, faults, gives, gathered, held_in, carried, next_of, over, plan_from, renewed, sized, taken}
use Rattle.cutter.specs.State.{spooled, Keeps, held}
use Rattle.ts_packet.specs.declared.lengths.TheConstants.{PACKET}
use Rattle.limits.specs.declared.TheConstants.{LAST_SEGMENT}
use Rattle.cutter.proofs.Facts.{dropped}
use Rattle.cutter.proofs.Keeping.{Read, tables_in, tables-are, push-goes}
use Rattle.cutter.proofs.Telling.{taken-never, hides-none}

-- a packet that isn't accepted has no bytes for a body
pub no-bytes : (m : Mark) → AddsNothing m → length (bytes_of m) ≡ 0
no-bytes m none = rw none.bytes refl

-- what is read of a packet that isn't accepted
pub record IsUnseen (m : Mark) : Type 0 where
  pub adds : AddsNothing m
  pub point : m.counted ≡ None

never-starts : (t : Option InForce) (p : List ℕ) → is_accepted t p ≡ false → starts_video t p ≡ false
never-starts None p is = refl
never-starts (Some t) p is = rw is refl

no-entry : (top : Option Stamp) (look : Look) → look.is_entry ≡ false → counted top look ≡ None
no-entry top look is = rw is refl

pub read-unseen : (c : Inside) (p : List ℕ) (look : Look) (now : Option Gathered) (t : Option InForce) (c' : Option Stamp) → Read c p look now t c'
    → is_accepted (tables_in c) p ≡ false → IsUnseen (mark p look c')
read-unseen c p look now t c' r is =
    let start = never-starts (tables_in c) p is in
    let entry : look.is_entry ≡ false = ap (λ (l : Look). l.is_entry) r.look_is ∙ ap (λ starts. starts && random_access_indicator p) start in
    record {
      adds = record { bytes = ap (λ (l : Look). l.is_accepted) r.look_is ∙ is; start = ap (λ (l : Look). l.starts_video) r.look_is ∙ start };
      point = r.counted_is ∙ no-entry c.top look entry;
    }

-- bytes that are no packet aren't accepted
never-accepted : (t : Option InForce) (p : List ℕ) → is_packet p ≡ false → is_accepted t p ≡ false
never-accepted None p is = refl
never-accepted (Some t) p is = rw is refl

pub read-dropped : (c : Inside) (p : List ℕ) (look : Look) (now : Option Gathered) (t : Option InForce) (c' : Option Stamp) → Read c p look now t c'
    → is_packet p ≡ false → IsUnseen (mark p look c')
read-dropped c p look now t c' r is = read-unseen c p look now t c' r (never-accepted (tables_in c) p is)

leaves-body : (going : Option Opened) (m : Mark) → AddsNothing m → LeavesBody going m
leaves-body None m none = tt
leaves-body (Some g) m none = none

pub leaves-all : (going : Option Opened) (t : Option InForce) (c : Option Stamp) (m : Mark) → c ≡ None → AddsNothing m → LeavesAll going t c m
leaves-all going None c m point none = leaves-body going m none
leaves-all going (Some t) None m point none = leaves-body going m none
leaves-all going (Some t) (Some c) m point none = cc

-- a packet that is no counted point closes no plan
sized-none : (test : Bool) (e : CutFault) (g : Gathered) → (if test then faults e else gives (Some g) None).plan ≡ None
sized-none true e g = refl
sized-none false e g = refl

carried-none : (s : CutSettings) (g : Option Gathered) (m : Mark) → (carried s g m).plan ≡ None
carried-none s None m = refl
carried-none s (Some g) m = sized-none _ _ _

pub closes-none : (r : ℕ) (s : CutSettings) (g : Option Gathered) (t : Option InForce) (c : Option Stamp) (m : Mark) → c ≡ None → (taken r s g t c m).plan ≡ None
closes-none r s g None c m none = carried-none s g m
closes-none r s g (Some t) None m none = carried-none s g m
closes-none r s g (Some t) (Some c) m none = cc

-- whether a packet is accepted, as the code reads it
accepted-is : (c : Inside) (v : Spooling) (p : List ℕ) → spooled c ≡ v → Keeps c → is_accepted (tables_in c) p ≡ is_accepted (in_force v.settings v.list) p
accepted-is c v p is k = ap (λ (t : Option InForce). is_accepted t p) (tables-are c k ∙ ap (λ (x : Spooling). in_force x.settings x.list) is)

-- a packet that closes a plan is accepted
pub closes-accepted : (c : Inside) (v : Spooling) (p : List ℕ) (look : Look) (now : Option Gathered) (t : Option InForce) (c' : Option Stamp) (closed : Bool)
    → spooled c ≡ v → Keeps c → Read c p look now t c' → closed ≡ is_some (taken c.rendition c.settings now t c' (mark p look c')).plan → closed ≡ true
    → is_accepted (in_force v.settings v.list) p ≡ true
closes-accepted c v p look now t c' closed is k r told one = elim (cases_Bool (is_accepted (tables_in c) p)) [
  | inl accepted ↦ sym (accepted-is c v p is k) ∙ accepted
  | inr not_accepted ↦
      let none = closes-none c.rendition c.settings now t c' (mark p look c') (read-unseen c p look now t c' r not_accepted).point in
      absurd (false≢true (sym (told ∙ ap is_some none) ∙ one))
]

-- and so is one that wants memory where it is placed
pub placed-accepted : (c : Inside) (v : Spooling) (p : List ℕ) (look : Look) (now : Option Gathered) (t : Option InForce) (c' : Option Stamp) (e : CutFault)
    → spooled c ≡ v → Keeps c → Read c p look now t c' → (LeavesAll c.going t c' (mark p look c') → e ≢ NoMemory) → e ≡ NoMemory
    → is_accepted (in_force v.settings v.list) p ≡ true
placed-accepted c v p look now t c' e is k r spared memory = elim (cases_Bool (is_accepted (tables_in c) p)) [
  | inl accepted ↦ sym (accepted-is c v p is k) ∙ accepted
  | inr not_accepted ↦
      let unseen = read-unseen c p look now t c' r not_accepted in
      absurd (spared (leaves-all c.going t c' (mark p look c') unseen.point unseen.adds) memory)
]

-- the tables to which a packet brings something
pub brought-tables : (c : Inside) (v : Spooling) (p q : List ℕ) → spooled c ≡ v → Keeps c → q ≡ p → BringsTables c.watch q
    → BringsParts v.settings v.list p
brought-tables c v p q is k same parts =
    let watch : c.watch ≡ record { program = v.settings.program; packets = packets_of v.list }
    = k.watch ∙ ap (λ (x : Spooling). record { program = x.settings.program; packets = packets_of x.list }) is in
    subst (λ (w : Watched). BringsTables w p) watch (subst (λ (x : List ℕ). BringsTables c.watch x) same parts)

-- the segment that goes on hasn't too many packets
abbrev Fits : CutSettings → Option Segment → Type 0
Fits s None = Unit {0}
Fits s (Some g) = is_big s g.marks ≡ false

either-fits : (s : CutSettings) (test : Bool) (a b : Cuts) → (test ≡ true → Fits s a.going) → (test ≡ false → Fits s b.going) → Fits s (if test then a else b).going
either-fits s true a b first second = first refl
either-fits s false a b first second = second refl

on-fits : (s : CutSettings) (top : Option Stamp) (closed : List SegmentPlan) (plan : Option SegmentPlan) (g : Segment) → Fits s (going_on s top closed plan g).going
on-fits s top closed plan g = either-fits s (is_big s g.marks) _ _ (λ big. tt) (λ few. few)

carried-fits : (s : CutSettings) (top : Option Stamp) (closed : List SegmentPlan) (going : Option Segment) (m : Mark) → Fits s (carried_on s top closed going m).going
carried-fits s top closed None m = tt
carried-fits s top closed (Some g) m = on-fits s top closed None (with_mark g m)

pointed-fits : (r : ℕ) (s : CutSettings) (top : Option Stamp) (closed : List SegmentPlan) (going : Option Segment) (p : Point) (m : Mark) → Fits s (pointed r s top closed going p m).going
pointed-fits r s top closed None p m = on-fits s top closed None (first_segment p m)
pointed-fits r s top closed (Some g) p m =
    either-fits s (is_cut s g.head p) _ _
    (λ cut. either-fits s (is_long s (plan_of r s g (Some p.stamp))) _ _ (λ long. tt)
    (λ short. either-fits s (nat_le LAST_SEGMENT g.number) _ _ (λ last. tt)
    (λ few. on-fits s top closed (Some (plan_of r s g (Some p.stamp))) (next_segment g p m))))
    (λ stays. on-fits s top closed None (with_mark g m))

placed-fits : (r : ℕ) (s : CutSettings) (top : Option Stamp) (closed : List SegmentPlan) (going : Option Segment) (t : Option InForce) (c : Option Stamp) (m : Mark)
    → Fits s (placed r s top closed going t c m).going
placed-fits r s top closed going None c m = carried-fits s top closed going m
placed-fits r s top closed going (Some t) None m = carried-fits s top closed going m
placed-fits r s top closed going (Some t) (Some c) m = pointed-fits r s top closed going (record { stamp = c; tables = t }) m

step-fits : (r : ℕ) (s : CutSettings) (e : Option CutFault) (a : Cuts) (f : Fact) → Fits s a.going → Fits s (step r s e a f).going
step-fits r s (Some e) a f fits = fits
step-fits r s None a f fits =
    either-fits s f.is_lost _ _ (λ lost. tt)
    (λ kept. placed-fits r s (top_after a.top (counted a.top f.look)) a.closed a.going f.tables (counted a.top f.look) (mark f.packet f.look (counted a.top f.look)))

run-fits : (r : ℕ) (s : CutSettings) (a : Cuts) (fs : List Fact) → Fits s a.going → Fits s (cut_from r s a fs).going
unfolding cut_from
run-fits r s a [] fits = fits
run-fits r s a (f ∷ fs) fits = run-fits r s (step r s a.fault a f) fs (step-fits r s a.fault a f fits)

-- and so the body that is held of it is none too big
abbrev IsSmall : CutSettings → Option Gathered → Type 0
IsSmall s None = Unit {0}
IsSmall s (Some g) = nat_lt (PACKET * s.most) (length g.body) ≡ false

held-small : (s : CutSettings) (going : Option Segment) → Fits s going → IsSmall s (held going)
unfolding gathered
held-small s None fits = tt
held-small s (Some g) fits = fits

keeps-small : (c : Inside) → Keeps c → IsSmall c.settings (held_in c.going c.reel)
keeps-small c k =
    subst (IsSmall c.settings) k.cuts.going (held-small c.settings (cuts c.rendition c.settings c.fed.items).going (run-fits c.rendition c.settings uncut (facts c.settings c.fed.items) tt))

-- it stays so behind a packet of which it takes nothing
sized-sound : (test : Bool) (e : CutFault) (g : Gathered) → test ≡ false → (if test then faults e else gives (Some g) None).fault ≡ None
sized-sound true e g is = cc
sized-sound false e g is = refl

carried-sound : (s : CutSettings) (g : Option Gathered) (m : Mark) → IsSmall s g → bytes_of m ≡ [] → (carried s g m).fault ≡ None
carried-sound s None m small none = refl
carried-sound s (Some g) m small none =
    sized-sound _ _ _ (ap (λ (b : List ℕ). nat_lt (PACKET * s.most) (length b)) (ap (λ (b : List ℕ). g.body ++ b) none ∙ append-nil g.body) ∙ small)

taken-sound : (r : ℕ) (s : CutSettings) (g : Option Gathered) (t : Option InForce) (c : Option Stamp) (m : Mark) → c ≡ None → IsSmall s g → bytes_of m ≡ [] → (taken r s g t c m).fault ≡ None
taken-sound r s g None c m point small none = carried-sound s g m small none
taken-sound r s g (Some t) None m point small none = carried-sound s g m small none
taken-sound r s g (Some t) (Some c) m point small none = cc

only-memory : (out : Out) (e : CutFault) → Refuses out e → out.fault ≡ None → e ≡ NoMemory
only-memory out e (inl memory) sound = memory.0
only-memory out e (inr brought) sound = let is = ap (λ (o : Out). o.fault) brought in cc

-- bytes that are no packet bring no fault
pub dropped-sound : (c : Inside) (p : List ℕ) (look : Look) (now : Option Gathered) (t : Option InForce) (c' : Option Stamp) (e : CutFault) → Keeps c → Read c p look now t c'
    → is_packet p ≡ false → Refuses (taken c.rendition c.settings now t c' (mark p look c')) e → e ≡ NoMemory
dropped-sound c p look now t c' e k r is refused =
    let unseen = read-dropped c p look now t c' r is in
    let small : IsSmall c.settings now = subst (IsSmall c.settings) (sym r.going) (keeps-small c k) in
    let none : bytes_of (mark p look c') ≡ [] = rw unseen.adds.bytes refl in
    only-memory _ e refused (taken-sound c.rendition c.settings now t c' (mark p look c') unseen.point small none)

pub never-lost : (gap : ℕ) (list : List ℕ) (t : Option InForce) (p q : List ℕ) → q ≡ p → is_packet p ≡ false → is_lost gap list (pts_at t q) ≡ true → ⊥
never-lost gap list t p q same is lost =
    let none : pts_at t q ≡ None = ap (pts_at t) same ∙ (dropped gap list t p is).pts in
    false≢true (sym (ap (is_lost gap list) none) ∙ lost)

-- where no segment goes on, a reel holds none of one
pub record HoldsNone (reel : Filled) : Type 0 where
  pub body : reel.body ≡ []
  pub frames : reel.framing.ended ≡ []

idle-none : (going : Option Opened) (reel : Filled) → IsIdle going reel → None ≡ held_in going reel → HoldsNone reel
idle-none None reel idle is = record { body = idle.0; frames = ap (λ (f : Framing). f.ended) idle.1 }
idle-none (Some g) reel idle is = cc

pub keeps-none : (c : Inside) (v : Spooling) → spooled c ≡ v → Keeps c → (cuts v.rendition v.settings v.list).going ≡ None → HoldsNone c.reel
keeps-none c v is k none =
    let gone : (cuts c.rendition c.settings c.fed.items).going ≡ None = ap (λ (x : Spooling). (cuts x.rendition x.settings x.list).going) is ∙ none in
    idle-none c.going c.reel k.idle (sym (ap held gone) ∙ k.cuts.going)

-- no part of what is no more
pub no-part : {A : Type 0} (xs : List A) (at n : ℕ) → drop at xs ≡ [] → length (take n (drop at xs)) ≡ 0
no-part xs at n none = omega (arith, length-take n (drop at xs), ap length none)

-- a segment goes on behind what brings no fault
abbrev Goes : Out → Type 0
Goes out = out.fault ≡ None → out.going ≢ None

faults-goes : (e : CutFault) → Goes (faults e)
faults-goes e sound none = none-some e (sym sound)

gives-goes : (g : Gathered) (plan : Option SegmentPlan) → Goes (gives (Some g) plan)
gives-goes g plan sound none = none-some g (sym none)

either-goes : (test : Bool) (a b : Out) → Goes a → Goes b → Goes (if test then a else b)
either-goes true a b first second = first
either-goes false a b first second = second

sized-goes : (s : CutSettings) (g : Gathered) (plan : Option SegmentPlan) → Goes (sized s g plan)
sized-goes s g plan =
    either-goes (nat_lt (PACKET * s.most) (length g.body)) (faults (BigSegment g.number)) (gives (Some g) plan) (faults-goes (BigSegment g.number)) (gives-goes g plan)

cut-goes : (r : ℕ) (s : CutSettings) (g : Gathered) (p : Point) (m : Mark) → Goes (cut r s g p m)
cut-goes r s g p m =
    either-goes (is_long s (plan_from r s g (Some p.stamp))) (faults (LongSegment g.number)) (if nat_le LAST_SEGMENT g.number then faults Limit else renewed r s g p m)
    (faults-goes (LongSegment g.number))
    (either-goes (nat_le LAST_SEGMENT g.number) (faults Limit) (renewed r s g p m) (faults-goes Limit)
    (sized-goes s (added (next_of g p) m) (Some (plan_from r s g (Some p.stamp)))))

-- a packet of which nothing is taken closes no plan
abbrev Leaves : ℕ → CutSettings → Option Opened → Filled → Option InForce → Option Stamp → Mark → Type 0
Leaves r s going f t c m = LeavesAll going t c m × ((taken r s (held_in going f) t c m).plan ≡ None)

taken-goes : (r : ℕ) (s : CutSettings) (going : Option Opened) (f : Filled) (t : Option InForce) (c : Option Stamp) (m : Mark)
    → Leaves r s going f t c m ⊎ Goes (taken r s (held_in going f) t c m)
taken-goes r s None f None c m = inl (tt, refl)
taken-goes r s None f (Some t) None m = inl (tt, refl)
taken-goes r s None f (Some t) (Some c) m = inr (sized-goes s (added (empty 0 false 0 (record { stamp = c; tables = t })) m) None)
taken-goes r s (Some g) f None c m = inr (sized-goes s (added (over g f) m) None)
taken-goes r s (Some g) f (Some t) None m = inr (sized-goes s (added (over g f) m) None)
taken-goes r s (Some g) f (Some t) (Some c) m =
    let p : Point = record { stamp = c; tables = t } in
    inr (either-goes (is_cut s g.head p) (cut r s (over g f) p m) (sized s (added (over g f) m) None) (cut-goes r s (over g f) p m) (sized-goes s (added (over g f) m) None))

-- a segment goes on behind a packet that wants memory where it is placed
pub placed-goes : (c : Inside) (v : Spooling) (p : List ℕ) (look : Look) (now : Option Gathered) (t : Option InForce) (c' : Option Stamp) (e : CutFault)
    → spooled c ≡ v → Keeps c → Read c p look now t c' → (LeavesAll c.going t c' (mark p look c') → e ≢ NoMemory)
    → Refuses (taken c.rendition c.settings now t c' (mark p look c')) e → e ≡ NoMemory → HasSegment v.rendition v.settings (v.list ++ p ∷ [])
placed-goes c v p look now t c' e is k r spared told memory =
    let out = taken c.rendition c.settings (held_in c.going c.reel) t c' (mark p look c') in
    let same : taken c.rendition c.settings now t c' (mark p look c') ≡ out = ap (λ (g : Option Gathered). taken c.rendition c.settings g t c' (mark p look c')) r.going in
    let sound = hides-none _ e (taken-never c.rendition c.settings now t c' (mark p look c')) told memory in
    elim (taken-goes c.rendition c.settings c.going c.reel t c' (mark p look c')) [
      | inl left ↦ absurd (spared left.0 memory)
      | inr goes ↦ let none = ap (λ (o : Out). o.fault) (sym same) ∙ sound in push-goes c v p look now t c' out is k r same none (goes none)
    ]

-- and behind one that closes a plan
pub closes-goes : (c : Inside) (v : Spooling) (p : List ℕ) (look : Look) (now : Option Gathered) (t : Option InForce) (c' : Option Stamp) (after : Filled) (opened : Option Opened) (closed : Bool)
    → spooled c ≡ v → Keeps c → Read c p look now t c' → Places (taken c.rendition c.settings now t c' (mark p look c')) c.reel after opened closed
    → closed ≡ true → HasSegment v.rendition v.settings (v.list ++ p ∷ [])
closes-goes c v p look now t c' after opened closed is k r placed one =
    let out = taken c.rendition c.settings (held_in c.going c.reel) t c' (mark p look c') in
    let same : taken c.rendition c.settings now t c' (mark p look c') ≡ out = ap (λ (g : Option Gathered). taken c.rendition c.settings g t c' (mark p look c')) r.going in
    elim (taken-goes c.rendition c.settings c.going c.reel t c' (mark p look c')) [
      | inl left ↦ absurd (false≢true (sym (placed.told ∙ ap (λ (o : Out). is_some o.plan) same ∙ ap is_some left.1) ∙ one))
      | inr goes ↦
          let none = ap (λ (o : Out). o.fault) (sym same) ∙ ap (λ (o : Out). o.fault) placed.going in
          push-goes c v p look now t c' out is k r same none (goes none)
    ]
