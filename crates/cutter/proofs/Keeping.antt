-- What a cutter keeps, behind each of its calls.
use Rattle.std.proofs.Common.{◌≡◌, ◌≢◌, ◌∙◌, ◌⊎◌, inl, inr, ℕ, ◌<◌, ◌^◌, Bool, true, false, List, [], ◌∷◌, ◌++◌, length, Option, None, refl, ap, sym, subst, All, arith}
use Rattle.psi_tables.specs.InForce.{InForce, tables_behind}
use Rattle.psi_tables.specs.State.{Watched}
use Rattle.pes_time.specs.Times.{Pushed as Timed}
use Rattle.pes_time.specs.declared.clock.Stamp.{Stamp}
use Rattle.cutter.specs.declared.look.Look.{Look}
use Rattle.cutter.specs.declared.fault.CutFault.{CutFault}
use Rattle.cutter.specs.declared.settings.CutSettings.{CutSettings}
use Rattle.cutter.specs.declared.fault.CutFault.TheVariants.{NoMemory, Limit}
use Rattle.cutter.specs.declared.spool_cutter.SpoolCutter.TheInside.{Inside}
use Rattle.cutter.specs.Spooled.{Spooling, joined, Closes}
use Rattle.cutter.specs.Plans.{SegmentPlan}
use Rattle.cutter.specs.Stream.{packet_list, packets_of, pts_from, pts_list, pts_at, with_pts, in_force, look_by, is_lost, facts_from, Fact, fact_behind}
use Rattle.cutter.specs.Points.{mark, counted, top_after}
use Rattle.cutter.specs.Cuts.{cut_from, cuts, closed, made, Ends, HasSegment}
use Rattle.cutter.specs.SegmentState.{Gathered, Opened, Out, taken, gives, held_in, Places, Refuses}
use Rattle.cutter.specs.Reels.{Filled, unfilled}
use Rattle.cutter.specs.Ordered.{IsPacketLong}
use Rattle.cutter.specs.State.{spooled, held, Keeps}
use Rattle.cutter.proofs.Facts.{packets_of-more, pts_list-more, pts_list-length}
use Rattle.cutter.proofs.Running.{Placed, placed-more, placed-fault, placed-told, lost-fault}
use Rattle.cutter.proofs.Ordering.{push-order}
use Rattle.cutter.proofs.Ending.{all-more}
use Rattle.cutter.proofs.Telling.{taken-never, hides-none}

-- a new one
pub new-keeps : (c : Inside) → c.watch ≡ record { program = c.settings.program; packets = [] } → c.clock ≡ record { gap = c.settings.gap; list = [] }
    → c.fed.items ≡ [] → c.top ≡ None → c.going ≡ None → c.reel ≡ unfilled → c.turned.items ≡ [] → Keeps c
unfolding cut_from packets_of pts_from facts_from closed
new-keeps c watch clock fed top going reel turned = record {
  watch = rw fed watch;
  clock = rw fed clock;
  cuts = rw (fed, going) (record { sound = refl; top = sym top; going = refl });
  idle = rw (going, reel) (refl, refl);
  plans = rw (fed, reel, turned) refl;
}

-- what the code reads of what it keeps is what the packet is
abbrev pub tables_in : Inside → Option InForce
tables_in c = tables_behind c.watch.program c.watch.packets

pub tables-are : (c : Inside) → Keeps c → tables_in c ≡ in_force c.settings c.fed.items
tables-are c k = ap (λ (w : Watched). tables_behind w.program w.packets) k.watch

by-kept : {A : Type 0} (c : Inside) (read : ℕ → List ℕ → Option InForce → A) → Keeps c
    → read c.clock.gap c.clock.list (tables_in c) ≡ read c.settings.gap (pts_list c.settings c.fed.items) (in_force c.settings c.fed.items)
by-kept c read k =
    ap (λ (t : Timed). read t.gap t.list (tables_in c)) k.clock ∙ ap (read c.settings.gap (pts_list c.settings c.fed.items)) (tables-are c k)

-- what the code found out of a packet
pub record Read (c : Inside) (p : List ℕ) (look : Look) (now : Option Gathered) (t : Option InForce) (c' : Option Stamp) : Type 0 where
  pub look_is : look ≡ look_by c.clock.gap c.clock.list (tables_in c) p
  pub kept : is_lost c.clock.gap c.clock.list (pts_at (tables_in c) p) ≡ false
  pub going : now ≡ held_in c.going c.reel
  pub tables : t ≡ tables_in c
  pub counted_is : c' ≡ counted c.top look

-- the same of an arrival, whose value is the packet's
pub read-of : (c : Inside) (p q : List ℕ) (look : Look) (now : Option Gathered) (t : Option InForce) (c' : Option Stamp) → q ≡ p
    → look ≡ look_by c.clock.gap c.clock.list (tables_in c) q → is_lost c.clock.gap c.clock.list (pts_at (tables_in c) q) ≡ false
    → now ≡ held_in c.going c.reel → t ≡ tables_in c → c' ≡ counted c.top look → Read c p look now t c'
read-of c p q look now t c' same sight kept going tables point =
    subst (λ (x : List ℕ). Read c x look now t c') same (record { look_is = sight; kept = kept; going = going; tables = tables; counted_is = point })

abbrev fact : Inside → List ℕ → Fact
fact c p = fact_behind c.settings c.fed.items p

-- the same, said of the packet
taken-is : (c : Inside) (p : List ℕ) (look : Look) (now : Option Gathered) (t : Option InForce) (c' : Option Stamp) → Keeps c → Read c p look now t c'
    → taken c.rendition c.settings now t c' (mark p look c')
    ≡ taken c.rendition c.settings (held_in c.going c.reel) (fact c p).tables (counted c.top (fact c p).look) (mark p (fact c p).look (counted c.top (fact c p).look))
taken-is c p look now t c' k r =
    let sight : look ≡ (fact c p).look = r.look_is ∙ by-kept c (λ gap list tables. look_by gap list tables p) k in
    let point : c' ≡ counted c.top (fact c p).look = r.counted_is ∙ ap (counted c.top) sight in
    rw (r.going, r.tables, tables-are c k, point, sight) refl

lost-is : (c : Inside) (p : List ℕ) (test : Bool) → Keeps c → is_lost c.clock.gap c.clock.list (pts_at (tables_in c) p) ≡ test → (fact c p).is_lost ≡ test
lost-is c p test k is = sym (by-kept c (λ gap list tables. is_lost gap list (pts_at tables p)) k) ∙ is

placed-by : (c : Inside) (p : List ℕ) (look : Look) (now after : Option Gathered) (t : Option InForce) (c' : Option Stamp) (plan : Option SegmentPlan)
    → Keeps c → Read c p look now t c' → taken c.rendition c.settings now t c' (mark p look c') ≡ gives after plan
    → Placed c.rendition c.settings c.fed.items p (top_after c.top (counted c.top (fact c p).look)) after plan
placed-by c p look now after t c' plan k r gave =
    placed-more c.rendition c.settings c.fed.items (fact c p) p c.top (held_in c.going c.reel) after plan refl k.cuts (lost-is c p false k r.kept) (sym (taken-is c p look now t c' k r) ∙ gave)

-- the plan that a packet closes
pub push-plan : (c : Inside) (v : Spooling) (p : List ℕ) (look : Look) (now after : Option Gathered) (t : Option InForce) (c' : Option Stamp) (plan : Option SegmentPlan)
    → spooled c ≡ v → Keeps c → Read c p look now t c' → taken c.rendition c.settings now t c' (mark p look c') ≡ gives after plan
    → closed v.rendition v.settings (v.list ++ p ∷ []) ≡ closed v.rendition v.settings v.list ++ made plan
push-plan c v p look now after t c' plan is k r gave = rw (← is) (placed-by c p look now after t c' plan k r gave).plans

-- no fault stands behind a packet that is placed
pub push-sound : (c : Inside) (v : Spooling) (p : List ℕ) (look : Look) (now after : Option Gathered) (t : Option InForce) (c' : Option Stamp) (plan : Option SegmentPlan)
    → spooled c ≡ v → Keeps c → Read c p look now t c' → taken c.rendition c.settings now t c' (mark p look c') ≡ gives after plan
    → (cuts v.rendition v.settings (v.list ++ p ∷ [])).fault ≡ None
push-sound c v p look now after t c' plan is k r gave = rw (← is) (placed-by c p look now after t c' plan k r gave).at.sound

-- a segment goes on behind a packet, where what it made of what was held goes on
pub push-goes : (c : Inside) (v : Spooling) (p : List ℕ) (look : Look) (now : Option Gathered) (t : Option InForce) (c' : Option Stamp) (out : Out)
    → spooled c ≡ v → Keeps c → Read c p look now t c' → taken c.rendition c.settings now t c' (mark p look c') ≡ out → out.fault ≡ None → out.going ≢ None
    → HasSegment v.rendition v.settings (v.list ++ p ∷ [])
push-goes c v p look now t c' out is k r made sound goes =
    let gave = made ∙ ap (λ (f : Option CutFault). record out { fault = f }) sound in
    let at = (placed-by c p look now out.going t c' out.plan k r gave).at in
    subst (λ (x : Spooling). HasSegment x.rendition x.settings (x.list ++ p ∷ [])) is (λ none. goes (sym at.going ∙ ap held none))

-- the plan that a packet closes, as it stands in the spool
pub push-closes : (c : Inside) (v : Spooling) (p : List ℕ) (look : Look) (now : Option Gathered) (t : Option InForce) (c' : Option Stamp) (after : Filled) (opened : Option Opened) (told : Bool)
    → spooled c ≡ v → Keeps c → All IsPacketLong c.fed.items → length p ≡ 188 → Read c p look now t c' → Places (taken c.rendition c.settings now t c' (mark p look c')) c.reel after opened told
    → Closes v.rendition v.settings (closed v.rendition v.settings v.list) (closed v.rendition v.settings (v.list ++ p ∷ [])) v.filled after.plans told
push-closes c v p look now t c' after opened told is k long size r placed =
    let plan = (taken c.rendition c.settings now t c' (mark p look c')).plan in
    let made_is = push-plan c v p look now _ t c' plan is k r placed.going in
    record {
      plan = plan;
      plans = made_is;
      filled = rw (← is) placed.plans;
      told = placed.told;
      order = push-order v p plan (subst (λ (x : Spooling). All IsPacketLong x.list) is long) size made_is;
    }

-- all plans that are closed are there
pub push-all : (c : Inside) (v : Spooling) (p : List ℕ) (look : Look) (now : Option Gathered) (t : Option InForce) (c' : Option Stamp) (after : Filled) (opened : Option Opened) (told : Bool)
    → spooled c ≡ v → Keeps c → Read c p look now t c' → Places (taken c.rendition c.settings now t c' (mark p look c')) c.reel after opened told
    → joined v.turned ++ after.plans ≡ closed v.rendition v.settings (v.list ++ p ∷ [])
push-all c v p look now t c' after opened told is k r placed =
    let plan = (taken c.rendition c.settings now t c' (mark p look c')).plan in
    all-more c v after.plans plan _ is k placed.plans (push-plan c v p look now _ t c' plan is k r placed.going)

-- the fault that a packet brings
abbrev pub Told : ℕ → CutSettings → List (List ℕ) → List ℕ → CutFault → Type 0
Told r s list p e = (e ≡ NoMemory) ⊎ ((more : List (List ℕ)) → Ends r s (list ++ p ∷ more) e (closed r s list))

pub push-fault : (c : Inside) (v : Spooling) (p : List ℕ) (look : Look) (now : Option Gathered) (t : Option InForce) (c' : Option Stamp) (e : CutFault)
    → spooled c ≡ v → Keeps c → Read c p look now t c' → Refuses (taken c.rendition c.settings now t c' (mark p look c')) e → Told v.rendition v.settings v.list p e
push-fault c v p look now t c' e is k r (inl none) = inl none.0
push-fault c v p look now t c' e is k r (inr brought) =
    inr (rw (← is) (λ more. placed-fault c.rendition c.settings c.fed.items (fact c p) p c.top (held_in c.going c.reel) e more refl k.cuts (lost-is c p false k r.kept) (sym (taken-is c p look now t c' k r) ∙ brought)))

-- want of memory hides no fault
pub push-scarce : (c : Inside) (v : Spooling) (p : List ℕ) (look : Look) (now : Option Gathered) (t : Option InForce) (c' : Option Stamp) (e : CutFault)
    → spooled c ≡ v → Keeps c → Read c p look now t c' → Refuses (taken c.rendition c.settings now t c' (mark p look c')) e → e ≡ NoMemory
    → (cuts v.rendition v.settings (v.list ++ p ∷ [])).fault ≡ None
push-scarce c v p look now t c' e is k r told memory =
    rw (← is, placed-told c.rendition c.settings c.fed.items (fact c p) p c.top (held_in c.going c.reel) refl k.cuts (lost-is c p false k r.kept), ← taken-is c p look now t c' k r)
    (hides-none _ e (taken-never c.rendition c.settings now t c' (mark p look c')) told memory)

pub push-lost : (c : Inside) (v : Spooling) (p q : List ℕ) (e : CutFault)
    → spooled c ≡ v → Keeps c → q ≡ p → (e ≡ Limit) × (is_lost c.clock.gap c.clock.list (pts_at (tables_in c) q) ≡ true) → Told v.rendition v.settings v.list p e
push-lost c v p q e is k same lost =
    inr (rw (← same, ← is, lost.0) (λ more. lost-fault c.rendition c.settings c.fed.items q c.top (held_in c.going c.reel) more k.cuts (lost-is c q true k lost.1)))

-- what is kept behind a packet
pub push-keeps : (c d : Inside) (p q : List ℕ) (look : Look) (now : Option Gathered) (t : Option InForce) (c' : Option Stamp) (told : Bool)
    → Keeps c → Read c p look now t c' → Places (taken c.rendition c.settings now t c' (mark p look c')) c.reel d.reel d.going told
    → q ≡ p → d.rendition ≡ c.rendition → d.settings ≡ c.settings
    → d.watch ≡ record { program = c.watch.program; packets = c.watch.packets ++ packet_list q }
    → d.clock ≡ record { gap = c.clock.gap; list = with_pts c.clock.list (pts_at (tables_in c) q) }
    → d.top ≡ top_after c.top c' → d.fed.items ≡ c.fed.items ++ p ∷ []
    → d.turned ≡ c.turned
    → Keeps d
push-keeps c d p q look now t c' told k r gave same rendition settings watch clock top fed turned =
    let plan = (taken c.rendition c.settings now t c' (mark p look c')).plan in
    let placed = placed-by c p look now (held_in d.going d.reel) t c' plan k r gave.going in
    let point : c' ≡ counted c.top (fact c p).look = r.counted_is ∙ ap (counted c.top) (r.look_is ∙ by-kept c (λ gap list tables. look_by gap list tables p) k) in
    record {
      watch = rw (settings, fed, packets_of-more c.fed.items p) (watch ∙ ap (λ (x : List ℕ). record { program = c.watch.program; packets = c.watch.packets ++ packet_list x }) same ∙ ap (λ (w : Watched). record { program = w.program; packets = w.packets ++ packet_list p }) k.watch);
      clock = rw (settings, fed, pts_list-more c.settings c.fed.items p) (clock ∙ ap (λ (x : List ℕ). record { gap = c.clock.gap; list = with_pts c.clock.list (pts_at (tables_in c) x) }) same ∙ by-kept {A = Timed} c (λ gap list tables. record { gap = gap; list = with_pts list (pts_at tables p) }) k);
      cuts = rw (rendition, settings, fed, top, point) placed.at;
      idle = gave.idle;
      plans = rw (rendition, settings, fed, turned) (all-more c (spooled c) d.reel.plans plan _ refl k gave.plans placed.plans);
    }

-- the values that a clock was pushed are no more than the packets
pub few : (c : Inside) (v : Spooling) → spooled c ≡ v → Keeps c → length v.list < 2 ^ 63 → length c.clock.list < 2 ^ 63
few c v is k below =
    let list : length c.clock.list ≡ length (pts_list c.settings c.fed.items) = ap (λ (t : Timed). length t.list) k.clock in
    let same : length c.fed.items ≡ length v.list = ap (λ (v : Spooling). length v.list) is in
    omega (arith, list, same, below, pts_list-length c.settings c.fed.items)
