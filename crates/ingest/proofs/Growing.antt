-- Lists of plans that grow alike.
use Rattle.std.proofs.Common.{◌≡◌, ◌∙◌, ◌⊎◌, inl, inr, ℕ, suc, ◌<◌, Bool, false, List, [], ◌∷◌, ◌++◌, length, take, drop, get_or, ap, sym, subst, append_assoc, length-append, arith}
use Rattle.std.proofs.lemmas.List.{append-nil, take_more}
use Rattle.std.proofs.Math.Seq.{split_at}
use Rattle.cutter.specs.declared.settings.CutSettings.{CutSettings}
use Rattle.cutter.specs.declared.fault.CutFault.{CutFault}
use Rattle.cutter.specs.declared.fault.CutFault.TheVariants.{NoMemory}
use Rattle.cutter.specs.Spooled.{Spooling, Closes}
use Rattle.cutter.specs.Plans.{SegmentPlan}
use Rattle.cutter.specs.Cuts.{cuts, closed, made, Ends}
use Rattle.cutter.specs.Stream.{MayWantMemory}
use Rattle.cutter.specs.Ordered.{IsPlan}
use Rattle.std.specs.Prelude.{Option, Some, None, IfSome, ◌+◌}
use Rattle.ingest.specs.Streams.{AreNext, GrowsAlike, Stops, LacksMemoryAtPacket}

pub grows-none : (r : ℕ) (s : CutSettings) (a b old new : List SegmentPlan) → b ≡ a → new ≡ old → GrowsAlike r s a b old new
grows-none r s a b old new e f = record { more = []; grown = e ∙ sym (append-nil a); given = f ∙ sym (append-nil old); order = tt }

next-append : (r : ℕ) (s : CutSettings) (n : ℕ) (xs ys : List SegmentPlan) → AreNext r s n xs → AreNext r s (n + length xs) ys → AreNext r s n (xs ++ ys)
next-append r s n [] ys h k = subst (λ (m : ℕ). AreNext r s m ys) (omega arith) k
next-append r s n (x ∷ xs) ys h k = (h.0, next-append r s (n + 1) xs ys h.1 (subst (λ (m : ℕ). AreNext r s m ys) (omega arith) k))

pub grows-more : (r : ℕ) (s : CutSettings) (a b c old mid new m : List SegmentPlan) → GrowsAlike r s a b old mid → c ≡ b ++ m → new ≡ mid ++ m
    → AreNext r s (length b) m → GrowsAlike r s a c old new
grows-more r s a b c old mid new m g e f k = record {
  more = g.more ++ m;
  grown = e ∙ (ap (λ list. list ++ m) g.grown ∙ append_assoc a g.more m);
  given = f ∙ (ap (λ list. list ++ m) g.given ∙ append_assoc old g.more m);
  order = next-append r s (length a) g.more m g.order (subst (λ (n : ℕ). AreNext r s n m) (ap length g.grown ∙ length-append a g.more) k);
}

-- one plan at most
pub next-made : (r : ℕ) (s : CutSettings) (n : ℕ) (plan : Option SegmentPlan) → IfSome plan (λ p. IsPlan r s n p) → AreNext r s n (made plan)
next-made r s n None h = tt
next-made r s n (Some p) h = (h, tt)

-- a packet more
pub grows-by : (v w start : Spooling) (front : List (List ℕ)) (x : List ℕ) (all : List (List ℕ)) (told : Bool) → v ≡ record start { list = front; filled = v.filled } → all ≡ front ++ x ∷ []
    → GrowsAlike start.rendition start.settings (closed start.rendition start.settings start.list) (closed start.rendition start.settings front) start.filled v.filled
    → Closes v.rendition v.settings (closed v.rendition v.settings v.list) (closed v.rendition v.settings (v.list ++ x ∷ [])) v.filled w.filled told
    → GrowsAlike start.rendition start.settings (closed start.rendition start.settings start.list) (closed start.rendition start.settings all) start.filled w.filled
grows-by v w start front x all told is whole g c =
    let closes = rw is at c.plans in
    let order = rw is at c.order in
    grows-more start.rendition start.settings _ _ _ start.filled v.filled w.filled (made c.plan) g (ap (closed start.rendition start.settings) whole ∙ closes) c.filled
    (next-made start.rendition start.settings (length (closed start.rendition start.settings front)) c.plan order)

whole-of : (front ps more : List (List ℕ)) (i : ℕ) (d : List ℕ) → i < length ps
    → (front ++ take i ps) ++ get_or ps i d ∷ (drop (suc i) ps ++ more) ≡ (front ++ ps) ++ more
whole-of front ps more i d below =
    append_assoc front (take i ps) (get_or ps i d ∷ (drop (suc i) ps ++ more))
    ∙ (ap (λ list. front ++ list) (sym (append_assoc (take i ps) (get_or ps i d ∷ drop (suc i) ps) more)
    ∙ ap (λ list. list ++ more) (sym (split_at ps i d below)))
    ∙ sym (append_assoc front ps more))

-- what a cutter that was pushed these packets says where it refuses the next one
abbrev pub Refuses : Spooling → List ℕ → CutFault → Type 0
Refuses v x e = (e ≡ NoMemory) ⊎ ((more : List (List ℕ)) → Ends v.rendition v.settings (v.list ++ x ∷ more) e (closed v.rendition v.settings v.list))

stops-by : (start : Spooling) (ps : List (List ℕ)) (i : ℕ) (d : List ℕ) (e : CutFault) (v : Spooling)
    → i < length ps
    → GrowsAlike start.rendition start.settings (closed start.rendition start.settings start.list) (closed start.rendition start.settings (start.list ++ take i ps)) start.filled v.filled
    → Refuses (record v { rendition = start.rendition; settings = start.settings; list = start.list ++ take i ps }) (get_or ps i d) e
    → (e ≡ NoMemory) ⊎ ((more : List (List ℕ)) → Stops start ((start.list ++ ps) ++ more) e v.filled)
stops-by start ps i d e v below grown (inl none) = inl none
stops-by start ps i d e v below grown (inr told) = inr (λ more.
    let ends = subst (λ (list : List (List ℕ)). Ends start.rendition start.settings list e (closed start.rendition start.settings (start.list ++ take i ps)))
    (whole-of start.list ps more i d below) (told (drop (suc i) ps ++ more)) in
    record {
      fault = ends.fault;
      plans = record { more = grown.more; grown = ends.plans ∙ grown.grown; given = grown.given; order = grown.order };
    })

-- a fault at packet i
pub stops-at : (v start : Spooling) (ps : List (List ℕ)) (i : ℕ) (d : List ℕ) (e : CutFault)
    → v ≡ record start { list = start.list ++ take i ps; filled = v.filled } → start.ended ≡ false → i < length ps
    → GrowsAlike start.rendition start.settings (closed start.rendition start.settings start.list) (closed start.rendition start.settings (start.list ++ take i ps)) start.filled v.filled
    → (v.ended ≡ false → Refuses v (get_or ps i d) e)
    → (e ≡ NoMemory) ⊎ ((more : List (List ℕ)) → Stops start ((start.list ++ ps) ++ more) e v.filled)
stops-at v start ps i d e is going below grown told =
    let refuses = told (ap (λ (u : Spooling). u.ended) is ∙ going) in
    stops-by start ps i d e v below grown (subst (λ (u : Spooling). Refuses u (get_or ps i d) e) is refuses)

-- want of memory at packet i
pub wants-at : (v start : Spooling) (ps : List (List ℕ)) (i : ℕ) (d : List ℕ)
    → v ≡ record start { list = start.list ++ take i ps; filled = v.filled } → i < length ps
    → (cuts v.rendition v.settings (v.list ++ get_or ps i d ∷ [])).fault ≡ None → MayWantMemory v.settings v.list (get_or ps i d)
    → LacksMemoryAtPacket start.rendition start.settings start.list ps
wants-at v start ps i d is below sound wants = record {
  before = take i ps;
  packet = get_or ps i d;
  behind = drop (suc i) ps;
  split = split_at ps i d below;
  sound = ap (λ (l : List (List ℕ)). (cuts start.rendition start.settings l).fault) (sym (append_assoc start.list (take i ps) (get_or ps i d ∷ [])))
      ∙ subst (λ (u : Spooling). (cuts u.rendition u.settings (u.list ++ get_or ps i d ∷ [])).fault ≡ None) is sound;
  wants = subst (λ (u : Spooling). MayWantMemory u.settings u.list (get_or ps i d)) is wants;
}

-- it was wanting in front, or behind
pub wants-front : (r : ℕ) (s : CutSettings) (list ps qs : List (List ℕ)) → LacksMemoryAtPacket r s list ps → LacksMemoryAtPacket r s list (ps ++ qs)
wants-front r s list ps qs w = record {
  before = w.before;
  packet = w.packet;
  behind = w.behind ++ qs;
  split = ap (λ l. l ++ qs) w.split ∙ append_assoc w.before (w.packet ∷ w.behind) qs;
  sound = w.sound;
  wants = w.wants;
}

pub wants-behind : (v u : Spooling) (ps qs : List (List ℕ)) → u ≡ record v { list = v.list ++ ps; filled = u.filled }
    → LacksMemoryAtPacket u.rendition u.settings u.list qs → LacksMemoryAtPacket v.rendition v.settings v.list (ps ++ qs)
wants-behind v u ps qs is wants = behind (subst (λ (x : Spooling). LacksMemoryAtPacket x.rendition x.settings x.list qs) is wants)
  where
    behind : LacksMemoryAtPacket v.rendition v.settings (v.list ++ ps) qs → LacksMemoryAtPacket v.rendition v.settings v.list (ps ++ qs)
    behind w = record {
      before = ps ++ w.before;
      packet = w.packet;
      behind = w.behind;
      split = ap (λ list. ps ++ list) w.split ∙ sym (append_assoc ps w.before (w.packet ∷ w.behind));
      sound = ap (λ (l : List (List ℕ)). (cuts v.rendition v.settings l).fault)
          (ap (λ list. v.list ++ list) (append_assoc ps w.before (w.packet ∷ [])) ∙ sym (append_assoc v.list ps (w.before ++ w.packet ∷ []))) ∙ w.sound;
      wants = subst (λ (l : List (List ℕ)). MayWantMemory v.settings l w.packet) (append_assoc v.list ps w.before) w.wants;
    }

pub more-of : (front ps : List (List ℕ)) (i : ℕ) (d : List ℕ) → i < length ps → front ++ take (i + 1) ps ≡ (front ++ take i ps) ++ get_or ps i d ∷ []
more-of front ps i d below = ap (λ l. front ++ l) (take_more ps i d below) ∙ sym (append_assoc front (take i ps) (get_or ps i d ∷ []))

pub pushed-more : (v w start : Spooling) (ps : List (List ℕ)) (i : ℕ) (d : List ℕ) → i < length ps → v ≡ record start { list = start.list ++ take i ps; filled = v.filled }
    → w ≡ record v { list = v.list ++ get_or ps i d ∷ []; filled = w.filled } → w ≡ record start { list = start.list ++ take (i + 1) ps; filled = w.filled }
pushed-more v w start ps i d below is pushed =
    pushed ∙ (ap (λ (u : Spooling). record u { list = u.list ++ get_or ps i d ∷ []; filled = w.filled }) is
    ∙ ap (λ (l : List (List ℕ)). record start { list = l; filled = w.filled }) (sym (more-of start.list ps i d below)))

-- what packets close, and then those behind them
pub grows-then : (r : ℕ) (s : CutSettings) (a b c old mid new : List SegmentPlan) → GrowsAlike r s a b old mid → GrowsAlike r s b c mid new → GrowsAlike r s a c old new
grows-then r s a b c old mid new g h = grows-more r s a b c old mid new h.more g h.grown h.given h.order

-- what a cutter says where it refuses packets
abbrev pub StopsAll : Spooling → List (List ℕ) → CutFault → List SegmentPlan → Type 0
StopsAll v ps e filled = (e ≡ NoMemory) ⊎ ((more : List (List ℕ)) → Stops v ((v.list ++ ps) ++ more) e filled)

-- a fault at those behind them
pub stops-behind : (v w : Spooling) (ps qs : List (List ℕ)) (e : CutFault) (filled : List SegmentPlan) → w ≡ record v { list = v.list ++ ps; filled = w.filled }
    → GrowsAlike v.rendition v.settings (closed v.rendition v.settings v.list) (closed v.rendition v.settings (v.list ++ ps)) v.filled w.filled
    → StopsAll w qs e filled → StopsAll v (ps ++ qs) e filled
stops-behind v w ps qs e filled is g told = behind (subst (λ (u : Spooling). StopsAll u qs e filled) is told)
  where
    behind : StopsAll (record v { list = v.list ++ ps; filled = w.filled }) qs e filled → StopsAll v (ps ++ qs) e filled
    behind (inl none) = inl none
    behind (inr stops) = inr (λ more.
        let mine = stops more in
        let same : ((v.list ++ ps) ++ qs) ++ more ≡ (v.list ++ (ps ++ qs)) ++ more = ap (λ list. list ++ more) (append_assoc v.list ps qs) in
        subst (λ whole. Stops v whole e filled) same (record { fault = mine.fault; plans = grows-then v.rendition v.settings _ _ _ _ _ _ g mine.plans }))

-- both were pushed
pub pushed-both : (v w u : Spooling) (ps qs : List (List ℕ)) → w ≡ record v { list = v.list ++ ps; filled = w.filled }
    → u ≡ record w { list = w.list ++ qs; filled = u.filled } → u ≡ record v { list = v.list ++ (ps ++ qs); filled = u.filled }
pushed-both v w u ps qs is next =
    next ∙ (ap (λ (x : Spooling). record x { list = x.list ++ qs; filled = u.filled }) is
    ∙ ap (λ (l : List (List ℕ)). record v { list = l; filled = u.filled }) (append_assoc v.list ps qs))

-- both closed what they close
pub grows-both : (v w u : Spooling) (ps qs : List (List ℕ)) → w ≡ record v { list = v.list ++ ps; filled = w.filled }
    → GrowsAlike v.rendition v.settings (closed v.rendition v.settings v.list) (closed v.rendition v.settings (v.list ++ ps)) v.filled w.filled
    → GrowsAlike w.rendition w.settings (closed w.rendition w.settings w.list) (closed w.rendition w.settings (w.list ++ qs)) w.filled u.filled
    → GrowsAlike v.rendition v.settings (closed v.rendition v.settings v.list) (closed v.rendition v.settings (v.list ++ (ps ++ qs))) v.filled u.filled
grows-both v w u ps qs is g h =
    let k = subst (λ (x : Spooling). GrowsAlike x.rendition x.settings (closed x.rendition x.settings x.list) (closed x.rendition x.settings (x.list ++ qs)) w.filled u.filled) is h in
    subst (λ list. GrowsAlike v.rendition v.settings (closed v.rendition v.settings v.list) (closed v.rendition v.settings list) v.filled u.filled) (append_assoc v.list ps qs)
    (grows-then v.rendition v.settings _ _ _ _ _ _ g k)
