-- From the packets that a cutter is pushed to the bytes that an intake takes.
use Rattle.std.proofs.Common.{◌≡◌, ◌∙◌, ◌⊎◌, inl, inr, ℕ, ◌+◌, ◌<◌, ◌≤◌, ◌^◌, Bool, false, List, [], ◌∷◌, ◌++◌, length, Some, None, ap, sym, subst, append_assoc, arith, length-append}
use Rattle.std.proofs.lemmas.List.{append-nil, append_cancel_left}
use Rattle.std.proofs.lemmas.Grind.{flat_map-append}
use Rattle.ghost_list.specs.Lists.{IsBeginning}
use Rattle.ts_packet.specs.Packets.{packets, decided}
use Rattle.ts_packet.specs.State as Reading
use Rattle.ts_packet.specs.State.{LacksRoomBehind}
use Rattle.cutter.specs.declared.fault.CutFault.{CutFault}
use Rattle.cutter.specs.declared.fault.CutFault.TheVariants.{Ended, NoMemory}
use Rattle.cutter.specs.Spooled.{Spooling, Closes, joined}
use Rattle.cutter.specs.declared.settings.CutSettings.{CutSettings}
use Rattle.cutter.specs.Plans.{SegmentPlan}
use Rattle.std.specs.Prelude.{OnOk, Result, Ok, Err}
use Rattle.cutter.specs.Cuts.{closed, plans, fault, made, Ends}
use Rattle.ingest.specs.Streams.{Taken, AreNext, GrowsAlike, Stops, LacksMemoryAtPacket, LacksMemoryBehind, Faults, Stays, plans_of, fault_of, closed_of}
use Rattle.ingest.proofs.Growing.{StopsAll, grows-more, next-made}

pub few-packets : (ps more : List (List ℕ)) (next : List ℕ) → decided next ≡ ps ++ more → IsBeginning (decided next) (packets next)
    → length (packets next) ≤ length next → length next < 2 ^ 63 → length ps + length more < 2 ^ 63
few-packets ps more next grown begin few short =
    let e = ap length grown ∙ length-append ps more in
    let f = ap length begin.1 ∙ length-append (decided next) begin.0 in
    omega (arith, e, f, few, short)

pub few-all : (ps more : List (List ℕ)) (stream : List ℕ) → packets stream ≡ ps ++ more
    → length (packets stream) ≤ length stream → length stream < 2 ^ 63 → length ps + length more < 2 ^ 63
few-all ps more stream grown few short =
    let e = ap length grown ∙ length-append ps more in
    omega (arith, e, few, short)

-- the intake of a cutter that was pushed what the stream decides
abbrev pub intake_of : Bool → Spooling → List ℕ → Taken
intake_of ended v stream = record { rendition = v.rendition; settings = v.settings; stream = stream; ended = ended; turned = joined v.turned; filled = v.filled }

pub grown-to : (v w : Spooling) (stream next : List ℕ) (ps : List (List ℕ)) → v.list ≡ decided stream → decided next ≡ decided stream ++ ps
    → GrowsAlike v.rendition v.settings (closed v.rendition v.settings v.list) (closed v.rendition v.settings (v.list ++ ps)) v.filled w.filled
    → GrowsAlike v.rendition v.settings (closed_of v.rendition v.settings stream) (closed_of v.rendition v.settings next) v.filled w.filled
unfolding closed_of
grown-to v w stream next ps is grown g =
    let whole : v.list ++ ps ≡ decided next = ap (λ list. list ++ ps) is ∙ sym grown in
    record {
      more = g.more;
      grown = ap (closed v.rendition v.settings) (sym whole) ∙ (g.grown ∙ ap (λ list. closed v.rendition v.settings list ++ g.more) is);
      given = g.given;
      order = subst (λ list. AreNext v.rendition v.settings (length (closed v.rendition v.settings list)) g.more) is g.order;
    }

faults-by : (ended : Bool) (v : Spooling) (stream next : List ℕ) (whole : List (List ℕ)) (e : CutFault) (filled : List SegmentPlan)
    → v.list ≡ decided stream → whole ≡ packets next → Stops v whole e filled → Faults (intake_of ended v stream) next e filled
unfolding closed_of plans_of fault_of
faults-by ended v stream next whole e filled is all stops = record {
  fault = ap (fault v.rendition v.settings) (sym all) ∙ stops.fault;
  plans = record {
    more = stops.plans.more;
    grown = ap (plans v.rendition v.settings) (sym all) ∙ (stops.plans.grown ∙ ap (λ list. closed v.rendition v.settings list ++ stops.plans.more) is);
    given = stops.plans.given;
    order = subst (λ list. AreNext v.rendition v.settings (length (closed v.rendition v.settings list)) stops.plans.more) is stops.plans.order;
  };
}

-- all plans that come before a fault are closed
plans-closed : (r : ℕ) (s : CutSettings) (ps : List (List ℕ)) (e : CutFault) → fault r s ps ≡ Some e → plans r s ps ≡ closed r s ps
unfolding plans
plans-closed r s ps e told = rw told (append-nil (closed r s ps))

-- a fault that stands whatever packets come behind stands whatever bytes do
stays-by : (v : Spooling) (next : List ℕ) (ps : List (List ℕ)) (e : CutFault) (filled : List SegmentPlan)
    → v.list ++ ps ≡ decided next → ((more : List ℕ) → IsBeginning (decided next) (packets (next ++ more)))
    → ((more : List (List ℕ)) → Stops v ((v.list ++ ps) ++ more) e filled) → Stays v.rendition v.settings next e
unfolding closed_of plans_of fault_of
stays-by v next ps e filled is always told =
    let r = v.rendition in
    let s = v.settings in
    let none = told [] in
    let sound : fault r s (v.list ++ ps) ≡ Some e = ap (fault r s) (sym (append-nil (v.list ++ ps))) ∙ none.fault in
    let all : plans r s ((v.list ++ ps) ++ []) ≡ closed r s (decided next) =
    ap (plans r s) (append-nil (v.list ++ ps)) ∙ (plans-closed r s (v.list ++ ps) e sound ∙ ap (closed r s) is) in
    record {
      fault = λ more.
          let begin = always more in
          ap (fault r s) (begin.1 ∙ ap (λ list. list ++ begin.0) (sym is)) ∙ (told begin.0).fault;
      plans = λ more.
          let begin = always more in
          let mine = (told begin.0).plans in
          ap (plans r s) (begin.1 ∙ ap (λ list. list ++ begin.0) (sym is))
          ∙ (mine.grown
          ∙ (ap (λ list. closed r s v.list ++ list) (append_cancel_left v.filled mine.more none.plans.more (sym mine.given ∙ none.plans.given)) ∙ (sym none.plans.grown ∙ all)));
    }

-- a fault at bytes that were taken
pub faults-at : (ended : Bool) (v : Spooling) (stream next : List ℕ) (ps : List (List ℕ)) (e : CutFault) (filled : List SegmentPlan)
    → v.list ≡ decided stream → decided next ≡ decided stream ++ ps → IsBeginning (decided next) (packets next)
    → ((more : List ℕ) → IsBeginning (decided next) (packets (next ++ more)))
    → StopsAll v ps e filled → (e ≡ NoMemory) ⊎ (Faults (intake_of ended v stream) next e filled × Stays v.rendition v.settings next e)
faults-at ended v stream next ps e filled is grown begin always (inl none) = inl none
faults-at ended v stream next ps e filled is grown begin always (inr told) =
    let all : v.list ++ ps ≡ decided next = ap (λ list. list ++ ps) is ∙ sym grown in
    let whole = ap (λ list. list ++ begin.0) all ∙ sym begin.1 in
    inr (faults-by ended v stream next _ e filled is whole (told begin.0), stays-by v next ps e filled all always told)

-- a fault at packets that only the end of the stream decides
pub faults-at-end : (ended : Bool) (v : Spooling) (stream : List ℕ) (ps : List (List ℕ)) (e : CutFault) (filled : List SegmentPlan)
    → v.list ≡ decided stream → packets stream ≡ decided stream ++ ps
    → StopsAll v ps e filled → (e ≡ NoMemory) ⊎ Faults (intake_of ended v stream) stream e filled
faults-at-end ended v stream ps e filled is grown (inl none) = inl none
faults-at-end ended v stream ps e filled is grown (inr told) =
    let whole = append-nil (v.list ++ ps) ∙ (ap (λ list. list ++ ps) is ∙ sym grown) in
    inr (faults-by ended v stream stream _ e filled is whole (told []))

-- what a cutter says that ends
abbrev pub EndsWith : Spooling → CutFault → Type 0
EndsWith v e = (e ≡ NoMemory) ⊎ Ends v.rendition v.settings v.list e (closed v.rendition v.settings v.list)

ended-at : (ended : Bool) (v w : Spooling) (stream : List ℕ) (ps : List (List ℕ)) (e : CutFault)
    → v.list ≡ decided stream → packets stream ≡ decided stream ++ ps
    → GrowsAlike v.rendition v.settings (closed v.rendition v.settings v.list) (closed v.rendition v.settings (v.list ++ ps)) v.filled w.filled
    → EndsWith (record v { list = v.list ++ ps; filled = w.filled }) e
    → (e ≡ NoMemory) ⊎ Faults (intake_of ended v stream) stream e w.filled
ended-at ended v w stream ps e is grown g (inl none) = inl none
ended-at ended v w stream ps e is grown g (inr ends) =
    let whole = ap (λ list. list ++ ps) is ∙ sym grown in
    inr (faults-by ended v stream stream (v.list ++ ps) e w.filled is whole (record {
      fault = ends.fault;
      plans = record { more = g.more; grown = ends.plans ∙ g.grown; given = g.given; order = g.order };
    }))

-- a fault at the end of the stream
pub faults-behind : (ended : Bool) (v w : Spooling) (stream : List ℕ) (ps : List (List ℕ)) (e : CutFault) (filled : List SegmentPlan)
    → v.list ≡ decided stream → packets stream ≡ decided stream ++ ps → v.ended ≡ false → w ≡ record v { list = v.list ++ ps; filled = w.filled }
    → GrowsAlike v.rendition v.settings (closed v.rendition v.settings v.list) (closed v.rendition v.settings (v.list ++ ps)) v.filled w.filled
    → (w.ended ≡ false → EndsWith w e) → filled ≡ w.filled
    → (e ≡ NoMemory) ⊎ Faults (intake_of ended v stream) stream e filled
faults-behind ended v w stream ps e filled is grown going pushed g told same =
    let ends = told (ap (λ (u : Spooling). u.ended) pushed ∙ going) in
    rw same (ended-at ended v w stream ps e is grown g (subst (λ (u : Spooling). EndsWith u e) pushed ends))

-- a sound end
pub sound-end : (v w : Spooling) (stream : List ℕ) (ps : List (List ℕ))
    → v.list ≡ decided stream → packets stream ≡ decided stream ++ ps → w ≡ record v { list = v.list ++ ps; filled = w.filled }
    → fault w.rendition w.settings w.list ≡ None → fault_of v.rendition v.settings stream ≡ None
unfolding fault_of
sound-end v w stream ps is grown pushed sound =
    let whole = ap (λ list. list ++ ps) is ∙ sym grown in
    ap (fault v.rendition v.settings) (sym whole) ∙ subst (λ (u : Spooling). fault u.rendition u.settings u.list ≡ None) pushed sound

-- the last segment
pub grown-to-end : (v w : Spooling) (stream : List ℕ) (ps : List (List ℕ)) (told : Bool) (filled : List SegmentPlan)
    → v.list ≡ decided stream → packets stream ≡ decided stream ++ ps → w ≡ record v { list = v.list ++ ps; filled = w.filled }
    → GrowsAlike v.rendition v.settings (closed v.rendition v.settings v.list) (closed v.rendition v.settings (v.list ++ ps)) v.filled w.filled
    → Closes w.rendition w.settings (closed w.rendition w.settings w.list) (plans w.rendition w.settings w.list) w.filled filled told
    → GrowsAlike v.rendition v.settings (closed_of v.rendition v.settings stream) (plans_of v.rendition v.settings stream) v.filled filled
unfolding closed_of plans_of
grown-to-end v w stream ps told filled is grown pushed g c =
    let whole : v.list ++ ps ≡ packets stream = ap (λ list. list ++ ps) is ∙ sym grown in
    let last = subst (λ (u : Spooling). Closes u.rendition u.settings (closed u.rendition u.settings u.list) (plans u.rendition u.settings u.list) w.filled filled told) pushed c in
    let more = grows-more v.rendition v.settings _ _ _ v.filled w.filled filled (made last.plan) g last.plans last.filled (next-made v.rendition v.settings _ last.plan last.order) in
    record {
      more = more.more;
      grown = ap (plans v.rendition v.settings) (sym whole) ∙ (more.grown ∙ ap (λ list. closed v.rendition v.settings list ++ more.more) is);
      given = more.given;
      order = subst (λ list. AreNext v.rendition v.settings (length (closed v.rendition v.settings list)) more.more) is more.order;
    }

-- the packets that a reader appended to none
pub appended : (before after old new ps : List (List ℕ)) → Reading.GrowsAlike before after old new → old ≡ [] → ps ≡ new → after ≡ before ++ ps
appended before after old new ps g none is =
    g.grown ∙ ap (λ list. before ++ list) (sym (is ∙ (g.given ∙ ap (λ list. list ++ g.more) none)))

-- the packets that a reader lent, and those that it appended to none
pub lent-first : (before lent after old new ps : List (List ℕ)) → Reading.GrowsAlike (before ++ lent) after old new → old ≡ [] → ps ≡ new → after ≡ before ++ (lent ++ ps)
lent-first before lent after old new ps g none is = appended (before ++ lent) after old new ps g none is ∙ append_assoc before lent ps

-- the plans of one spool more
pub joined-more : (spools : List (List SegmentPlan)) (plans : List SegmentPlan) → joined (spools ++ plans ∷ []) ≡ joined spools ++ plans
joined-more spools plans = flat_map-append (λ (p : List SegmentPlan). p) spools (plans ∷ []) ∙ ap (λ l. joined spools ++ l) (append-nil plans)

-- an intake one of whose spools was turned out
pub turned-out : (ended : Bool) (v w : Spooling) (stream : List ℕ) → w ≡ record v { turned = v.turned ++ v.filled ∷ []; filled = [] }
    → intake_of ended w stream ≡ record (intake_of ended v stream) { turned = joined v.turned ++ v.filled; filled = [] }
turned-out ended v w stream is =
    ap (λ (u : Spooling). intake_of ended u stream) is
    ∙ ap (λ (l : List SegmentPlan). record (intake_of ended v stream) { turned = l; filled = [] }) (joined-more v.turned v.filled)

-- what a fact at a success implies
pub OnOk-map : {T E P Q : Type 0} (r : Result T E) → (P → Q) → OnOk r P → OnOk r Q
OnOk-map (Ok x) f p = f p
OnOk-map (Err e) f p = tt

-- want of room that lacks behind no packets lacks where there is none
pub no-room : (fed piece : List ℕ) (count room : ℕ) → count ≡ 0 → LacksRoomBehind fed piece count room → LacksRoomBehind fed piece 0 0
no-room fed piece count room none lacks = (lacks.0, lacks.1, omega (arith, lacks.2, none))

-- want of memory at packets that the bytes don't decide
pub wants-behind : (ended : Bool) (v : Spooling) (stream : List ℕ) (all ps : List (List ℕ)) → v.list ≡ decided stream → all ≡ decided stream ++ ps
    → LacksMemoryAtPacket v.rendition v.settings v.list ps → LacksMemoryBehind (intake_of ended v stream) all
wants-behind ended v stream all ps is grown wants = record {
  more = ps;
  grown = grown;
  stops = subst (λ list. LacksMemoryAtPacket v.rendition v.settings list ps) is wants;
}

-- what is told in place of a stream's fault is want of memory
pub scarce-piece : (taken : Taken) (whole : List ℕ) (e : CutFault) (filled : List SegmentPlan) (B : Type 0) → (fault_of taken.rendition taken.settings whole ≡ Some Ended → ⊥)
    → (e ≡ NoMemory) ⊎ (Faults taken whole e filled × B) → (e ≡ NoMemory) ⊎ (e ≡ Ended) → e ≡ NoMemory
scarce-piece taken whole e filled B never (inl none) told = none
scarce-piece taken whole e filled B never (inr both) (inl none) = none
scarce-piece taken whole e filled B never (inr both) (inr ended) = absurd (never (both.0.fault ∙ ap (λ (f : CutFault). Some f) ended))

pub scarce-end : (taken : Taken) (whole : List ℕ) (e : CutFault) (filled : List SegmentPlan) → (fault_of taken.rendition taken.settings whole ≡ Some Ended → ⊥)
    → (e ≡ NoMemory) ⊎ Faults taken whole e filled → (e ≡ NoMemory) ⊎ (e ≡ Ended) → e ≡ NoMemory
scarce-end taken whole e filled never (inl none) told = none
scarce-end taken whole e filled never (inr faults) (inl none) = none
scarce-end taken whole e filled never (inr faults) (inr ended) = absurd (never (faults.fault ∙ ap (λ (f : CutFault). Some f) ended))
