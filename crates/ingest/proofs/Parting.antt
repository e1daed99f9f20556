-- Plans of which only the first ones were closed in a spool.
use Rattle.std.proofs.Common.{◌≡◌, ◌∙◌, ℕ, true, List, [], ◌++◌, take, drop, ap, sym, subst, append_assoc}
use Rattle.std.proofs.lemmas.List.{append-nil, take-append-drop}
use Rattle.ghost_list.specs.Lists.{IsBeginning}
use Rattle.ts_packet.specs.Packets.{packets, decided}
use Rattle.cutter.specs.declared.settings.CutSettings.{CutSettings}
use Rattle.cutter.specs.Spooled.{Spooling}
use Rattle.cutter.specs.Plans.{SegmentPlan}
use Rattle.cutter.specs.Cuts.{closed, plans}
use Rattle.cutter.proofs.Fronts.{closed-begin, closed-grow}
use Rattle.ingest.specs.Lanes.{IsSpoiled}
use Rattle.ingest.specs.Streams.{GrowsAlike, GrowsPart, Taken, closed_of, plans_of}
use Rattle.ingest.proofs.Ordered.{closed_of-begin}

-- none were
pub part-none : (before after old new : List SegmentPlan) → IsBeginning before after → new ≡ old → GrowsPart before after old new
part-none before after old new begin same = record { more = []; rest = begin.0; grown = begin.1; given = same ∙ sym (append-nil old) }

-- all those by which a list in between goes on
pub part-between : (r : ℕ) (s : CutSettings) (a b c old new : List SegmentPlan) → GrowsAlike r s a b old new → IsBeginning b c → GrowsPart a c old new
part-between r s a b c old new g begin = record {
  more = g.more;
  rest = begin.0;
  grown = begin.1 ∙ (ap (λ list. list ++ begin.0) g.grown ∙ append_assoc a g.more begin.0);
  given = g.given;
}

-- and the first ones behind those
part-then : (r : ℕ) (s : CutSettings) (a b c old mid new : List SegmentPlan) → GrowsAlike r s a b old mid → GrowsPart b c mid new → GrowsPart a c old new
part-then r s a b c old mid new g h = record {
  more = g.more ++ h.more;
  rest = h.rest;
  grown = h.grown ∙ (ap (λ list. list ++ (h.more ++ h.rest)) g.grown ∙ (append_assoc a g.more (h.more ++ h.rest) ∙ ap (λ list. a ++ list) (sym (append_assoc g.more h.more h.rest))));
  given = h.given ∙ (ap (λ list. list ++ h.more) g.given ∙ append_assoc old g.more h.more);
}

-- and the list goes on
part-longer : (a b c old new : List SegmentPlan) → GrowsPart a b old new → IsBeginning b c → GrowsPart a c old new
part-longer a b c old new g begin = record {
  more = g.more;
  rest = g.rest ++ begin.0;
  grown = begin.1 ∙ (ap (λ list. list ++ begin.0) g.grown ∙ (append_assoc a (g.more ++ g.rest) begin.0 ∙ ap (λ list. a ++ list) (append_assoc g.more g.rest begin.0)));
  given = g.given;
}

-- a cutter stopped at packet i
pub part-at : (v start : Spooling) (ps : List (List ℕ)) (i : ℕ) (filled : List SegmentPlan)
    → GrowsAlike start.rendition start.settings (closed start.rendition start.settings start.list) (closed start.rendition start.settings (start.list ++ take i ps)) start.filled v.filled
    → filled ≡ v.filled
    → GrowsPart (closed start.rendition start.settings start.list) (closed start.rendition start.settings (start.list ++ ps)) start.filled filled
part-at v start ps i filled g same =
    let r = start.rendition in
    let s = start.settings in
    let whole : (start.list ++ take i ps) ++ drop i ps ≡ start.list ++ ps = append_assoc start.list (take i ps) (drop i ps) ∙ ap (λ list. start.list ++ list) (take-append-drop i ps) in
    let begin : IsBeginning (closed r s (start.list ++ take i ps)) (closed r s (start.list ++ ps)) =
    subst (λ (list : List (List ℕ)). IsBeginning (closed r s (start.list ++ take i ps)) (closed r s list)) whole (closed-grow r s (start.list ++ take i ps) (drop i ps)) in
    subst (λ (list : List SegmentPlan). GrowsPart (closed r s start.list) (closed r s (start.list ++ ps)) start.filled list) (sym same)
    (part-between r s _ _ _ start.filled v.filled g begin)

-- it stopped in front, or behind
pub part-front : (r : ℕ) (s : CutSettings) (list ps qs : List (List ℕ)) (old new : List SegmentPlan)
    → GrowsPart (closed r s list) (closed r s (list ++ ps)) old new → GrowsPart (closed r s list) (closed r s (list ++ (ps ++ qs))) old new
part-front r s list ps qs old new g =
    part-longer _ _ _ old new g
    (subst (λ (all : List (List ℕ)). IsBeginning (closed r s (list ++ ps)) (closed r s all)) (append_assoc list ps qs) (closed-grow r s (list ++ ps) qs))

pub part-behind : (v w : Spooling) (ps qs : List (List ℕ)) (filled : List SegmentPlan) → w ≡ record v { list = v.list ++ ps; filled = w.filled }
    → GrowsAlike v.rendition v.settings (closed v.rendition v.settings v.list) (closed v.rendition v.settings (v.list ++ ps)) v.filled w.filled
    → GrowsPart (closed w.rendition w.settings w.list) (closed w.rendition w.settings (w.list ++ qs)) w.filled filled
    → GrowsPart (closed v.rendition v.settings v.list) (closed v.rendition v.settings (v.list ++ (ps ++ qs))) v.filled filled
part-behind v w ps qs filled is g h =
    let k = subst (λ (x : Spooling). GrowsPart (closed x.rendition x.settings x.list) (closed x.rendition x.settings (x.list ++ qs)) w.filled filled) is h in
    subst (λ list. GrowsPart (closed v.rendition v.settings v.list) (closed v.rendition v.settings list) v.filled filled) (append_assoc v.list ps qs)
    (part-then v.rendition v.settings _ _ _ v.filled w.filled filled g k)

-- at the bytes of a piece
pub part-of-piece : (v : Spooling) (stream next : List ℕ) (ps : List (List ℕ)) (filled : List SegmentPlan) → v.list ≡ decided stream → decided next ≡ decided stream ++ ps
    → GrowsPart (closed v.rendition v.settings v.list) (closed v.rendition v.settings (v.list ++ ps)) v.filled filled
    → GrowsPart (closed_of v.rendition v.settings stream) (closed_of v.rendition v.settings next) v.filled filled
unfolding closed_of
part-of-piece v stream next ps filled is grown g =
    let whole : v.list ++ ps ≡ decided next = ap (λ list. list ++ ps) is ∙ sym grown in
    subst (λ (list : List (List ℕ)). GrowsPart (closed v.rendition v.settings list) (closed v.rendition v.settings (decided next)) v.filled filled) is
    (subst (λ (list : List (List ℕ)). GrowsPart (closed v.rendition v.settings v.list) (closed v.rendition v.settings list) v.filled filled) whole g)

-- at those that only the end of the stream decides
pub part-of-end : (v : Spooling) (stream : List ℕ) (ps : List (List ℕ)) (filled : List SegmentPlan) → v.list ≡ decided stream → packets stream ≡ decided stream ++ ps
    → GrowsPart (closed v.rendition v.settings v.list) (closed v.rendition v.settings (v.list ++ ps)) v.filled filled
    → GrowsPart (closed_of v.rendition v.settings stream) (plans_of v.rendition v.settings stream) v.filled filled
unfolding closed_of plans_of
part-of-end v stream ps filled is grown g =
    let r = v.rendition in
    let s = v.settings in
    let whole : v.list ++ ps ≡ packets stream = ap (λ list. list ++ ps) is ∙ sym grown in
    let all = part-longer _ _ _ v.filled filled g (closed-begin r s (v.list ++ ps)) in
    subst (λ (list : List (List ℕ)). GrowsPart (closed r s list) (plans r s (packets stream)) v.filled filled) is
    (subst (λ (list : List (List ℕ)). GrowsPart (closed r s v.list) (plans r s list) v.filled filled) whole all)

-- or at the end itself
pub part-at-end : (v w : Spooling) (stream : List ℕ) (ps : List (List ℕ)) (filled : List SegmentPlan) → v.list ≡ decided stream → packets stream ≡ decided stream ++ ps
    → GrowsAlike v.rendition v.settings (closed v.rendition v.settings v.list) (closed v.rendition v.settings (v.list ++ ps)) v.filled w.filled
    → filled ≡ w.filled
    → GrowsPart (closed_of v.rendition v.settings stream) (plans_of v.rendition v.settings stream) v.filled filled
part-at-end v w stream ps filled is grown g same =
    part-of-end v stream ps filled is grown
    (subst (λ (list : List SegmentPlan). GrowsPart (closed v.rendition v.settings v.list) (closed v.rendition v.settings (v.list ++ ps)) v.filled list) (sym same)
    (part-between v.rendition v.settings _ _ _ v.filled w.filled g ([], sym (append-nil (closed v.rendition v.settings (v.list ++ ps))))))

-- memory was wanting at a piece of a stream, or at its end
pub spoiled-piece : (old new : Taken) (piece : List ℕ) → new ≡ record old { stream = new.stream; ended = true; filled = new.filled }
    → GrowsPart (closed_of old.rendition old.settings old.stream) (closed_of old.rendition old.settings (old.stream ++ piece)) old.filled new.filled → IsSpoiled old new
spoiled-piece old new piece kept part = record {
  kept = kept;
  more = piece;
  part = subst (λ (l : List ℕ). GrowsPart (closed_of old.rendition old.settings old.stream) (plans_of old.rendition old.settings l) old.filled new.filled) (append-nil (old.stream ++ piece))
      (part-longer _ _ _ old.filled new.filled part (closed_of-begin old.rendition old.settings (old.stream ++ piece) []));
}

pub spoiled-end : (old new : Taken) → new ≡ record old { stream = new.stream; ended = true; filled = new.filled }
    → GrowsPart (closed_of old.rendition old.settings old.stream) (plans_of old.rendition old.settings old.stream) old.filled new.filled → IsSpoiled old new
spoiled-end old new kept part = record {
  kept = kept;
  more = [];
  part = subst (λ (l : List ℕ). GrowsPart (closed_of old.rendition old.settings old.stream) (plans_of old.rendition old.settings l) old.filled new.filled) (sym (append-nil old.stream)) part;
}
