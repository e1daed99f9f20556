-- What bytes decide only grows.
use Rattle.std.proofs.Common.{◌≡◌, ◌∙◌, ℕ, zero, suc, ◌≤◌, List, [], ◌∷◌, ◌++◌, length, Option, Some, None, refl, ap, sym, subst, arith, append_assoc}
use Rattle.std.proofs.lemmas.List.{append-nil}
use Rattle.ghost_list.specs.Lists.{IsBeginning}
use Rattle.ts_packet.specs.Packets.{packets, decided, IsDecided}
use Rattle.cutter.specs.declared.settings.CutSettings.{CutSettings}
use Rattle.cutter.specs.Cuts.{closed, plans}
use Rattle.std.specs.List.{slice_get}
use Rattle.cutter.specs.Plans.{SegmentPlan}
use Rattle.cutter.specs.Ordered.{IsPlan}
use Rattle.ingest.specs.declared.lane.Stop.{Stop}
use Rattle.ingest.specs.declared.lane.Stop.TheVariants.{Good, Cut, Read}
use Rattle.ingest.specs.Streams.{closed_of, plans_of}
use Rattle.ingest.specs.Lanes.{made_of}

-- of two beginnings of a list the shorter one begins the longer one
front-of-longer : {A : Type 0} (a b x y : List A) → a ++ x ≡ b ++ y → length a ≤ length b → (rest : List A) × (b ≡ a ++ rest)
front-of-longer [] b x y e short = (b, refl)
front-of-longer (p ∷ a) [] x y e short = absurd (omega (arith, short))
front-of-longer (p ∷ a) (q ∷ b) x y e short =
    let same : p ≡ q = cc in
    let more : a ++ x ≡ b ++ y = cc in
    let rest = front-of-longer a b x y more (omega (arith, short)) in
    (rest.0, ap (λ head. head ∷ b) (sym same) ∙ ap (λ list. p ∷ list) rest.1)

-- the packets that some bytes decide begin those that more bytes decide
pub decided-grows : ((front : List ℕ) → IsDecided front (decided front)) → (stream more : List ℕ) → IsBeginning (decided stream) (decided (stream ++ more))
decided-grows law stream more =
    let mine = (law stream).always more in
    let all = (law (stream ++ more)).always [] in
    let longer = (law (stream ++ more)).longest (decided stream)
    (λ behind. subst (λ (l : List ℕ). IsBeginning (decided stream) (packets l)) (sym (append_assoc stream more behind)) ((law stream).always (more ++ behind))) in
    front-of-longer (decided stream) (decided (stream ++ more)) mine.0 all.0 (sym mine.1 ∙ (ap packets (sym (append-nil (stream ++ more))) ∙ all.1)) longer

abbrev Fronts : ℕ → CutSettings → Type 0
Fronts r s = (ps : List (List ℕ)) → IsBeginning (closed r s ps) (plans r s ps)

abbrev Grow : ℕ → CutSettings → Type 0
Grow r s = (ps more : List (List ℕ)) → IsBeginning (closed r s ps) (closed r s (ps ++ more))

-- what is closed by the packets decided begins the plans of each stream that goes on from there
pub begins-all : (r : ℕ) (s : CutSettings) (stream more : List ℕ) → IsBeginning (decided stream) (packets (stream ++ more)) → Fronts r s → Grow r s
    → IsBeginning (closed_of r s stream) (plans_of r s (stream ++ more))
unfolding closed_of plans_of
begins-all r s stream more (rest, whole) front grow =
    let a = grow (decided stream) rest in
    let b = front (packets (stream ++ more)) in (
      a.0 ++ b.0,
      b.1 ∙ (ap (λ l. l ++ b.0) (ap (closed r s) whole ∙ a.1) ∙ append_assoc (closed r s (decided stream)) a.0 b.0),
    )

-- what is closed by the packets decided begins what is closed by more
pub grows-all : (r : ℕ) (s : CutSettings) (stream more : List ℕ) → IsBeginning (decided stream) (decided (stream ++ more)) → Grow r s
    → IsBeginning (closed_of r s stream) (closed_of r s (stream ++ more))
unfolding closed_of
grows-all r s stream more (rest, whole) grow =
    let a = grow (decided stream) rest in
    (a.0, ap (closed r s) whole ∙ a.1)

front-at : (xs ys : List SegmentPlan) (n : ℕ) (plan : SegmentPlan) → slice_get xs n ≡ Some plan → slice_get (xs ++ ys) n ≡ Some plan
front-at [] ys n plan at = cc
front-at (x ∷ xs) ys zero plan at = at
front-at (x ∷ xs) ys (suc n) plan at = front-at xs ys n plan at

-- what is closed is in order, as all plans of the stream are
pub in-order : (r : ℕ) (s : CutSettings) (stream : List ℕ) (stop : Option Stop)
    → ((stream : List ℕ) (n : ℕ) (plan : SegmentPlan) → slice_get (plans_of r s stream) n ≡ Some plan → IsPlan r s n plan)
    → IsBeginning (closed_of r s stream) (plans_of r s (stream ++ []))
    → (n : ℕ) (plan : SegmentPlan) → slice_get (made_of stop r s stream) n ≡ Some plan → IsPlan r s n plan
in-order r s stream None all front n plan at = all (stream ++ []) n plan (ap (λ (l : List SegmentPlan). slice_get l n) front.1 ∙ front-at (closed_of r s stream) front.0 n plan at)
in-order r s stream (Some (Good gone)) all front n plan at = all stream n plan at
in-order r s stream (Some (Cut told)) all front n plan at = all stream n plan at
in-order r s stream (Some Read) all front n plan at = all (stream ++ []) n plan (ap (λ (l : List SegmentPlan). slice_get l n) front.1 ∙ front-at (closed_of r s stream) front.0 n plan at)
