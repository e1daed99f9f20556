-- What becomes of renditions by an item.
use Rattle.std.specs.Prelude.{◌==◌, eqb, not, ◌&&◌}
use Rattle.std.proofs.Common.{arith, ◌≡◌, ℕ, ◌+◌, ◌<◌, ◌≤◌, Bool, true, false, List, [], ◌∷◌, ◌++◌, length, refl, sym, ap, ◌∙◌, subst, inl, inr, append-nil, append_assoc, length-append}
use Rattle.std.proofs.lemmas.Bool.Decides.{eqb_tells}
use Rattle.folder.specs.Moves.{Move}
use Rattle.item_io.specs.Items.{ItemValue, PlaylistValue, FramesItem, MasterItem, MediaItem, SegmentItem}
use Rattle.retention.specs.declared.step.Step.{Step}
use Rattle.retention.specs.Steps.{first_of}
use Rattle.retention.proofs.Stepping.{first_of-append}
use Rattle.keeping.specs.Keepings.{AreAsOf, AreNotedBy, AreStepsOf, AreTold, GoBehind, IfAny, IsNoted, IsPassed, IsStepOf, IsTold, KeepingValue, LetsGo, NotedUnless, Stay, Stays, keeping_at, steps_before, texts_of, with_text}

stays-by : (k l : KeepingValue) (told : List Step) (gone swept : ℕ) → k.gone ≤ gone → k.swept ≤ swept →
    l ≡ record k { gone = gone; swept = swept; kept = record k.kept { steps = k.kept.steps ++ told } } → Stays k l
stays-by k l told gone swept more further is = record {
  name = ap (λ (x : KeepingValue). x.name) is;
  base = ap (λ (x : KeepingValue). x.base) is;
  least = ap (λ (x : KeepingValue). x.kept.least) is;
  told = told;
  steps = ap (λ (x : KeepingValue). x.kept.steps) is;
  before = ap (λ (x : KeepingValue). x.before) is;
  older = ap (λ (x : KeepingValue). x.older) is;
  gone = omega (arith, more, ap (λ (x : KeepingValue). x.gone) is);
  swept = omega (arith, further, ap (λ (x : KeepingValue). x.swept) is);
}

same-one : (k l : KeepingValue) → l ≡ k → Stays k l
same-one k l is = subst (λ (x : KeepingValue). Stays k x) (sym is) (record {
  name = refl;
  base = refl;
  least = refl;
  told = [];
  steps = sym (append-nil k.kept.steps);
  before = refl;
  older = refl;
  gone = omega arith;
  swept = omega arith;
})

pub same-all : (old new : List KeepingValue) → new ≡ old → Stay old new
same-all old new is = record { len = ap length is; each = λ r. same-one (keeping_at old r) (keeping_at new r) (ap (λ (l : List KeepingValue). keeping_at l r) is) }

same-of : (r : ℕ) (old new : List KeepingValue) (Is : KeepingValue → KeepingValue → Type 0) → ((k l : KeepingValue) → Is k l → Stays k l) → AreAsOf r old new Is → Stay old new
same-of r old new Is same did = record {
  len = did.len;
  each = λ o. elim (eqb_tells o r) [
    | inl (tells, is) ↦ subst (λ (n : ℕ). Stays (keeping_at old n) (keeping_at new n)) (sym is) (same (keeping_at old r) (keeping_at new r) did.is)
    | inr (tells, apart) ↦ same-one (keeping_at old o) (keeping_at new o) (did.others o apart)
  ];
}

same-any : (r : ℕ) (old new : List KeepingValue) (Is : KeepingValue → KeepingValue → Type 0) (Same : Type 0) → ((k l : KeepingValue) → Is k l → Stays k l) → IfAny r old new Is Same → Stay old new
same-any r old new Is Same same (inl (within, did)) = same-of r old new Is same did
same-any r old new Is Same same (inr (beyond, is, rest)) = same-all old new is

-- what was passed is so of the rendition that stays
pub passed-on : (k l : KeepingValue) (n : ℕ) → Stays k l → IsPassed k n → IsPassed l n
passed-on k l n stays (i, within, some, below) =
    let same : first_of l.kept.steps i ≡ first_of k.kept.steps i = ap (λ (steps : List Step). first_of steps i) stays.steps ∙ first_of-append k.kept.steps stays.told i within in
    (i, omega (arith, within, ap length stays.steps, length-append k.kept.steps stays.told), omega (arith, some, same), omega (arith, below, same, stays.base))

noted-same : (text : List ℕ) (k l : KeepingValue) → IsNoted k l text → Stays k l
noted-same text k l noted = stays-by k l (noted.step ∷ []) k.gone k.swept (omega arith) (omega arith) noted.now

gone-same : (made made_then : List Move) (k l : KeepingValue) → LetsGo k l made made_then → Stays k l
gone-same made made_then k l went = stays-by k l [] (k.gone + went.count) (k.swept + went.more) (omega arith) (omega arith)
    (went.now ∙ ap (λ (steps : List Step). record k { gone = k.gone + went.count; swept = k.swept + went.more; kept = record k.kept { steps = steps } }) (sym (append-nil k.kept.steps)))

unless-same : (ended : Bool) (p : PlaylistValue) (old new : List KeepingValue) → NotedUnless ended p old new → Stay old new
unless-same true p old new is = same-all old new is
unless-same false p old new noted = same-any p.rendition old new (λ before now. IsNoted before now p.text) (Unit {0}) (noted-same p.text) noted

-- an item is noted
pub noted-all-same : (item : ItemValue) (old new : List KeepingValue) → AreNotedBy item old new → Stay old new
noted-all-same (SegmentItem s) old new is = same-all old new is
noted-all-same (MediaItem p) old new noted = unless-same p.ended p old new noted
noted-all-same (FramesItem p) old new is = same-all old new is
noted-all-same (MasterItem text) old new is = same-all old new is

-- segments go behind an item
pub gone-all-same : (item : ItemValue) (old new : List KeepingValue) (made made_then : List Move) → GoBehind item old new made made_then → Stay old new
gone-all-same (SegmentItem s) old new made made_then is = same-all old new is.0
gone-all-same (MediaItem p) old new made made_then is = same-all old new is.0
gone-all-same (FramesItem p) old new made made_then went = same-any p.rendition old new (λ before now. LetsGo before now made made_then) (made_then ≡ made) (gone-same made made_then) went
gone-all-same (MasterItem text) old new made made_then is = same-all old new is.0

stays-on : (k l m : KeepingValue) → Stays k l → Stays l m → Stays k m
stays-on k l m first further = record {
  name = further.name ∙ first.name;
  base = further.base ∙ first.base;
  least = further.least ∙ first.least;
  told = first.told ++ further.told;
  steps = further.steps ∙ ap (λ (steps : List Step). steps ++ further.told) first.steps ∙ append_assoc k.kept.steps first.told further.told;
  before = further.before ∙ first.before;
  older = further.older ∙ first.older;
  gone = omega (arith, first.gone, further.gone);
  swept = omega (arith, first.swept, further.swept);
}

pub stay-on : (old mid new : List KeepingValue) → Stay old mid → Stay mid new → Stay old new
stay-on old mid new first further = record {
  len = further.len ∙ first.len;
  each = λ r. stays-on (keeping_at old r) (keeping_at mid r) (keeping_at new r) (first.each r) (further.each r);
}

-- an item is noted, and segments go behind it
pub stay-behind : (item : ItemValue) (old noted new : List KeepingValue) (made made_then : List Move) → AreNotedBy item old noted → GoBehind item noted new made made_then → Stay old new
stay-behind item old noted new made made_then first went = stay-on old noted new (noted-all-same item old noted first) (gone-all-same item noted new made made_then went)

-- one text and its step more
AreStepsOf-more : (base : ℕ) (texts : List (List ℕ)) (steps : List Step) (text : List ℕ) (step : Step) → AreStepsOf base texts steps → IsStepOf base text step → AreStepsOf base (texts ++ text ∷ []) (steps ++ step ∷ [])
AreStepsOf-more base [] [] text step are is = (is, tt)
AreStepsOf-more base (t ∷ texts) (s ∷ steps) text step are is = (are.0, AreStepsOf-more base texts steps text step are.1 is)
AreStepsOf-more base [] (s ∷ steps) text step are is = absurd are
AreStepsOf-more base (t ∷ texts) [] text step are is = absurd are

with_text-append : (t : Bool) (text : List ℕ) (texts more : List (List ℕ)) → with_text t text (texts ++ more) ≡ with_text t text texts ++ more
with_text-append true text texts more = refl
with_text-append false text texts more = refl

pub texts_of-append : (r : ℕ) (items more : List ItemValue) → texts_of r (items ++ more) ≡ texts_of r items ++ texts_of r more
texts_of-append r [] more = refl
texts_of-append r (SegmentItem s ∷ items) more = texts_of-append r items more
texts_of-append r (MediaItem p ∷ items) more =
    ap (with_text (not p.ended && (p.rendition == r)) p.text) (texts_of-append r items more) ∙ with_text-append (not p.ended && (p.rendition == r)) p.text (texts_of r items) (texts_of r more)
texts_of-append r (FramesItem p ∷ items) more = texts_of-append r items more
texts_of-append r (MasterItem text ∷ items) more = texts_of-append r items more

-- an item that tells a rendition nothing
untold : (r : ℕ) (items : List ItemValue) (item : ItemValue) (old new : KeepingValue) → texts_of r (item ∷ []) ≡ [] → new ≡ old →
    IsTold old (texts_of r items) → IsTold new (texts_of r (items ++ item ∷ []))
untold r items item old new none is told =
    subst (λ (texts : List (List ℕ)). IsTold new texts)
    (sym (texts_of-append r items (item ∷ []) ∙ ap (λ (l : List (List ℕ)). texts_of r items ++ l) none ∙ append-nil (texts_of r items)))
    (subst (λ (k : KeepingValue). IsTold k (texts_of r items)) (sym is) told)

untold-all : (items : List ItemValue) (item : ItemValue) (old new : List KeepingValue) → ((r : ℕ) → r < length old → texts_of r (item ∷ []) ≡ []) → new ≡ old → AreTold old items → AreTold new (items ++ item ∷ [])
untold-all items item old new none is told r within =
    let was : r < length old = omega (arith, within, ap length is) in
    untold r items item (keeping_at old r) (keeping_at new r) (none r was) (ap (λ (l : List KeepingValue). keeping_at l r) is) (told r was)

-- and one that tells it a playlist
told-one : (r : ℕ) (items : List ItemValue) (item : ItemValue) (text : List ℕ) (old new : KeepingValue) → texts_of r (item ∷ []) ≡ text ∷ [] → IsNoted old new text →
    IsTold old (texts_of r items) → IsTold new (texts_of r (items ++ item ∷ []))
told-one r items item text old new one noted told =
    subst (λ (texts : List (List ℕ)). IsTold new texts)
    (sym (texts_of-append r items (item ∷ []) ∙ ap (λ (l : List (List ℕ)). texts_of r items ++ l) one))
    (subst (λ (k : KeepingValue). IsTold k (texts_of r items ++ text ∷ [])) (sym noted.now) (record {
      told = told.told ++ noted.step ∷ [];
      all = ap (λ (steps : List Step). steps ++ noted.step ∷ []) told.all ∙ append_assoc (steps_before old.before) told.told (noted.step ∷ []);
      are = AreStepsOf-more old.base (texts_of r items) told.told text noted.step told.are noted.is_step;
    }))

pub text-here : (ended : Bool) (r o : ℕ) (text : List ℕ) → ended ≡ false → eqb r o ≡ true → with_text (not ended && (r == o)) text [] ≡ text ∷ []
text-here ended r o text on here = ap (λ (t : Bool). with_text (not t && (r == o)) text []) on ∙ ap (λ (t : Bool). with_text t text []) here

text-elsewhere : (ended : Bool) (r o : ℕ) (text : List ℕ) → ended ≡ false → eqb r o ≡ false → with_text (not ended && (r == o)) text [] ≡ []
text-elsewhere ended r o text on apart = ap (λ (t : Bool). with_text (not t && (r == o)) text []) on ∙ ap (λ (t : Bool). with_text t text []) apart

text-none : (ended : Bool) (r o : ℕ) (text : List ℕ) → ended ≡ true → with_text (not ended && (r == o)) text [] ≡ []
text-none ended r o text over = ap (λ (t : Bool). with_text (not t && (r == o)) text []) over

told-media : (items : List ItemValue) (p : PlaylistValue) (old new : List KeepingValue) (ended : Bool) → p.ended ≡ ended → NotedUnless ended p old new → AreTold old items → AreTold new (items ++ MediaItem p ∷ [])
told-media items p old new true over is told = untold-all items (MediaItem p) old new (λ r within. text-none p.ended p.rendition r p.text over) is told
told-media items p old new false on (inl (within, did)) told = λ r below.
    let was : r < length old = omega (arith, below, did.len) in
    elim (eqb_tells p.rendition r) [
      | inl (here, is) ↦ told-one r items (MediaItem p) p.text (keeping_at old r) (keeping_at new r) (text-here p.ended p.rendition r p.text on here)
          (subst (λ (n : ℕ). IsNoted (keeping_at old n) (keeping_at new n) p.text) is did.is) (told r was)
      | inr (apart, differs) ↦ untold r items (MediaItem p) (keeping_at old r) (keeping_at new r) (text-elsewhere p.ended p.rendition r p.text on apart)
          (did.others r (λ is. differs (sym is))) (told r was)
    ]
told-media items p old new false on (inr (beyond, is, rest)) told =
    untold-all items (MediaItem p) old new
    (λ r within. elim (eqb_tells p.rendition r) [
      | inl (here, is) ↦ absurd (omega (arith, within, beyond, is))
      | inr (apart, differs) ↦ text-elsewhere p.ended p.rendition r p.text on apart
    ]) is told

-- an item that is noted
pub told-more : (items : List ItemValue) (item : ItemValue) (old new : List KeepingValue) → AreNotedBy item old new → AreTold old items → AreTold new (items ++ item ∷ [])
told-more items (SegmentItem s) old new is told = untold-all items (SegmentItem s) old new (λ r within. refl) is told
told-more items (MediaItem p) old new noted told = told-media items p old new p.ended refl noted told
told-more items (FramesItem p) old new is told = untold-all items (FramesItem p) old new (λ r within. refl) is told
told-more items (MasterItem text) old new is told = untold-all items (MasterItem text) old new (λ r within. refl) is told

told-by-any : (r : ℕ) (items : List ItemValue) (old new : List KeepingValue) (made made_then : List Move) → IfAny r old new (λ before now. LetsGo before now made made_then) (made_then ≡ made) → AreTold old items → AreTold new items
told-by-any r items old new made made_then (inr (beyond, is, rest)) told = subst (λ (l : List KeepingValue). AreTold l items) (sym is) told
told-by-any r items old new made made_then (inl (within, did)) told = λ o below.
    let was : o < length old = omega (arith, below, did.len) in
    elim (eqb_tells o r) [
      | inl (here, is) ↦
          let went : LetsGo (keeping_at old o) (keeping_at new o) made made_then = subst (λ (n : ℕ). LetsGo (keeping_at old n) (keeping_at new n) made made_then) (sym is) did.is in
          let was_told = told o was in
          subst (λ (k : KeepingValue). IsTold k (texts_of o items)) (sym went.now) (record { told = was_told.told; all = was_told.all; are = was_told.are })
      | inr (apart, differs) ↦ subst (λ (k : KeepingValue). IsTold k (texts_of o items)) (sym (did.others o differs)) (told o was)
    ]

-- segments that go tell nothing
pub told-behind : (item : ItemValue) (items : List ItemValue) (old new : List KeepingValue) (made made_then : List Move) → GoBehind item old new made made_then → AreTold old items → AreTold new items
told-behind (SegmentItem s) items old new made made_then is told = subst (λ (l : List KeepingValue). AreTold l items) (sym is.0) told
told-behind (MediaItem p) items old new made made_then is told = subst (λ (l : List KeepingValue). AreTold l items) (sym is.0) told
told-behind (FramesItem p) items old new made made_then went told = told-by-any p.rendition items old new made made_then went told
told-behind (MasterItem text) items old new made made_then is told = subst (λ (l : List KeepingValue). AreTold l items) (sym is.0) told
