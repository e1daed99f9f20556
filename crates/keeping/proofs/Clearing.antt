-- Renditions are cleared behind their blocks.
use Rattle.std.specs.List.{Contains}
use Rattle.std.proofs.Common.{arith, ◌≡◌, ℕ, ◌<◌, ◌⊎◌, Bool, true, false, List, [], ◌∷◌, ◌++◌, length, refl, sym, ap, ◌∙◌, subst, inl, inr}
use Rattle.std.proofs.lemmas.Bool.Decides.{eqb_tells}
use Rattle.std.proofs.lemmas.List.Elements.{Contains-append_left, Contains-append_right}
use Rattle.folder.specs.Moves.{Move}
use Rattle.item_io.specs.Items.{ItemValue, PlaylistValue, SegmentValue, FramesItem, MasterItem, MediaItem, SegmentItem}
use Rattle.keeping.specs.Clearing.{AreCleared, IsCleared, missed_with}
use Rattle.keeping.specs.Keepings.{AllWent, AreNotedBy, GoBehind, KeepingValue, NotedUnless, SweptBehind, keeping_at, texts_of}
use Rattle.keeping.proofs.Telling.{stay-behind, text-here, texts_of-append}

-- the last of some items, or one before it
last-split : {A : Type 0} (items : List A) (item : A) (front : List A) (x : A) (rest : List A) → items ++ item ∷ [] ≡ front ++ x ∷ rest →
    ((rest ≡ []) × (item ≡ x)) ⊎ ((more : List A) × (rest ≡ more ++ item ∷ []) × (items ≡ front ++ x ∷ more))
last-split [] item [] x rest e = inl (cc e, cc e)
last-split [] item (f ∷ []) x rest e = absurd (cc e)
last-split [] item (f ∷ g ∷ front) x rest e = absurd (cc e)
last-split (i ∷ items) item [] x rest e =
    let first : i ≡ x = cc e in
    let more : rest ≡ items ++ item ∷ [] = cc e in
    inr (items, more, ap (λ y. y ∷ items) first)
last-split (i ∷ items) item (f ∷ front) x rest e =
    let first : i ≡ f = cc e in
    let more : items ++ item ∷ [] ≡ front ++ x ∷ rest = cc e in
    elim (last-split items item front x rest more) [
      | inl last ↦ inl last
      | inr (before, behind, all) ↦ inr (before, behind, λ j. first j ∷ all j)
    ]

no-first : (xs ys : List (List ℕ)) → xs ++ ys ≡ [] → xs ≡ []
no-first [] ys e = refl
no-first (x ∷ xs) ys e = absurd (cc e)

no-second : (xs ys : List (List ℕ)) → xs ++ ys ≡ [] → ys ≡ []
no-second [] ys e = e
no-second (x ∷ xs) ys e = absurd (cc e)

still-missed : (lags : Bool) (item : ItemValue) (missed : List ℕ) (r : ℕ) → Contains missed r → Contains (missed_with lags item missed) r
still-missed false item missed r has = has
still-missed true (SegmentItem s) missed r has = has
still-missed true (MediaItem p) missed r has = has
still-missed true (FramesItem p) missed r has = Contains-append_left missed (p.rendition ∷ []) r has
still-missed true (MasterItem text) missed r has = has

-- the rendition whose block ends
here : (p : PlaylistValue) (old new : List KeepingValue) (missed : List ℕ) (lags : Bool) → (lags ≡ false → AllWent (FramesItem p) new) → (lags ≡ false → SweptBehind (FramesItem p) old new) →
    p.rendition < length new → ¬ Contains (missed_with lags (FramesItem p) missed) p.rendition → IsCleared (keeping_at new p.rendition)
here p old new missed true went swept within unmissed =
    absurd (unmissed (Contains-append_right missed (p.rendition ∷ []) p.rendition (0, omega arith, refl)))
here p old new missed false went swept within unmissed = record {
  went = went refl within;
  older = λ some. elim (swept refl within some) [
    | inl all ↦ inl all
    | inr more ↦ inr (omega (arith, more))
  ];
}

-- another one
noted-other : (ended : Bool) (q : PlaylistValue) (r : ℕ) (old new : List KeepingValue) → q.ended ≡ ended → NotedUnless ended q old new → texts_of r (MediaItem q ∷ []) ≡ [] → keeping_at new r ≡ keeping_at old r
noted-other true q r old new over is none = ap (λ (l : List KeepingValue). keeping_at l r) is
noted-other false q r old new on (inr (beyond, is, rest)) none = ap (λ (l : List KeepingValue). keeping_at l r) is
noted-other false q r old new on (inl (within, did)) none = elim (eqb_tells q.rendition r) [
  | inl (same, is) ↦ absurd (let told = text-here q.ended q.rendition r q.text on same in cc (told, none))
  | inr (apart, differs) ↦ did.others r (λ is. differs (sym is))
]

cleared-same : (old new : List KeepingValue) (r : ℕ) → keeping_at new r ≡ keeping_at old r → IsCleared (keeping_at old r) → IsCleared (keeping_at new r)
cleared-same old new r is cleared = subst IsCleared (sym is) cleared

cleared-behind : (item : ItemValue) (r : ℕ) (old noted new : List KeepingValue) (missed : List ℕ) (lags : Bool) (made made_then : List Move) → AreNotedBy item old noted → GoBehind item noted new made made_then →
    (lags ≡ false → AllWent item new) → (lags ≡ false → SweptBehind item noted new) → r < length new → ¬ Contains (missed_with lags item missed) r → texts_of r (item ∷ []) ≡ [] →
    IsCleared (keeping_at old r) → IsCleared (keeping_at new r)
cleared-behind (SegmentItem s) r old noted new missed lags made made_then first behind went swept within unmissed none was =
    cleared-same old new r (ap (λ (l : List KeepingValue). keeping_at l r) (behind.0 ∙ first)) was
cleared-behind (MediaItem q) r old noted new missed lags made made_then first behind went swept within unmissed none was =
    cleared-same old new r (ap (λ (l : List KeepingValue). keeping_at l r) behind.0 ∙ noted-other q.ended q r old noted refl first none) was
cleared-behind (FramesItem q) r old noted new missed lags made made_then first (inr (beyond, is, rest)) went swept within unmissed none was =
    cleared-same old new r (ap (λ (l : List KeepingValue). keeping_at l r) (is ∙ first)) was
cleared-behind (FramesItem q) r old noted new missed lags made made_then first (inl (below, did)) went swept within unmissed none was = elim (eqb_tells r q.rendition) [
  | inl (same, is) ↦ subst (λ (n : ℕ). IsCleared (keeping_at new n)) (sym is)
      (here q noted new missed lags went swept (omega (arith, within, is)) (subst (λ (n : ℕ). ¬ Contains (missed_with lags (FramesItem q) missed) n) is unmissed))
  | inr (apart, differs) ↦ cleared-same old new r (did.others r differs ∙ ap (λ (l : List KeepingValue). keeping_at l r) first) was
]
cleared-behind (MasterItem text) r old noted new missed lags made made_then first behind went swept within unmissed none was =
    cleared-same old new r (ap (λ (l : List KeepingValue). keeping_at l r) (behind.0 ∙ first)) was

-- the block that this item ends
cleared-last : (item : ItemValue) (p : PlaylistValue) (noted new : List KeepingValue) (missed : List ℕ) (lags : Bool) → item ≡ FramesItem p →
    (lags ≡ false → AllWent item new) → (lags ≡ false → SweptBehind item noted new) → p.rendition < length new → ¬ Contains (missed_with lags item missed) p.rendition → IsCleared (keeping_at new p.rendition)
cleared-last item p noted new missed lags is went swept within unmissed =
    here p noted new missed lags (λ on. subst (λ (i : ItemValue). AllWent i new) is (went on)) (λ on. subst (λ (i : ItemValue). SweptBehind i noted new) is (swept on)) within
    (subst (λ (i : ItemValue). ¬ Contains (missed_with lags i missed) p.rendition) is unmissed)

-- one item more
pub cleared-more : (item : ItemValue) (items : List ItemValue) (old noted new : List KeepingValue) (missed : List ℕ) (lags : Bool) (made made_then : List Move) →
    AreNotedBy item old noted → GoBehind item noted new made made_then → (lags ≡ false → AllWent item new) → (lags ≡ false → SweptBehind item noted new) →
    AreCleared missed old items → AreCleared (missed_with lags item missed) new (items ++ item ∷ [])
cleared-more item items old noted new missed lags made made_then first behind went swept cleared front rest p all none within unmissed =
    elim (last-split items item front (FramesItem p) rest all) [
      | inl (last, is) ↦ cleared-last item p noted new missed lags is went swept within unmissed
      | inr (more, rest_is, before) ↦
          let stay = stay-behind item old noted new made made_then first behind in
          let texts : texts_of p.rendition more ++ texts_of p.rendition (item ∷ []) ≡ [] =
          sym (texts_of-append p.rendition more (item ∷ [])) ∙ ap (texts_of p.rendition) (sym rest_is) ∙ none in
          cleared-behind item p.rendition old noted new missed lags made made_then first behind went swept within unmissed (no-second _ _ texts)
          (cleared front more p before (no-first _ _ texts) (omega (arith, within, stay.len)) (λ has. unmissed (still-missed lags item missed p.rendition has)))
    ]

-- a segment more
pub cleared-taken : (s : SegmentValue) (items : List ItemValue) (old new : List KeepingValue) (missed missed_then : List ℕ) → new ≡ old → missed_then ≡ missed →
    AreCleared missed old items → AreCleared missed_then new (items ++ SegmentItem s ∷ [])
cleared-taken s items old new missed missed_then is same cleared =
    subst (λ (l : List ℕ). AreCleared l new (items ++ SegmentItem s ∷ [])) (sym same)
    (cleared-more (SegmentItem s) items old new new missed false [] [] is (refl, refl) (λ _. tt) (λ _. tt) cleared)
