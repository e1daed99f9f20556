-- Renditions with which an outlet began, told of what it holds.
use Rattle.std.specs.Prelude.{Err, IfErr, IfOk, Ok, OnErr, OnOk, Option, Result}
use Rattle.std.proofs.Common.{arith, ◌≡◌, ◌+◌, length, length-append, append-nil, drop, refl, sym, subst, ◌∙◌, ℕ, List, [], ◌∷◌, ◌++◌, map}
use Rattle.std.proofs.Math.Seq.{drop-append_seam, drop-length}
use Rattle.std.proofs.lemmas.List.{drop-append-le}
use Rattle.folder.specs.Moves.{Move}
use Rattle.item_io.specs.Items.{FramesItem, ItemValue}
use Rattle.item_io.specs.Outlets.{BreaksOff, Grows, Held}
use Rattle.item_io.specs.Views.{SourceView}
use Rattle.live_board.specs.Snapshots.{SnapshotFacts}
use Rattle.ingest.specs.declared.lane.Stop.{Stop}
use Rattle.ladder_items.specs.declared.report.Report.{Report}
use Rattle.ladder_items.specs.Ladder.{Ladder}
use Rattle.ladder_items.specs.Packed.{HasHalted, IsCutShort, IsPacked}
use Rattle.ladder_items.specs.Putting.{PutAll, PutSome}
use Rattle.ladder_items.specs.Runs.{Run, run_of}
use Rattle.ladder_items.proofs.Endings.{says-as}
use Rattle.rounds.specs.Courses.{IsCutShown}
use Rattle.rounds.specs.Shown.{IsHaltedShown, IsPackedShown, IsUnfit, of_shown}
use Rattle.keeping.specs.Clearing.{AreCleared}
use Rattle.keeping.specs.Keepings.{KeepingValue, Stay}
use Rattle.keeping.specs.Holding.{KeepingState, KeptBy, KeptUpTo}
use Rattle.keeping.proofs.Telling.{same-all, stay-on}
use Rattle.packing.specs.LadderPacking.{LadderSays, TurnsAway}
use Rattle.packing.proofs.FolderRuns.{says-any}
use Rattle.commands.specs.declared.packing_fault.LadderPackingFault.{LadderPackingFault}
use Rattle.commands.specs.declared.packing_fault.LadderPackingFault.TheVariants.{Packing, Unwritten, NoMemory}
use Rattle.removal.specs.Removing.{kept_view}
use Rattle.removal.specs.Since.{HoldsSince, HoldsSinceUpTo, mark_all, mark_numbers, mark_one, since_view}

-- what is marked can be told again
same-numbers : (xs ys r s : List ℕ) → mark_numbers xs r ≡ mark_numbers ys s → (xs ≡ ys) × (r ≡ s)
same-numbers [] [] r s e = (refl, cc e)
same-numbers [] (y ∷ ys) r s e = absurd (cc)
same-numbers (x ∷ xs) [] r s e = absurd (cc)
same-numbers (x ∷ xs) (y ∷ ys) r s e =
    let first : x ≡ y = cc e in
    let rest : mark_numbers xs r ≡ mark_numbers ys s = cc e in
    let more = same-numbers xs ys r s rest in
    (λ i. first i ∷ more.0 i, more.1)

-- lists of what two numbers tell are told by both
same-pairs : {A : Type 0} (f g : A → ℕ) → ((a b : A) → f a ≡ f b → g a ≡ g b → a ≡ b) → (xs ys : List A) → map f xs ≡ map f ys → map g xs ≡ map g ys → xs ≡ ys
same-pairs f g both [] [] e d = refl
same-pairs f g both [] (y ∷ ys) e d = absurd (cc)
same-pairs f g both (x ∷ xs) [] e d = absurd (cc)
same-pairs f g both (x ∷ xs) (y ∷ ys) e d =
    let one : f x ≡ f y = cc e in
    let other : g x ≡ g y = cc d in
    let more : map f xs ≡ map f ys = cc e in
    let others : map g xs ≡ map g ys = cc d in
    let first = both x y one other in
    let rest = same-pairs f g both xs ys more others in
    λ i. first i ∷ rest i

same-one : (k l : KeepingValue) (r s : List ℕ) → mark_one k r ≡ mark_one l s → (k ≡ l) × (r ≡ s)
same-one k l r s e =
    let base : k.base ≡ l.base = cc e in
    let gone : k.gone ≡ l.gone = cc e in
    let swept : k.swept ≡ l.swept = cc e in
    let least : k.kept.least ≡ l.kept.least = cc e in
    let name = same-numbers k.name l.name _ _ (cc e) in
    let micros = same-numbers _ _ _ _ name.1 in
    let firsts = same-numbers _ _ _ _ micros.1 in
    let steps : k.kept.steps ≡ l.kept.steps = same-pairs (λ step. step.micros) (λ step. step.first) (λ a b m f i. record { micros = m i; first = f i }) k.kept.steps l.kept.steps micros.0 firsts.0 in
    let before = same-numbers k.before l.before _ _ firsts.1 in
    let older = same-numbers k.older l.older _ _ before.1 in (
      λ i. record {
        name = name.0 i;
        base = base i;
        gone = gone i;
        kept = record { least = least i; steps = steps i };
        before = before.0 i;
        older = older.0 i;
        swept = swept i;
      },
      older.1,
    )

same-marked : (ks ls : List KeepingValue) (r s : List ℕ) → mark_all ks r ≡ mark_all ls s → (ks ≡ ls) × (r ≡ s)
same-marked [] [] r s e = (refl, cc e)
same-marked [] (l ∷ ls) r s e = absurd (cc)
same-marked (k ∷ ks) [] r s e = absurd (cc)
same-marked (k ∷ ks) (l ∷ ls) r s e =
    let rest : mark_one k (mark_all ks r) ≡ mark_one l (mark_all ls s) = cc e in
    let one = same-one k l (mark_all ks r) (mark_all ls s) rest in
    let more = same-marked ks ls r s one.1 in
    (λ i. one.0 i ∷ more.0 i, more.1)

-- there is no block yet
not-first : (front rest : List ItemValue) (item : ItemValue) → [] ≡ front ++ item ∷ rest → ⊥
not-first [] rest item e = cc e
not-first (i ∷ front) rest item e = cc e

none-cleared : (missed : List ℕ) (renditions : List KeepingValue) → AreCleared missed renditions []
none-cleared missed renditions front rest p e none within unmissed = absurd (not-first front rest (FramesItem p) e)

-- What a put does to the outlet it does to the one that tells with which renditions it began.
module _ {F : Type 0} (made : F → List Move) (x y : KeepingState F) (stay : Stay x.renditions y.renditions) where
  grows-since : (given : List ItemValue) → Grows (KeptBy made x) (KeptBy made y) given → (y.files.failures ≡ 0 → x.files.failures ≡ 0) →
      (y.files.failures ≡ 0 → (items : List ItemValue) → AreCleared x.missed x.renditions items → AreCleared y.missed y.renditions (items ++ given)) →
      Grows (HoldsSince made x) (HoldsSince made y) given
  grows-since given g before more = record {
    follows = λ held h. record {
      first = h.first;
      count = h.count;
      before = h.before;
      marked = h.marked;
      within = omega (arith, h.within, length-append held.items given);
      stay = stay-on h.first x.renditions y.renditions h.stay stay;
      cleared = λ none. subst (λ (l : List ItemValue). AreCleared y.missed y.renditions l) (sym (drop-append-le h.count held.items given h.within))
          (more none (drop h.count held.items) (h.cleared (before none)));
      kept = g.follows (record { before = h.before; items = held.items }) h.kept;
    };
  }

  breaks-since : (given : List ItemValue) (item : ItemValue) → BreaksOff (KeptBy made x) (KeptUpTo made y) given item → BreaksOff (HoldsSince made x) (HoldsSinceUpTo made y) given item
  breaks-since given item b = record {
    follows = λ held h. record {
      first = h.first;
      count = h.count;
      before = h.before;
      marked = h.marked;
      stay = stay-on h.first x.renditions y.renditions h.stay stay;
      kept = b.follows (record { before = h.before; items = held.items }) h.kept;
    };
  }

  -- a file was taken
  pub taken-since : (item : ItemValue) → Grows (KeptBy made x) (KeptBy made y) (item ∷ []) → y.files.failures ≡ x.files.failures →
      ((items : List ItemValue) → AreCleared x.missed x.renditions items → AreCleared y.missed y.renditions (items ++ item ∷ [])) → Grows (HoldsSince made x) (HoldsSince made y) (item ∷ [])
  taken-since item g well more = grows-since (item ∷ []) g (λ none. sym well ∙ none) (λ none. more)

  -- none was taken
  pub untaken-since : Grows (KeptBy made x) (KeptBy made y) [] → y.files.failures ≡ x.files.failures → y.renditions ≡ x.renditions → y.missed ≡ x.missed → Grows (HoldsSince made x) (HoldsSince made y) []
  untaken-since g well is same = grows-since [] g (λ none. sym well ∙ none)
      (λ none items cleared. subst (AreCleared y.missed y.renditions) (sym (append-nil items))
      (subst (λ (l : List ℕ). AreCleared l y.renditions items) (sym same) (subst (λ (l : List KeepingValue). AreCleared x.missed l items) (sym is) cleared)))

  module _ {T E : Type 0} where
    pub ok-since : (answer : Result T E) (item : ItemValue) → OnOk answer (Grows (KeptBy made x) (KeptBy made y) (item ∷ [])) → OnOk answer (y.files.failures ≡ x.files.failures) →
        OnOk answer ((items : List ItemValue) → AreCleared x.missed x.renditions items → AreCleared y.missed y.renditions (items ++ item ∷ [])) →
        OnOk answer (Grows (HoldsSince made x) (HoldsSince made y) (item ∷ []))
    ok-since (Ok v) item g well more = taken-since item g well more
    ok-since (Err e) item g well more = tt

    pub err-since : (answer : Result T E) → OnErr answer (Grows (KeptBy made x) (KeptBy made y) []) → OnErr answer (y.files.failures ≡ x.files.failures + 1) →
        OnErr answer (Grows (HoldsSince made x) (HoldsSince made y) [])
    err-since (Ok v) g failed = tt
    err-since (Err e) g failed = grows-since [] g (λ none. absurd (omega (arith, none, failed))) (λ none. absurd (omega (arith, none, failed)))

    pub refused-since : (answer : Result T E) (Well : Type 0) (given : List ItemValue) (item : ItemValue) → OnErr answer (Well → BreaksOff (KeptBy made x) (KeptUpTo made y) given item) →
        OnErr answer (Well → BreaksOff (HoldsSince made x) (HoldsSinceUpTo made y) given item)
    refused-since (Ok v) Well given item b = tt
    refused-since (Err e) Well given item b = λ well. breaks-since given item (b well)

-- A run of the one that tells with which renditions it began is one of the outlet.
module _ {X F : Type 0} (input : SourceView X) (made : F → List Move) (ladder : Ladder) (most : ℕ) (before now : List X) (x y : KeepingState F) where
  abbrev Since : Run X (KeepingState F)
  Since = run_of input (since_view made) most before now x y

  abbrev Plain : Run X (KeepingState F)
  Plain = run_of input (kept_view made) most before now x y

  -- what it holds that the outlet holds
  at : (held : Held) → KeptBy made x held → HoldsSince made x (record { before = mark_all x.renditions (length held.items ∷ held.before); items = held.items })
  at held h = record {
    first = x.renditions;
    count = length held.items;
    before = held.before;
    marked = refl;
    within = omega arith;
    stay = same-all x.renditions x.renditions refl;
    cleared = λ none. subst (λ (l : List ItemValue). AreCleared x.missed x.renditions l) (sym (drop-length held.items)) (none-cleared x.missed x.renditions);
    kept = h;
  }

  grows-plain : (given : List ItemValue) → Grows (HoldsSince made x) (HoldsSince made y) given → Grows (KeptBy made x) (KeptBy made y) given
  grows-plain given g = record {
    follows = λ held h.
        let then = g.follows (record { before = mark_all x.renditions (length held.items ∷ held.before); items = held.items }) (at held h) in
        let same = same-marked x.renditions then.first (length held.items ∷ held.before) (then.count ∷ then.before) then.marked in
        let bytes : held.before ≡ then.before = cc (same.1) in
        subst (λ (b : List ℕ). KeptBy made y (record { before = b; items = held.items ++ given })) (sym bytes) then.kept;
  }

  breaks-plain : (given : List ItemValue) (item : ItemValue) → BreaksOff (HoldsSince made x) (HoldsSinceUpTo made y) given item → BreaksOff (KeptBy made x) (KeptUpTo made y) given item
  breaks-plain given item b = record {
    follows = λ held h.
        let then = b.follows (record { before = mark_all x.renditions (length held.items ∷ held.before); items = held.items }) (at held h) in
        let same = same-marked x.renditions then.first (length held.items ∷ held.before) (then.count ∷ then.before) then.marked in
        let bytes : held.before ≡ then.before = cc (same.1) in
        subst (λ (b : List ℕ). KeptUpTo made y (record { before = b; items = held.items ++ given }) item) (sym bytes) then.kept;
  }

  all-plain : (items : List ItemValue) → PutAll (since_view made) x y items → PutAll (kept_view made) x y items
  all-plain items p = record { grows = grows-plain items p.grows; unfailed = p.unfailed }

  some-plain : (items : List ItemValue) → PutSome (since_view made) x y items → PutSome (kept_view made) x y items
  some-plain items s = record {
    given = s.given;
    rest = s.rest;
    all = s.all;
    grows = grows-plain s.given s.grows;
    stops = λ none one. let r = s.stops none one in record { item = r.item; more = r.more; next = r.next; refused = breaks-plain s.given r.item r.refused };
  }

  packed-plain : (report : Report) → IsPacked Since ladder report → IsPacked Plain ladder report
  packed-plain report p = record {
    streams = p.streams;
    parts = p.parts;
    items = p.items;
    weave = p.weave;
    puts = all-plain p.items p.puts;
    same_streams = p.same_streams;
    same_now = p.same_now;
    each = p.each;
    report_is = p.report_is;
  }

  halted-plain : (r : ℕ) (stop : Option Stop) → HasHalted Since ladder r stop → HasHalted Plain ladder r stop
  halted-plain r stop h = record {
    streams = h.streams;
    parts = h.parts;
    items = h.items;
    stops = h.stops;
    allowed = h.allowed;
    weave = h.weave;
    puts = all-plain h.items h.puts;
    same_now = h.same_now;
    each = h.each;
    within = h.within;
    at_r = h.at_r;
    first = h.first;
  }

  cut-plain : IsCutShort Since ladder → IsCutShort Plain ladder
  cut-plain c = record {
    streams = c.streams;
    parts = c.parts;
    items = c.items;
    weave = c.weave;
    some = some-plain c.items c.some;
    allowed = c.allowed;
    same_now = c.same_now;
    each = c.each;
    counts = c.counts;
  }

  module _ (workers : ℕ) (old new : List SnapshotFacts) where
    pub shown-plain : (report : Report) → IsPackedShown Since ladder workers old new report → IsPackedShown Plain ladder workers old new report
    unfolding packed-plain
    shown-plain report s = record { packed = packed-plain report s.packed; shown = s.shown; each = s.each; total = s.total; own = s.own }

    cut-shown-plain : IsCutShown Since ladder old new → IsCutShown Plain ladder old new
    unfolding cut-plain some-plain
    cut-shown-plain c = record { cut = cut-plain c.cut; shows = c.shows }

    unfit-plain : IsUnfit Since ladder workers old new → IsUnfit Plain ladder workers old new
    unfit-plain u = record { unfit = u.unfit; unread = u.unread; unput = all-plain [] u.unput; unshown = u.unshown }

    halted-shown-plain : (r : ℕ) (stop : Option Stop) → IsHaltedShown Since ladder r stop old new → IsHaltedShown Plain ladder r stop old new
    unfolding halted-plain
    halted-shown-plain r stop h = record { halted = halted-plain r stop h.halted; shown = h.shown }

    pub says-plain : (held held_then : Option (List ℕ)) (fault : LadderPackingFault) → LadderSays Since ladder workers old new held held_then fault → LadderSays Plain ladder workers old new held held_then fault
    says-plain held held_then (Packing fault) says = (
      says-as (of_shown Since ladder workers old new) (of_shown Plain ladder workers old new) fault unfit-plain halted-shown-plain
          (λ c. (cut-shown-plain c.0, c.1)) (λ c. (cut-shown-plain c.0, c.1)) (λ r n is c. (cut-shown-plain c.0, c.1)) says.0,
      says.1,
    )
    says-plain held held_then Unwritten e = record { report = e.report; packed = shown-plain e.report e.packed; begun = e.begun }
    says-plain held held_then NoMemory e = record { report = e.report; packed = shown-plain e.report e.packed; unwritten = e.unwritten }

    pub away-plain : (fault : LadderPackingFault) → TurnsAway Since ladder workers old new fault → TurnsAway Plain ladder workers old new fault
    away-plain (Packing fault) away = λ unfit. let a = away unfit in (a.0, a.1, all-plain [] a.2, a.3)
    away-plain Unwritten fits = fits
    away-plain NoMemory fits = fits

    pub ok-plain : (answer : Result Report LadderPackingFault) → IfOk answer (IsPackedShown Since ladder workers old new) → IfOk answer (IsPackedShown Plain ladder workers old new)
    ok-plain (Ok report) s = shown-plain report s
    ok-plain (Err fault) s = tt

    pub fault-plain : (held held_then : Option (List ℕ)) (answer : Result Report LadderPackingFault) → IfErr answer (LadderSays Since ladder workers old new held held_then) →
        IfErr answer (LadderSays Plain ladder workers old new held held_then)
    fault-plain held held_then (Ok report) s = tt
    fault-plain held held_then (Err fault) s = says-plain held held_then fault s

    pub breach-plain : (answer : Result Report LadderPackingFault) → IfErr answer (TurnsAway Since ladder workers old new) → IfErr answer (TurnsAway Plain ladder workers old new)
    breach-plain (Ok report) s = tt
    breach-plain (Err fault) s = away-plain fault s

  -- The renditions with which it began come back.
  module _ (first : Held) (held_first : KeptBy made x first) where
    stay-grown : (given : List ItemValue) → Grows (HoldsSince made x) (HoldsSince made y) given → Stay x.renditions y.renditions
    stay-grown given g =
        let then = g.follows (record { before = mark_all x.renditions (length first.items ∷ first.before); items = first.items }) (at first held_first) in
        let same = same-marked x.renditions then.first (length first.items ∷ first.before) (then.count ∷ then.before) then.marked in
        subst (λ (l : List KeepingValue). Stay l y.renditions) (sym same.0) then.stay

    -- The items since then were all put: by them each rendition is cleared.
    pub cleared-grown : (given : List ItemValue) → Grows (HoldsSince made x) (HoldsSince made y) given → y.files.failures ≡ 0 → AreCleared y.missed y.renditions given
    cleared-grown given g none =
        let then = g.follows (record { before = mark_all x.renditions (length first.items ∷ first.before); items = first.items }) (at first held_first) in
        let same = same-marked x.renditions then.first (length first.items ∷ first.before) (then.count ∷ then.before) then.marked in
        let count : length first.items ≡ then.count = cc (same.1) in
        subst (λ (l : List ItemValue). AreCleared y.missed y.renditions l) (drop-append_seam first.items given)
        (subst (λ (n : ℕ). AreCleared y.missed y.renditions (drop n (first.items ++ given))) (sym count) (then.cleared none))

    stay-said : (workers : ℕ) (old new : List SnapshotFacts) (held held_then : Option (List ℕ)) (fault : LadderPackingFault) → LadderSays Since ladder workers old new held held_then fault →
        Stay x.renditions y.renditions
    stay-said workers old new held held_then (Packing fault) says =
        says-any (of_shown Since ladder workers old new) (Stay x.renditions y.renditions) (λ u. stay-grown [] u.unput.grows) (λ r stop h. stay-grown h.halted.items h.halted.puts.grows)
        (λ c. stay-grown c.0.cut.some.given c.0.cut.some.grows) (λ c. stay-grown c.0.cut.some.given c.0.cut.some.grows) (λ r n c. stay-grown c.0.cut.some.given c.0.cut.some.grows) fault says.0
    stay-said workers old new held held_then Unwritten e = stay-grown e.packed.packed.items e.packed.packed.puts.grows
    stay-said workers old new held held_then NoMemory e = stay-grown e.packed.packed.items e.packed.packed.puts.grows

    pub stay-then : (workers : ℕ) (old new : List SnapshotFacts) (held held_then : Option (List ℕ)) (answer : Result Report LadderPackingFault) →
        IfOk answer (IsPackedShown Since ladder workers old new) → IfErr answer (LadderSays Since ladder workers old new held held_then) → Stay x.renditions y.renditions
    stay-then workers old new held held_then (Ok report) packed says = stay-grown packed.packed.items packed.packed.puts.grows
    stay-then workers old new held held_then (Err fault) packed says = stay-said workers old new held held_then fault says
