-- Media playlists that don't list what went.
use Rattle.std.specs.Prelude.{Decides, eqb}
use Rattle.std.proofs.Common.{arith, ◌≡◌, ◌≢◌, ℕ, ◌+◌, ◌<◌, Bool, true, false, List, [], ◌∷◌, ◌++◌, length, refl, sym, ap, ◌∙◌, subst, inl, inr, append-nil, append_assoc}
use Rattle.std.proofs.lemmas.Bool.Decides.{eqb_tells}
use Rattle.folder.specs.Moves.{Move}
use Rattle.playlist_text.specs.Names.{is_name}
use Rattle.item_io.specs.FileNames.{is_named}
use Rattle.item_io.specs.Items.{ItemValue, PlaylistValue, FramesItem, MasterItem, MediaItem, SegmentItem}
use Rattle.retention.specs.declared.step.Step.{Step}
use Rattle.retention.specs.Steps.{first_of}
use Rattle.keeping.specs.Keepings.{AllBeginBehind, AreNotedBy, AreStepsOf, AreTold, AreUnlisted, BeginsBehind, ComesInTurn, GoBehind, GoesOn, HasNameIf, IfAny, IsInTurn, IsPassed, IsTold, IsUnlisted, KeepingValue, LetsGo, NotedUnless, keeping_at, steps_before}
use Rattle.keeping.proofs.Before.{before-first}

pub all-begin-append : (name : List ℕ) (number : ℕ) (items more : List ItemValue) → AllBeginBehind name number items → AllBeginBehind name number more → AllBeginBehind name number (items ++ more)
all-begin-append name number [] more begin later = later
all-begin-append name number (SegmentItem s ∷ items) more begin later = all-begin-append name number items more begin later
all-begin-append name number (MediaItem p ∷ items) more begin later = (begin.0, all-begin-append name number items more begin.1 later)
all-begin-append name number (FramesItem p ∷ items) more begin later = all-begin-append name number items more begin later
all-begin-append name number (MasterItem text ∷ items) more begin later = all-begin-append name number items more begin later

-- behind one more item
unlisted-more : (name : List ℕ) (number : ℕ) (items : List ItemValue) (item : ItemValue) → IsUnlisted name number items → AllBeginBehind name number (item ∷ []) → IsUnlisted name number (items ++ item ∷ [])
unlisted-more name number items item u one = record {
  served = u.served;
  first = u.first;
  playlist = u.playlist;
  more = u.more ++ item ∷ [];
  all = ap (λ (l : List ItemValue). l ++ item ∷ []) u.all ∙ append_assoc u.first (MediaItem u.playlist ∷ u.more) (item ∷ []);
  named = u.named;
  behind = (u.behind.0, all-begin-append name number u.more (item ∷ []) u.behind.1 one);
}

-- behind a media playlist that doesn't list it
unlisted-now : (name : List ℕ) (number : ℕ) (items : List ItemValue) (p : PlaylistValue) → is_name p.name ≡ true → p.name ≡ name → BeginsBehind number p.text → IsUnlisted name number (items ++ MediaItem p ∷ [])
unlisted-now name number items p served named begins = record {
  served = subst (λ (n : List ℕ). is_name n ≡ true) named served;
  first = items;
  playlist = p;
  more = [];
  all = refl;
  named = named;
  behind = (λ _. begins, tt);
}

-- what goes on begins behind all that was passed
pub begins : (k : KeepingValue) (text : List ℕ) (number : ℕ) → GoesOn k text → IsPassed k number → BeginsBehind number text
begins k text number on (i, within, some, below) = record {
  listing = on.is_step.listing;
  sound = on.is_step.sound;
  is_text = on.is_step.is_text;
  behind = omega (arith, below, on.rises i within, on.is_step.first);
}

-- an item that is no media playlist
none-more : (items : List ItemValue) (item : ItemValue) (old new : List KeepingValue) → new ≡ old → ((name : List ℕ) (number : ℕ) → AllBeginBehind name number (item ∷ [])) → AreUnlisted old items →
    AreUnlisted new (items ++ item ∷ [])
none-more items item old new is none was = subst (λ (l : List KeepingValue). AreUnlisted l (items ++ item ∷ [])) (sym is)
    (λ r within number passed. unlisted-more (keeping_at old r).name number items item (was r within number passed) (none (keeping_at old r).name number))

-- the other renditions are as they were
record AreElse (r : ℕ) (old new : List KeepingValue) : Type 0 where
  pub len : length new ≡ length old
  pub others : (o : ℕ) → o ≢ r → keeping_at new o ≡ keeping_at old o

all-else : (r : ℕ) (old new : List KeepingValue) → new ≡ old → AreElse r old new
all-else r old new is = record { len = ap length is; others = λ o apart. ap (λ (l : List KeepingValue). keeping_at l o) is }

noted-else : (ended : Bool) (p : PlaylistValue) (old new : List KeepingValue) → NotedUnless ended p old new → AreElse p.rendition old new
noted-else true p old new is = all-else p.rendition old new is
noted-else false p old new (inl (within, did)) = record { len = did.len; others = did.others }
noted-else false p old new (inr (beyond, is, rest)) = all-else p.rendition old new is

media-more : (items : List ItemValue) (p : PlaylistValue) (old new : List KeepingValue) → is_name p.name ≡ true → AreElse p.rendition old new → IsInTurn p new → AreUnlisted old items → AreUnlisted new (items ++ MediaItem p ∷ [])
media-more items p old new served same turn was r within number passed =
    elim (eqb_tells r p.rendition) [
      | inl (here, is) ↦
          let own : p.rendition < length new = subst (λ (n : ℕ). n < length new) is within in
          unlisted-now (keeping_at new r).name number items p served (turn.named own ∙ ap (λ (n : ℕ). (keeping_at new n).name) (sym is))
          (begins (keeping_at new p.rendition) p.text number (turn.goes_on own) (subst (λ (n : ℕ). IsPassed (keeping_at new n) number) is passed))
      | inr (apart, differs) ↦
          let kept = same.others r differs in
          unlisted-more (keeping_at new r).name number items (MediaItem p)
          (subst (λ (k : KeepingValue). IsUnlisted k.name number items) (sym kept)
          (was r (omega (arith, within, same.len)) number (subst (λ (k : KeepingValue). IsPassed k number) kept passed)))
          (λ named. absurd (differs (turn.own r within named)), tt)
    ]

-- a name that decides
pub has-name-if : (k : KeepingValue) (name : List ℕ) (r rendition : ℕ) (t : Bool) → Decides t (name ≡ k.name) → t ≡ eqb r rendition → HasNameIf k name r rendition
has-name-if k name r rendition t decides same = elim (eqb_tells r rendition) [
  | inl (here, is) ↦ (λ named. is, λ one. decides.0 (same ∙ here))
  | inr (apart, differs) ↦ (λ named. absurd (cc (decides.1 named, same, apart)), λ one. absurd (differs one))
]

pub has-name-more : (renditions : List KeepingValue) (name : List ℕ) (r rendition : ℕ) → ((o : ℕ) → o < r → HasNameIf (keeping_at renditions o) name o rendition) →
    HasNameIf (keeping_at renditions r) name r rendition → (o : ℕ) → o < r + 1 → HasNameIf (keeping_at renditions o) name o rendition
has-name-more renditions name r rendition before here o below = elim (eqb_tells o r) [
  | inl (tells, is) ↦ subst (λ (n : ℕ). HasNameIf (keeping_at renditions n) name n rendition) (sym is) here
  | inr (tells, differs) ↦ before o (omega (arith, below, differs))
]

-- an item was put
pub unlisted-put : (item : ItemValue) (items : List ItemValue) (old new : List KeepingValue) → is_named item ≡ true → AreNotedBy item old new → ComesInTurn item new → AreUnlisted old items → AreUnlisted new (items ++ item ∷ [])
unlisted-put (SegmentItem s) items old new named is turn was = none-more items (SegmentItem s) old new is (λ name number. tt) was
unlisted-put (MediaItem p) items old new named noted turn was = media-more items p old new named (noted-else p.ended p old new noted) turn was
unlisted-put (FramesItem p) items old new named is turn was = none-more items (FramesItem p) old new is (λ name number. tt) was
unlisted-put (MasterItem text) items old new named is turn was = none-more items (MasterItem text) old new is (λ name number. tt) was

gone-any : (r : ℕ) (items : List ItemValue) (old new : List KeepingValue) (made made_then : List Move) → IfAny r old new (λ before now. LetsGo before now made made_then) (made_then ≡ made) →
    AreUnlisted old items → AreUnlisted new items
gone-any r items old new made made_then (inr (beyond, is, rest)) was = subst (λ (l : List KeepingValue). AreUnlisted l items) (sym is) was
gone-any r items old new made made_then (inl (within, did)) was = λ o below number passed.
    let before : o < length old = omega (arith, below, did.len) in
    elim (eqb_tells o r) [
      | inl (here, is) ↦
          let went : LetsGo (keeping_at old o) (keeping_at new o) made made_then = subst (λ (n : ℕ). LetsGo (keeping_at old n) (keeping_at new n) made made_then) (sym is) did.is in
          subst (λ (k : KeepingValue). IsUnlisted k.name number items) (sym went.now)
          (was o before number (subst (λ (k : KeepingValue). IsPassed k number) went.now passed))
      | inr (apart, differs) ↦
          let kept = did.others o differs in
          subst (λ (k : KeepingValue). IsUnlisted k.name number items) (sym kept) (was o before number (subst (λ (k : KeepingValue). IsPassed k number) kept passed))
    ]

-- segments went behind it
pub unlisted-behind : (item : ItemValue) (items : List ItemValue) (old new : List KeepingValue) (made made_then : List Move) → GoBehind item old new made made_then → AreUnlisted old items → AreUnlisted new items
unlisted-behind (SegmentItem s) items old new made made_then is was = subst (λ (l : List KeepingValue). AreUnlisted l items) (sym is.0) was
unlisted-behind (MediaItem p) items old new made made_then is was = subst (λ (l : List KeepingValue). AreUnlisted l items) (sym is.0) was
unlisted-behind (FramesItem p) items old new made made_then went was = gone-any p.rendition items old new made made_then went was
unlisted-behind (MasterItem text) items old new made made_then is was = subst (λ (l : List KeepingValue). AreUnlisted l items) (sym is.0) was

none-told : (base : ℕ) (steps : List Step) → AreStepsOf base [] steps → steps ≡ []
none-told base [] are = refl
none-told base (s ∷ steps) are = absurd are

-- before the first playlist is told nothing is passed
none-passed : (k : KeepingValue) (number : ℕ) → IsTold k [] → IsPassed k number → ⊥
none-passed k number told (i, within, some, below) =
    let none : told.told ≡ [] = none-told k.base told.told told.are in
    let all : k.kept.steps ≡ steps_before k.before = told.all ∙ ap (λ (l : List Step). steps_before k.before ++ l) none ∙ append-nil (steps_before k.before) in
    omega (arith, some, ap (λ (l : List Step). first_of l i) all, before-first k.before i)

pub unlisted-first : (renditions : List KeepingValue) → AreTold renditions [] → AreUnlisted renditions []
unlisted-first renditions told r within number passed = absurd (none-passed (keeping_at renditions r) number (told r within) passed)
