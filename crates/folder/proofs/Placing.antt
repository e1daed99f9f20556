-- A block is placed.
use Rattle.std.proofs.Common.{◌≡◌, ◌≢◌, ℕ, true, false, Option, Some, None, List, [], ◌∷◌, ◌++◌, map, refl, sym, ap, ◌∙◌, subst, inl, inr}
use Rattle.folder.specs.Moves.{Files, Same, Shows, is_hidden, moved, standing, with_file}
use Rattle.folder.specs.Kills.{KillMayLeave}
use Rattle.folder.specs.Puts.{HasOwnPart, IsServed, Put, after_puts, placing}
use Rattle.folder.specs.Prefixes.{AreStaged, AreUnstaged, HaveOwnParts}
use Rattle.folder.proofs.Names.{at_name, elsewhere, hidden-apart, Shows-hidden, Shows-trans, Shows-with_file}

pub AreStaged-Same : (a b : Files) (puts : List Put) → Same a b → AreStaged b puts → AreStaged a puts
AreStaged-Same a b [] same beside = tt
AreStaged-Same a b (p ∷ puts) same beside = (beside.0, same p.part ∙ beside.1, beside.2, AreStaged-Same a b puts same beside.3)

-- a file beside its name leaves the others as they are
pub AreStaged-written : (a : Files) (p : Put) (bytes : Option (List ℕ)) (puts : List Put) → HasOwnPart p puts → AreStaged a puts → AreStaged (with_file a p.part bytes) puts
AreStaged-written a p bytes [] apart beside = tt
AreStaged-written a p bytes (q ∷ puts) apart beside =
    (beside.0, elsewhere a p.part q.part bytes apart.0 ∙ beside.1, beside.2, AreStaged-written a p bytes puts apart.2 beside.3)

-- and so does one in place
pub AreStaged-named : (a : Files) (name : List ℕ) (bytes : Option (List ℕ)) (puts : List Put) → is_hidden name ≡ false → AreStaged a puts → AreStaged (with_file a name bytes) puts
AreStaged-named a name bytes [] shown beside = tt
AreStaged-named a name bytes (q ∷ puts) shown beside =
    (beside.0, elsewhere a name q.part bytes (λ same. hidden-apart q.part name (beside.0).hidden shown (sym same)) ∙ beside.1, beside.2, AreStaged-named a name bytes puts shown beside.3)

pub AreStaged-placed : (a : Files) (p : Put) (puts : List Put) → IsServed p → HasOwnPart p puts → AreStaged a puts → AreStaged (moved a (placing p)) puts
AreStaged-placed a p puts served apart beside =
    AreStaged-named (with_file a p.part None) p.name (a p.part) puts served.shown (AreStaged-written a p None puts apart beside)

HasOwnPart-more : (q p : Put) (puts : List Put) → HasOwnPart q puts → p.part ≢ q.part → q.part ≢ p.part → HasOwnPart q (puts ++ p ∷ [])
HasOwnPart-more q p [] apart one other = (other, one, tt)
HasOwnPart-more q p (r ∷ puts) apart one other = (apart.0, apart.1, HasOwnPart-more q p puts apart.2 one other)

pub AreStaged-more : (a : Files) (p : Put) (puts : List Put) → AreStaged a puts → IsServed p → a p.part ≡ Some p.bytes → HasOwnPart p puts → AreStaged a (puts ++ p ∷ [])
AreStaged-more a p [] beside served there apart = (served, there, tt, tt)
AreStaged-more a p (q ∷ puts) beside served there apart =
    (beside.0, beside.1, HasOwnPart-more q p puts beside.2 apart.0 apart.1, AreStaged-more a p puts beside.3 served there apart.2)

pub Shows-placed : (a : Files) (p : Put) → IsServed p → a p.part ≡ Some p.bytes → Shows (moved a (placing p)) (with_file a p.name (Some p.bytes))
Shows-placed a p served there =
    subst (λ (bytes : Option (List ℕ)). Shows (with_file (with_file a p.part None) p.name bytes) (with_file a p.name (Some p.bytes))) (sym there)
    (Shows-with_file (with_file a p.part None) a p.name (Some p.bytes) (Shows-hidden a p.part None served.hidden))

pub Shows-after_puts : (a b : Files) (puts : List Put) → Shows a b → Shows (after_puts a puts) (after_puts b puts)
Shows-after_puts a b [] shows = shows
Shows-after_puts a b (p ∷ puts) shows =
    Shows-after_puts (with_file a p.name (Some p.bytes)) (with_file b p.name (Some p.bytes)) puts (Shows-with_file a b p.name (Some p.bytes) shows)

pub after_puts-append : (a : Files) (puts more : List Put) → after_puts a (puts ++ more) ≡ after_puts (after_puts a puts) more
after_puts-append a [] more = refl
after_puts-append a (p ∷ puts) more = after_puts-append (with_file a p.name (Some p.bytes)) puts more

-- all of a block
pub placed : (a : Files) (puts : List Put) → AreStaged a puts → Shows (standing a (map placing puts)) (after_puts a puts)
placed a [] beside = λ name shown. refl
placed a (p ∷ puts) beside =
    let next = moved a (placing p) in
    Shows-trans (standing next (map placing puts)) (after_puts next puts) (after_puts (with_file a p.name (Some p.bytes)) puts)
    (placed next puts (AreStaged-placed a p puts beside.0 beside.2 beside.3))
    (Shows-after_puts next (with_file a p.name (Some p.bytes)) puts (Shows-placed a p beside.0 beside.1))

-- what a kill leaves meanwhile
pub record IsInPart (a : Files) (puts : List Put) (left : Files) : Type 0 where
  pub given : List Put
  pub due : List Put
  pub all : puts ≡ given ++ due
  pub shows : Shows left (after_puts a given)
  pub beside : AreStaged left due
  pub gone : AreUnstaged left given
  pub apart : HaveOwnParts given due

none_placed : (a : Files) (puts : List Put) (left : Files) → AreStaged a puts → Same left a → IsInPart a puts left
none_placed a puts left beside same = record {
  given = [];
  due = puts;
  all = refl;
  shows = λ name shown. same name;
  beside = AreStaged-Same left a puts same beside;
  gone = tt;
  apart = tt;
}

-- what isn't there isn't there later
placing-gone : (a : Files) (name : List ℕ) (q : Put) → is_hidden name ≡ true → IsServed q → q.part ≢ name → a name ≡ None → moved a (placing q) name ≡ None
placing-gone a name q hidden served apart none =
    elsewhere (with_file a q.part None) q.name name (a q.part) (λ same. hidden-apart name q.name hidden served.shown (sym same)) ∙ elsewhere a q.part name None apart ∙ none

pub stays-gone : (a : Files) (p : Put) (puts : List Put) (left : Files) → is_hidden p.part ≡ true → HasOwnPart p puts → AreStaged a puts → a p.part ≡ None → KillMayLeave a (map placing puts) left → left p.part ≡ None
stays-gone a p [] left hidden apart beside none may = may p.part ∙ none
stays-gone a p (q ∷ puts) left hidden apart beside none (inl same) = same p.part ∙ none
stays-gone a p (q ∷ puts) left hidden apart beside none (inr (inl cut)) = absurd cut
stays-gone a p (q ∷ puts) left hidden apart beside none (inr (inr later)) =
    stays-gone (moved a (placing q)) p puts left hidden apart.2 (AreStaged-placed a q puts beside.0 beside.2 beside.3) (placing-gone a p.part q hidden beside.0 apart.1 none) later

placed-gone : (a : Files) (p : Put) → IsServed p → moved a (placing p) p.part ≡ None
placed-gone a p served =
    elsewhere (with_file a p.part None) p.name p.part (a p.part) (λ same. hidden-apart p.part p.name served.hidden served.shown (sym same)) ∙ at_name a p.part None

pub HasOwnPart-behind : (p : Put) (puts more : List Put) → HasOwnPart p (puts ++ more) → HasOwnPart p more
HasOwnPart-behind p [] more apart = apart
HasOwnPart-behind p (q ∷ puts) more apart = HasOwnPart-behind p puts more apart.2

one_placed : (a : Files) (p : Put) (puts : List Put) (left : Files) → IsServed p → HasOwnPart p puts → left p.part ≡ None → a p.part ≡ Some p.bytes → IsInPart (moved a (placing p)) puts left → IsInPart a (p ∷ puts) left
one_placed a p puts left served from_others none there later = record {
  given = p ∷ later.given;
  due = later.due;
  all = ap (λ (l : List Put). p ∷ l) later.all;
  shows = Shows-trans left (after_puts (moved a (placing p)) later.given) (after_puts (with_file a p.name (Some p.bytes)) later.given)
      later.shows (Shows-after_puts (moved a (placing p)) (with_file a p.name (Some p.bytes)) later.given (Shows-placed a p served there));
  beside = later.beside;
  gone = (none, later.gone);
  apart = (served.hidden, HasOwnPart-behind p later.given later.due (subst (λ (l : List Put). HasOwnPart p l) later.all from_others), later.apart);
}

pub placing_killed : (a : Files) (puts : List Put) (left : Files) → AreStaged a puts → KillMayLeave a (map placing puts) left → IsInPart a puts left
placing_killed a [] left beside may = none_placed a [] left beside may
placing_killed a (p ∷ puts) left beside (inl same) = none_placed a (p ∷ puts) left beside same
placing_killed a (p ∷ puts) left beside (inr (inl cut)) = absurd cut
placing_killed a (p ∷ puts) left beside (inr (inr later)) =
    let next = moved a (placing p) in
    let others = AreStaged-placed a p puts beside.0 beside.2 beside.3 in
    one_placed a p puts left beside.0 beside.2 (stays-gone next p puts left (beside.0).hidden beside.2 others (placed-gone a p beside.0) later) beside.1
    (placing_killed next puts left others later)
