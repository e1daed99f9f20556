-- What is in place was put, and what it lists too.
use Rattle.std.proofs.Common.{◌≡◌, ◌≢◌, ℕ, Bool, true, false, Some, List, [], ◌∷◌, ◌++◌, refl, sym, ap, ◌∙◌, subst, inl, inr, ◌⊎◌, append_assoc}
use Rattle.std.specs.Prelude.{if◌then◌else◌}
use Rattle.std.specs.Str.{bytes_eq}
use Rattle.std.proofs.lemmas.Slice.Eq.{bytes_eq-Decides}
use Rattle.folder.specs.Moves.{Files, Shows, is_hidden, no_files, with_file}
use Rattle.folder.specs.Puts.{Put, after_puts}
use Rattle.folder.specs.Prefixes.{HasPrefix}
use Rattle.folder.specs.Playing.{IsPlayablePrefix, Lists, AreListedInTurn, IsAmong, IsPlayable}
use Rattle.folder.proofs.Names.{at_name, elsewhere}

-- where a file in place is from
record IsFrom (puts : List Put) (name bytes : List ℕ) : Type 0 where
  before : List Put
  it : Put
  behind : List Put
  all : puts ≡ before ++ it ∷ behind
  named : it.name ≡ name
  has : it.bytes ≡ bytes

from-later : (p : Put) (puts : List Put) (name bytes : List ℕ) → IsFrom puts name bytes → IsFrom (p ∷ puts) name bytes
from-later p puts name bytes f = record { before = p ∷ f.before; it = f.it; behind = f.behind; all = ap (λ (l : List Put). p ∷ l) f.all; named = f.named; has = f.has }

at_first : (p : Put) (puts : List Put) (a : Files) (name bytes : List ℕ) (t : Bool) → bytes_eq p.name name ≡ t → (if t then Some p.bytes else a name) ≡ Some bytes →
    (a name ≡ Some bytes) ⊎ IsFrom (p ∷ puts) name bytes
at_first p puts a name bytes true same is = inr (record { before = []; it = p; behind = puts; all = refl; named = (bytes_eq-Decides p.name name).0 same; has = cc is })
at_first p puts a name bytes false other is = inl is

found : (puts : List Put) (a : Files) (name bytes : List ℕ) → after_puts a puts name ≡ Some bytes → (a name ≡ Some bytes) ⊎ IsFrom puts name bytes
found [] a name bytes is = inl is
found (p ∷ puts) a name bytes is =
    elim (found puts (with_file a p.name (Some p.bytes)) name bytes is) [
      | inl first ↦ at_first p puts a name bytes (bytes_eq p.name name) refl first
      | inr later ↦ inr (from-later p puts name bytes later)
    ]

pub IsAmong-it : (before : List Put) (p : Put) (behind : List Put) → IsAmong p (before ++ p ∷ behind)
IsAmong-it [] p behind = inl refl
IsAmong-it (q ∷ before) p behind = inr (IsAmong-it before p behind)

pub IsAmong-before : (s : Put) (before more : List Put) → IsAmong s before → IsAmong s (before ++ more)
IsAmong-before s [] more among = absurd among
IsAmong-before s (q ∷ before) more (inl same) = inl same
IsAmong-before s (q ∷ before) more (inr later) = inr (IsAmong-before s before more later)

-- behind a put of a name there is a file of it
abbrev Lasts : List Put → Type 0
Lasts puts = (a : Files) (all : List Put) (name : List ℕ) (s : Put) → ((q : Put) → IsAmong q puts → IsAmong q all) → IsAmong s all → s.name ≡ name → a name ≡ Some s.bytes →
    (t : Put) × IsAmong t all × (t.name ≡ name) × (after_puts a puts name ≡ Some t.bytes)

lasts-step : (p : Put) (puts : List Put) → Lasts puts → (t : Bool) (a : Files) (all : List Put) (name : List ℕ) (s : Put) → bytes_eq p.name name ≡ t → ((q : Put) → IsAmong q (p ∷ puts) → IsAmong q all) →
    IsAmong s all → s.name ≡ name → a name ≡ Some s.bytes → (t : Put) × IsAmong t all × (t.name ≡ name) × (after_puts a (p ∷ puts) name ≡ Some t.bytes)
lasts-step p puts later true a all name s same within among named is =
    let it : p.name ≡ name = (bytes_eq-Decides p.name name).0 same in
    later (with_file a p.name (Some p.bytes)) all name p (λ q among_q. within q (inr among_q)) (within p (inl refl)) it
    (subst (λ (n : List ℕ). with_file a p.name (Some p.bytes) n ≡ Some p.bytes) it (at_name a p.name (Some p.bytes)))
lasts-step p puts later false a all name s other within among named is =
    let apart : p.name ≢ name = λ same. cc (other, (bytes_eq-Decides p.name name).1 same) in
    later (with_file a p.name (Some p.bytes)) all name s (λ q among_q. within q (inr among_q)) among named (elsewhere a p.name name (Some p.bytes) apart ∙ is)

lasts : (puts : List Put) → Lasts puts
lasts [] = λ a all name s within among named is. (s, among, named, is)
lasts (p ∷ puts) = λ a all name s within among named is. lasts-step p puts (lasts puts) (bytes_eq p.name name) a all name s refl within among named is

-- one of the puts is of this name, so there is a file of it
there : (puts : List Put) (a : Files) (all : List Put) (s : Put) → ((q : Put) → IsAmong q puts → IsAmong q all) → IsAmong s puts →
    (t : Put) × IsAmong t all × (t.name ≡ s.name) × (after_puts a puts s.name ≡ Some t.bytes)
there [] a all s within among = absurd among
there (p ∷ puts) a all s within (inl same) =
    let now = with_file a p.name (Some p.bytes) in
    let is : now s.name ≡ Some s.bytes = subst (λ (q : Put). now q.name ≡ Some q.bytes) (sym same) (at_name a p.name (Some p.bytes)) in
    lasts puts now all s.name s (λ q among_q. within q (inr among_q)) (within s (inl same)) refl is
there (p ∷ puts) a all s within (inr later) = there puts (with_file a p.name (Some p.bytes)) all s (λ q among_q. within q (inr among_q)) later

from_puts : (given : List Put) (left : Files) (name bytes : List ℕ) → Shows left (after_puts no_files given) → is_hidden name ≡ false → left name ≡ Some bytes → IsFrom given name bytes
from_puts given left name bytes shows shown is =
    elim (found given no_files name bytes (sym (shows name shown) ∙ is)) [ inl none ↦ absurd (cc none) | inr from ↦ from ]

pub playable : (lists : Lists) (puts given rest : List Put) (left : Files) → puts ≡ given ++ rest → AreListedInTurn lists puts →
    Shows left (after_puts no_files given) → IsPlayable lists given left
playable lists puts given rest left all in_turn shows = record {
  put = λ name bytes shown is.
      let from = from_puts given left name bytes shows shown is in
      (from.it, subst (λ (l : List Put). IsAmong from.it l) (sym from.all) (IsAmong-it from.before from.it from.behind), from.named, from.has);
  listed = λ name bytes other shown is lists_it.
      let from = from_puts given left name bytes shows shown is in
      let whole : puts ≡ from.before ++ from.it ∷ (from.behind ++ rest) =
      all ∙ ap (λ (l : List Put). l ++ rest) from.all ∙ append_assoc from.before (from.it ∷ from.behind) rest in
      let by_it : lists from.it.name from.it.bytes other ≡ true = rw (from.named, from.has) lists_it in
      let s = in_turn from.before from.it (from.behind ++ rest) whole other by_it in
      let among : IsAmong s.0 given = subst (λ (l : List Put). IsAmong s.0 l) (sym from.all) (IsAmong-before s.0 from.before (from.it ∷ from.behind) s.1) in
      let t = there given no_files given s.0 (λ q among_q. among_q) among in
      let file : left s.0.name ≡ Some t.0.bytes = shows s.0.name s.3 ∙ t.3 in
      (t.0, t.1, t.2 ∙ s.2, subst (λ (n : List ℕ). left n ≡ Some t.0.bytes) s.2 file);
}

pub has-playable : (lists : Lists) (puts : List Put) → AreListedInTurn lists puts → (left : Files) → HasPrefix no_files puts left → IsPlayablePrefix lists puts left
has-playable lists puts in_turn left has =
    let given = has.blocks ++ has.placed in
    let split : has.blocks ++ (has.placed ++ has.due) ≡ given ++ has.due = sym (append_assoc has.blocks has.placed has.due) in
    let all : puts ≡ given ++ (has.due ++ has.rest) = has.all ∙ ap (λ (l : List Put). l ++ has.rest) split ∙ append_assoc given has.due has.rest in
    record { given = given; rest = has.due ++ has.rest; all = all; playable = playable lists puts given (has.due ++ has.rest) left all in_turn has.shows }
