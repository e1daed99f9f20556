-- The names of the files of a folder in memory.
use Rattle.std.proofs.Common.{◌≡◌, ℕ, zero, suc, ◌+◌, ◌<◌, Bool, true, false, ◌||◌, Option, Some, None, inl, inr, List, [], ◌∷◌, ◌++◌, map, length, take, get_or, refl, sym, ap, ◌∙◌, subst, arith, String, Global}
use Rattle.std.specs.Prelude.{is_some, if◌then◌else◌, ◌⊎◌}
use Rattle.std.specs.Str.{bytes_eq}
use Rattle.std.specs.String.{string_bytes}
use Rattle.std.proofs.lemmas.Bool.{cases_Bool, or_cases, false≢true}
use Rattle.std.proofs.lemmas.Option.{same_Some, none-some}
use Rattle.std.proofs.lemmas.Slice.Eq.{bytes_eq-Decides}
use Rattle.folder.specs.Moves.{Files, moved, no_files, standing, with_file}
use Rattle.folder.specs.MemoryMoves.{memory_move, memory_moves}
use Rattle.folder.specs.MemoryNames.{has_name, AreApart, with_new, with_name, AreNames, HasFiles, IsNew}
use Rattle.folder.specs.MemoryNamed.{named}
use Rattle.folder.specs.declared.memory_move.MemoryMove.{MemoryMove}
use Rattle.folder.specs.declared.memory_move.MemoryMove.TheVariants.{Written, Renamed, Removed, Seen, Synced}

-- a text that owns its bytes
abbrev Text : Type 0
Text = String Global

bool-same : (a b : Bool) → (a ≡ true → b ≡ true) → (b ≡ true → a ≡ true) → a ≡ b
bool-same true b there back = sym (there refl)
bool-same false true there back = back refl
bool-same false false there back = refl

or-right : (a : Bool) → (a || true) ≡ true
or-right true = refl
or-right false = refl

or-left : (a b : Bool) → a ≡ true → (a || b) ≡ true
or-left a b is = ap (λ (x : Bool). x || b) is

or-false : (a : Bool) → (a || false) ≡ a
or-false true = refl
or-false false = refl

or-assoc : (a b c : Bool) → (a || (b || c)) ≡ ((a || b) || c)
or-assoc true b c = refl
or-assoc false b c = refl

pub has-append : (names : List (List ℕ)) (one name : List ℕ) → has_name (names ++ one ∷ []) name ≡ (has_name names name || bytes_eq one name)
has-append [] one name = or-false (bytes_eq one name)
has-append (n ∷ names) one name = ap (λ (x : Bool). bytes_eq n name || x) (has-append names one name) ∙ or-assoc (bytes_eq n name) (has_name names name) (bytes_eq one name)

eq-turned : (a b : List ℕ) → bytes_eq a b ≡ false → bytes_eq b a ≡ false
eq-turned a b is = elim (cases_Bool (bytes_eq b a)) [
  | inl same ↦ absurd (false≢true (sym is ∙ (bytes_eq-Decides a b).1 (sym ((bytes_eq-Decides b a).0 same))))
  | inr apart ↦ apart
]

or-both : (a b : Bool) → a ≡ false → b ≡ false → (a || b) ≡ false
or-both a b x y = ap (λ (z : Bool). z || b) x ∙ y

or-first : (a b : Bool) → (a || b) ≡ false → a ≡ false
or-first true b is = is
or-first false b is = refl

or-second : (a b : Bool) → (a || b) ≡ false → b ≡ false
or-second true b is = absurd (false≢true (sym is))
or-second false b is = is

apart-more : (names : List (List ℕ)) (one : List ℕ) → AreApart names → has_name names one ≡ false → AreApart (names ++ one ∷ [])
apart-more [] one is none = (refl, tt)
apart-more (n ∷ names) one is none = (
  has-append names one n ∙ or-both (has_name names n) (bytes_eq one n) is.0 (eq-turned n one (or-first (bytes_eq n one) (has_name names one) none)),
  apart-more names one is.1 (or-second (bytes_eq n one) (has_name names one) none),
)

new-apart : (there has : Bool) (names : List (List ℕ)) (name : List ℕ) → has_name names name ≡ has → AreApart names → AreApart (with_new there has names name)
new-apart true true names name is apart = apart
new-apart true false names name is apart = apart-more names name apart is
new-apart false has names name is apart = apart

with-apart : (files : Files) (names : List (List ℕ)) (o : Option (List ℕ)) → AreApart names → AreApart (with_name files names o)
with-apart files names None apart = apart
with-apart files names (Some name) apart = new-apart (is_some (files name)) (has_name names name) names name refl apart

abbrev AreThere : Files → List (List ℕ) → Type 0
AreThere files names = (name : List ℕ) → has_name names name ≡ true → is_some (files name) ≡ true

new-there : (files : Files) (there has : Bool) (names : List (List ℕ)) (name : List ℕ) → is_some (files name) ≡ there → AreThere files names →
    AreThere files (with_new there has names name)
new-there files true true names name is all = all
new-there files false has names name is all = all
new-there files true false names name is all = λ other in_it.
    elim (or_cases (has_name names other) (bytes_eq name other) (sym (has-append names name other) ∙ in_it)) [
      | inl before ↦ all other before
      | inr same ↦ subst (λ (x : List ℕ). is_some (files x) ≡ true) ((bytes_eq-Decides name other).0 same) is
    ]

with-there : (files : Files) (names : List (List ℕ)) (o : Option (List ℕ)) → AreThere files names → AreThere files (with_name files names o)
with-there files names None all = all
with-there files names (Some name) all = new-there files (is_some (files name)) (has_name names name) names name refl all

new-kept : (there has : Bool) (names : List (List ℕ)) (name other : List ℕ) → has_name names other ≡ true → has_name (with_new there has names name) other ≡ true
new-kept true true names name other is = is
new-kept false has names name other is = is
new-kept true false names name other is = has-append names name other ∙ or-left (has_name names other) (bytes_eq name other) is

with-kept : (files : Files) (names : List (List ℕ)) (o : Option (List ℕ)) (other : List ℕ) → has_name names other ≡ true → has_name (with_name files names o) other ≡ true
with-kept files names None other is = is
with-kept files names (Some name) other is = new-kept (is_some (files name)) (has_name names name) names name other is

new-in : (there has : Bool) (names : List (List ℕ)) (name : List ℕ) → there ≡ true → has_name names name ≡ has → has_name (with_new there has names name) name ≡ true
new-in true true names name is has = has
new-in true false names name is has =
    has-append names name name ∙ ap (λ (x : Bool). has_name names name || x) ((bytes_eq-Decides name name).1 refl) ∙ or-right (has_name names name)
new-in false has names name is h = absurd (false≢true is)

with-in : (files : Files) (names : List (List ℕ)) (o : Option (List ℕ)) (name : List ℕ) → is_some (files name) ≡ true → o ≡ Some name →
    has_name (with_name files names o) name ≡ true
with-in files names None name there is = absurd (none-some name is)
with-in files names (Some n) name there is =
    let same = same_Some n name is in
    subst (λ (x : List ℕ). has_name (with_name files names (Some n)) x ≡ true) same
    (new-in (is_some (files n)) (has_name names n) names n (ap (λ (x : List ℕ). is_some (files x)) same ∙ there) refl)

-- the names that are found move by move
abbrev pub names_after : Files → List (List ℕ) → List MemoryMove → List (List ℕ)
names_after files names [] = names
names_after files names (m ∷ moves) = names_after files (with_name files names (named m)) moves

after-append : (files : Files) (names : List (List ℕ)) (ms ns : List MemoryMove) → names_after files names (ms ++ ns) ≡ names_after files (names_after files names ms) ns
after-append files names [] ns = refl
after-append files names (m ∷ ms) ns = after-append files (with_name files names (named m)) ms ns

-- one move more
pub after-more : (files : Files) (moves : List MemoryMove) (i : ℕ) (m : MemoryMove) (o : Option (List ℕ)) (before now : List (List ℕ)) →
    before ≡ names_after files [] (take i moves) → o ≡ named m → take (i + 1) moves ≡ take i moves ++ m ∷ [] → now ≡ with_name files before o →
    now ≡ names_after files [] (take (i + 1) moves)
after-more files moves i m o before now so_far is split next =
    next ∙ ap (λ (x : List (List ℕ)). with_name files x o) so_far ∙ ap (with_name files (names_after files [] (take i moves))) is
    ∙ sym (after-append files [] (take i moves) (m ∷ [])) ∙ ap (names_after files []) (sym split)

after-apart : (files : Files) (names : List (List ℕ)) (moves : List MemoryMove) → AreApart names → AreApart (names_after files names moves)
after-apart files names [] is = is
after-apart files names (m ∷ moves) is = after-apart files (with_name files names (named m)) moves (with-apart files names (named m) is)

after-there : (files : Files) (names : List (List ℕ)) (moves : List MemoryMove) → AreThere files names → AreThere files (names_after files names moves)
after-there files names [] is = is
after-there files names (m ∷ moves) is = after-there files (with_name files names (named m)) moves (with-there files names (named m) is)

after-kept : (files : Files) (names : List (List ℕ)) (moves : List MemoryMove) (name : List ℕ) → has_name names name ≡ true →
    has_name (names_after files names moves) name ≡ true
after-kept files names [] name is = is
after-kept files names (m ∷ moves) name is = after-kept files (with_name files names (named m)) moves name (with-kept files names (named m) name is)

abbrev IsNamed : List MemoryMove → List ℕ → Type 0
IsNamed [] name = ⊥
IsNamed (m ∷ moves) name = (named m ≡ Some name) ⊎ IsNamed moves name

after-all : (files : Files) (names : List (List ℕ)) (moves : List MemoryMove) (name : List ℕ) → is_some (files name) ≡ true → IsNamed moves name →
    has_name (names_after files names moves) name ≡ true
after-all files names [] name there is = absurd is
after-all files names (m ∷ moves) name there (inl here) =
    after-kept files (with_name files names (named m)) moves name (with-in files names (named m) name there here)
after-all files names (m ∷ moves) name there (inr later) = after-all files (with_name files names (named m)) moves name there later

-- where a file stands under a name, either it did before or the name was given
abbrev WasOr : Bool → Type 0 → Type 0
WasOr was Named = (was ≡ true) ⊎ Named

written : (files : Files) (n : List ℕ) (bytes : Option (List ℕ)) (name : List ℕ) (b : Bool) → bytes_eq n name ≡ b →
    is_some (if b then bytes else files name) ≡ true → WasOr (is_some (files name)) (Some n ≡ Some name)
written files n bytes name true test is = inr (ap Some ((bytes_eq-Decides n name).0 test))
written files n bytes name false test is = inl is

gone : (files : Files) (name : List ℕ) (b : Bool) → is_some (if b then None else files name) ≡ true → is_some (files name) ≡ true
gone files name true is = absurd (false≢true is)
gone files name false is = is

moved-named : (files : Files) (m : MemoryMove) (name : List ℕ) → is_some (moved files (memory_move m) name) ≡ true →
    WasOr (is_some (files name)) (named m ≡ Some name)
moved-named files (Written n bytes) name is = written files (string_bytes n) (Some bytes.items) name (bytes_eq (string_bytes n) name) refl is
moved-named files (Renamed old new) name is =
    elim (written (with_file files (string_bytes old) None) (string_bytes new) (files (string_bytes old)) name (bytes_eq (string_bytes new) name) refl is) [
      | inl before ↦ inl (gone files name (bytes_eq (string_bytes old) name) before)
      | inr now ↦ inr now
    ]
moved-named files (Removed n) name is = inl (gone files name (bytes_eq (string_bytes n) name) is)
moved-named files (Seen n there) name is = inl is
moved-named files Synced name is = inl is

standing-named : (files : Files) (moves : List MemoryMove) (name : List ℕ) → is_some (standing files (memory_moves moves) name) ≡ true →
    WasOr (is_some (files name)) (IsNamed moves name)
standing-named files [] name is = inl is
standing-named files (m ∷ moves) name is = elim (standing-named (moved files (memory_move m)) moves name is) [
  | inl before ↦ elim (moved-named files m name before) [
    | inl first ↦ inl first
    | inr here ↦ inr (inl here)
  ]
  | inr later ↦ inr (inr later)
]

all-named : (moves : List MemoryMove) (name : List ℕ) → is_some (standing no_files (memory_moves moves) name) ≡ true → IsNamed moves name
all-named moves name is = elim (standing-named no_files moves name is) [
  | inl before ↦ absurd (false≢true before)
  | inr named ↦ named
]

-- all names are found
pub after-are : (moves : List MemoryMove) → AreNames (standing no_files (memory_moves moves)) (names_after (standing no_files (memory_moves moves)) [] moves)
after-are moves =
    let files = standing no_files (memory_moves moves) in
    record {
      each = λ name. bool-same (has_name (names_after files [] moves) name) (is_some (files name))
          (after-there files [] moves (λ n none. absurd (false≢true none)) name)
          (λ there. after-all files [] moves name there (all-named moves name there));
      once = after-apart files [] moves tt;
    }

map-more : (names : List Text) (one : Text) → map string_bytes (names ++ one ∷ []) ≡ map string_bytes names ++ string_bytes one ∷ []
map-more [] one = refl
map-more (n ∷ names) one = ap (λ (x : List (List ℕ)). string_bytes n ∷ x) (map-more names one)

-- a name that is none of the first of these
pub has-none : (names : List Text) (i : ℕ) (one : Text) (name : List ℕ) → take (i + 1) names ≡ take i names ++ one ∷ [] →
    has_name (map string_bytes (take i names)) name ≡ false → bytes_eq (string_bytes one) name ≡ false → has_name (map string_bytes (take (i + 1) names)) name ≡ false
has-none names i one name split before apart =
    ap (λ (x : List Text). has_name (map string_bytes x) name) split ∙ ap (λ (x : List (List ℕ)). has_name x name) (map-more (take i names) one)
    ∙ has-append (map string_bytes (take i names)) (string_bytes one) name ∙ or-both (has_name (map string_bytes (take i names)) name) (bytes_eq (string_bytes one) name) before apart

pub has-at : (names : List Text) (i : ℕ) (d : Text) (name : List ℕ) → i < length names → string_bytes (get_or names i d) ≡ name →
    has_name (map string_bytes names) name ≡ true
has-at [] i d name lt is = absurd (omega (arith, lt))
has-at (n ∷ names) zero d name lt is = or-left (bytes_eq (string_bytes n) name) (has_name (map string_bytes names) name) ((bytes_eq-Decides (string_bytes n) name).1 is)
has-at (n ∷ names) (suc i) d name lt is =
    ap (λ (x : Bool). bytes_eq (string_bytes n) name || x) (has-at names i d name (omega (arith, lt)) is) ∙ or-right (bytes_eq (string_bytes n) name)

-- a name that is new is one of a file
pub new-file : (files : Files) (names : List (List ℕ)) (name : Option (List ℕ)) → IsNew files names name → HasFiles files
new-file files names None new = absurd new
new-file files names (Some name) new = (name, new.0)
