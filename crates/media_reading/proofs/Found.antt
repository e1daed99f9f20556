-- The number with which a line is one of many.
use Rattle.std.proofs.Common.{◌≡◌, ◌≢◌, ℕ, zero, suc, ◌<◌, ◌≤◌, ◌^◌, inl, inr, Bool, true, false, List, Option, Some, None, refl, sym, ap, ◌∙◌, subst, arith, Result, Ok, Err}
use Rattle.std.specs.Prelude.{IfSome, MatchOption, MatchResult, if◌then◌else◌}
use Rattle.std.specs.Result.{result_ok}
use Rattle.std.proofs.lemmas.Bool.{cases_lt}
use Rattle.std.proofs.lemmas.Option.{same_Some, none-some}
use Rattle.std.proofs.lemmas.Slice.Eq.{bytes_eq-Decides}
use Rattle.media_reading.specs.State.{found_below, number_in}

pub not-true : (b : Bool) → ¬ (b ≡ true) → b ≡ false
not-true true fails = absurd (fails refl)
not-true false fails = refl

-- where none passes
pub found-none : (test : ℕ → Bool) (bound : ℕ) → ((m : ℕ) → m < bound → ¬ (test m ≡ true)) → found_below test bound ≡ None
unfolding found_below
found-none test zero fails = refl
found-none test (suc n) fails =
    ap (λ b. if b then Some n else found_below test n) (not-true (test n) (fails n (omega arith)))
    ∙ found-none test n (λ m lt. fails m (omega (arith, lt)))

-- where one passes and no other
pub found-only : (test : ℕ → Bool) (bound n : ℕ) → n < bound → test n ≡ true → ((m : ℕ) → m < bound → test m ≡ true → m ≡ n) → found_below test bound ≡ Some n
unfolding found_below
found-only test zero n lt passes only = absurd (omega (arith, lt))
found-only test (suc k) n lt passes only = elim (cases_lt n k) [
  | inl below ↦
      ap (λ b. if b then Some k else found_below test k) (not-true (test k) (λ passed. omega (arith, only k (omega arith) passed, below)))
      ∙ found-only test k n below passes (λ m small passed. only m (omega (arith, small)) passed)
  | inr above ↦
      let same : k ≡ n = omega (arith, lt, above) in
      ap (λ b. if b then Some k else found_below test k) (ap test same ∙ passes) ∙ ap Some same
]

-- what is found passes
pub record IsFound (test : ℕ → Bool) (bound n : ℕ) : Type 0 where
  pub below : n < bound
  pub passes : test n ≡ true

found-by : (test : ℕ → Bool) (k n : ℕ) (b : Bool) → test k ≡ b → (found_below test k ≡ Some n → IsFound test k n)
    → (if b then Some k else found_below test k) ≡ Some n → IsFound test (suc k) n
found-by test k n true at later is =
    let same = same_Some k n is in
    record { below = omega (arith, same); passes = ap test (sym same) ∙ at }
found-by test k n false at later is =
    let found = later is in
    record { below = omega (arith, found.below); passes = found.passes }

pub found-some : (test : ℕ → Bool) (bound n : ℕ) → found_below test bound ≡ Some n → IsFound test bound n
unfolding found_below
found-some test zero n is = absurd (none-some n is)
found-some test (suc k) n is = found-by test k n (test k) refl (found-some test k n) is

-- what was read of a line is all that can be
pub record IsRead (line_of : ℕ → List ℕ) (line : List ℕ) (r : Option ℕ) : Type 0 where
  pub found : IfSome r (λ n. line ≡ line_of n)
  pub only : (n : ℕ) → n < 2 ^ 64 → line ≡ line_of n → r ≡ Some n

-- nothing was read
pub read-nothing : (line_of : ℕ → List ℕ) (line : List ℕ) (r : Option ℕ) (bound : ℕ) → bound ≤ 2 ^ 64 → IsRead line_of line r
    → ((n : ℕ) → r ≢ Some n) → None ≡ number_in line_of bound line
read-nothing line_of line r bound few read none =
    sym (found-none _ bound (λ m lt same. none m (read.only m (omega (arith, lt, few)) ((bytes_eq-Decides line (line_of m)).0 same))))

-- a number was read that is too large
pub read-refused : (line_of : ℕ → List ℕ) (line : List ℕ) (r : Option ℕ) (bound n : ℕ) → bound ≤ 2 ^ 64 → IsRead line_of line r
    → r ≡ Some n → bound ≤ n → None ≡ number_in line_of bound line
read-refused line_of line r bound n few read is large =
    sym (found-none _ bound (λ m lt same.
    omega (arith, lt, large, same_Some n m (sym is ∙ read.only m (omega (arith, lt, few)) ((bytes_eq-Decides line (line_of m)).0 same)))))

-- a number was read
pub read-found : (line_of : ℕ → List ℕ) (line : List ℕ) (r : Option ℕ) (bound n : ℕ) → bound ≤ 2 ^ 64 → IsRead line_of line r
    → r ≡ Some n → line ≡ line_of n → n < bound → Some n ≡ number_in line_of bound line
read-found line_of line r bound n few read is same below =
    sym (found-only _ bound n below ((bytes_eq-Decides line (line_of n)).1 same) (λ m lt other.
    same_Some m n (sym (read.only m (omega (arith, lt, few)) ((bytes_eq-Decides line (line_of m)).0 other)) ∙ is)))

-- any number below the bound may be read
pub read-all : (line_of : ℕ → List ℕ) (line : List ℕ) (r : Option ℕ) → IfSome r (λ n. (n < 2 ^ 64) × (line ≡ line_of n)) → ((n : ℕ) → n < 2 ^ 64 → line ≡ line_of n → r ≡ Some n)
    → r ≡ number_in line_of (2 ^ 64) line
read-all line_of line None found only = read-nothing line_of line None (2 ^ 64) (omega arith) (record { found = found; only = only }) (λ n some. none-some n some)
read-all line_of line (Some n) found only = read-found line_of line (Some n) (2 ^ 64) n (omega arith) (record { found = found.1; only = only }) refl found.1 found.0

-- what a result says where its value is taken
pub ok-some : {T E : Type 0} (r : Result T E) (P : T → Type 0) (Q : E → Type 0) (x : T) → result_ok r ≡ Some x → MatchResult r P Q → P x
ok-some (Ok y) P Q x is holds = subst P (same_Some y x is) holds
ok-some (Err e) P Q x is holds = absurd (none-some x is)

-- .. and where there is none
pub ok-none : {T E : Type 0} (r : Result T E) (P : T → Type 0) (Q : E → Type 0) → result_ok r ≡ None → MatchResult r P Q → (e : E) × Q e
ok-none (Ok y) P Q is holds = absurd (none-some y (sym is))
ok-none (Err e) P Q is holds = (e, holds)

-- nothing is there
pub MatchOption-none : {A : Type 0} (o : Option A) (P : Type 0) (Q : A → Type 0) → ((x : A) → o ≢ Some x) → MatchOption o P Q → P
MatchOption-none None P Q nothing holds = holds
MatchOption-none (Some x) P Q nothing holds = absurd (nothing x refl)
