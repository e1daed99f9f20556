-- The numbers that texts tell, and those of options.
use Rattle.std.proofs.Common.{◌≡◌, ℕ, ◌<◌, ◌^◌, Bool, true, false, cond, ◌&&◌, ◌==◌, nat_lt, nat_le, List, length, Option, Some, None, Decides, option_and_then, codes, refl, sym, ap, arith, lt-ltb, ltb-true, le-leb, leb-true}
use Rattle.std.specs.List.{position_or_len}
use Rattle.std.specs.Str.{all_ascii_digits}
use Rattle.std.specs.Str.Parse.{IsNumeral, digits_value, without_leading_plus}
use Rattle.std.proofs.lemmas.Str.Parse.{IsNumeralModel, numerals_by_value, tells_all_ascii_digits}
use Rattle.clap.specs.declared.parser.matches.Found.{Found}
use Rattle.clap.specs.Words.{one_text}
use Rattle.limits.specs.declared.TheConstants.{MOST_PIXELS}
use Rattle.commands.specs.declared.numbers.NumberWords.{NumberWords}
use Rattle.commands.specs.declared.pool.PoolWords.{PoolWords}
use Rattle.commands.specs.Sizes.{before_x, behind_x}
use Rattle.command_line.specs.Explanations.{MayBeSide, MayBeSize}
use Rattle.command_line.specs.SettingsWords.{given_number, is_number, is_side, may_be_size, number_in, number_words, pool_words}
use Rattle.command_line.specs.Words.{AreNumberWords, ArePoolWords, IsGivenNumber, IsNumberOf, IsReadAs, is_given}

all-three : (a b c : Bool) → a ≡ true → b ≡ true → c ≡ true → (a && b && c) ≡ true
all-three a b c p q r = rw (p, q, r) refl

each-of-three : (a b c : Bool) → (a && b && c) ≡ true → (a ≡ true) × (b ≡ true) × (c ≡ true)
each-of-three true true true is = (refl, refl, refl)
each-of-three true true false is = absurd (cc)
each-of-three true false c is = absurd (cc)
each-of-three false b c is = absurd (cc)

pub both-of : (a b : Bool) → a ≡ true → b ≡ true → (a && b) ≡ true
both-of a b p q = rw (p, q) refl

pub each-of-two : (a b : Bool) → (a && b) ≡ true → (a ≡ true) × (b ≡ true)
each-of-two true true is = (refl, refl)
each-of-two true false is = absurd (cc)
each-of-two false b is = absurd (cc)

numerals : IsNumeralModel (λ ds. all_ascii_digits ds ≡ true) (digits_value 10)
numerals = numerals_by_value (λ ds. all_ascii_digits ds ≡ true) tells_all_ascii_digits

tells-number : (text : List ℕ) → IsNumeral 10 (without_leading_plus text) → digits_value 10 (without_leading_plus text) < 2 ^ 64 → is_number text ≡ true
tells-number text digits small =
    all-three (nat_lt 0 (length (without_leading_plus text))) (all_ascii_digits (without_leading_plus text)) (nat_lt (digits_value 10 (without_leading_plus text)) (2 ^ 64))
    (lt-ltb _ _ digits.0) (numerals.from _ digits.1) (lt-ltb _ _ small)

told-number : (text : List ℕ) → is_number text ≡ true → IsNumeral 10 (without_leading_plus text) × (digits_value 10 (without_leading_plus text) < 2 ^ 64)
told-number text is =
    let each = each-of-three (nat_lt 0 (length (without_leading_plus text))) (all_ascii_digits (without_leading_plus text)) (nat_lt (digits_value 10 (without_leading_plus text)) (2 ^ 64)) is in
    ((ltb-true _ _ each.0, numerals.to _ each.1), ltb-true _ _ each.2)

-- what is read of a text is its number
pub read-as : (text : List ℕ) (r : Option ℕ) → IsReadAs text r → r ≡ number_in text
unfolding number_in
read-as text (Some n) is = rw (tells-number text is.0 (omega (arith, is.1, is.2))) (ap Some (sym is.1))
read-as text None never = none (is_number text) refl
  where
    none : (b : Bool) → is_number text ≡ b → None ≡ cond b (Some (digits_value 10 (without_leading_plus text))) None
    none true is = let told = told-number text is in absurd (never (digits_value 10 (without_leading_plus text)) (told.0, refl, told.1))
    none false is = refl

-- an option's number among the words
pub given-is : (found : Found) (name : List ℕ) (r : Option ℕ) → IsGivenNumber found name r → r ≡ given_number found name
unfolding given_number
given-is found name r is = by_given (is_given found name) refl
  where
    by_text : (t : Option (List ℕ)) → one_text found name ≡ t → IsNumberOf found name r → r ≡ option_and_then number_in t
    by_text None same of = of.none same
    by_text (Some text) same of = read-as text r (of.read text same)

    by_given : (b : Bool) → is_given found name ≡ b → r ≡ cond b (option_and_then number_in (one_text found name)) None
    by_given true same = by_text (one_text found name) refl (is.given same)
    by_given false same = is.absent same

pub numbers-are : (found : Found) (words : NumberWords) → AreNumberWords found words → words ≡ number_words found
numbers-are found words are = λ i. record {
  target = given-is found (codes "target") words.target are.target_is i;
  segment = given-is found (codes "segment") words.segment are.segment_is i;
  window = given-is found (codes "window") words.window are.window_is i;
  frame = given-is found (codes "frame") words.frame are.frame_is i;
  gap = given-is found (codes "gap") words.gap are.gap_is i;
  most = given-is found (codes "most") words.most are.most_is i;
  period = given-is found (codes "period") words.period are.period_is i;
  program = given-is found (codes "program") words.program are.program_is i;
}

pub pool-is : (found : Found) (words : PoolWords) → ArePoolWords found words → words ≡ pool_words found
pool-is found words are = λ i. record {
  workers = given-is found (codes "workers") words.workers are.workers_is i;
  queue = given-is found (codes "queue") words.queue are.queue_is i;
  batch = given-is found (codes "batch") words.batch are.batch_is i;
  stall = given-is found (codes "stall") words.stall are.stall_is i;
  ahead = given-is found (codes "ahead") words.ahead are.ahead_is i;
}

-- a side of a size, by its number
side : (text : List ℕ) (b : Bool) → is_number text ≡ b
    → (is_side (cond b (Some (digits_value 10 (without_leading_plus text))) None) ≡ true → MayBeSide text)
    × (MayBeSide text → is_side (cond b (Some (digits_value 10 (without_leading_plus text))) None) ≡ true)
side text true same =
    let told = told-number text same in (
      λ is n number.
          let each = each-of-two (nat_le 1 (digits_value 10 (without_leading_plus text))) (nat_le (digits_value 10 (without_leading_plus text)) MOST_PIXELS) is in
          let least = leb-true 1 (digits_value 10 (without_leading_plus text)) each.0 in
          let most = leb-true (digits_value 10 (without_leading_plus text)) MOST_PIXELS each.1 in
          (omega (arith, number.value, least), omega (arith, number.value, most)),
      λ may.
          let within = may (digits_value 10 (without_leading_plus text)) (record { digits = told.0; value = refl; small = told.1 }) in
          both-of (nat_le 1 (digits_value 10 (without_leading_plus text))) (nat_le (digits_value 10 (without_leading_plus text)) MOST_PIXELS) (le-leb _ _ within.0) (le-leb _ _ within.1),
    )
side text false same = (
  λ is n number. absurd (cc (same, tells-number text number.digits (omega (arith, number.value, number.small)))),
  λ may. refl,
)

side-told : (text : List ℕ) → is_side (number_in text) ≡ true → MayBeSide text
unfolding number_in
side-told text = (side text (is_number text) refl).0

side-tells : (text : List ℕ) → MayBeSide text → is_side (number_in text) ≡ true
unfolding number_in
side-tells text = (side text (is_number text) refl).1

size-told : (text : List ℕ) → may_be_size text ≡ true → MayBeSize text
unfolding may_be_size
size-told text is =
    let each = each-of-three (nat_lt (position_or_len (λ b. b == 120) text) (length text)) (is_side (number_in (before_x text))) (is_side (number_in (behind_x text))) is in
    record {
      parted = ltb-true _ _ each.0;
      width = side-told (before_x text) each.1;
      height = side-told (behind_x text) each.2;
    }

size-tells : (text : List ℕ) → MayBeSize text → may_be_size text ≡ true
unfolding may_be_size
size-tells text may =
    all-three (nat_lt (position_or_len (λ b. b == 120) text) (length text)) (is_side (number_in (before_x text))) (is_side (number_in (behind_x text)))
    (lt-ltb _ _ may.parted) (side-tells (before_x text) may.width) (side-tells (behind_x text) may.height)

pub same-bool : (a b : Bool) → (a ≡ true → b ≡ true) → (b ≡ true → a ≡ true) → a ≡ b
same-bool true b f g = sym (f refl)
same-bool false true f g = g refl
same-bool false false f g = refl

-- what decides whether a text may be a size is that
pub size-decided : (text : List ℕ) (b : Bool) → Decides b (MayBeSize text) → b ≡ may_be_size text
size-decided text b decides = same-bool b (may_be_size text) (λ is. size-tells text (decides.0 is)) (λ is. decides.1 (size-told text is))
