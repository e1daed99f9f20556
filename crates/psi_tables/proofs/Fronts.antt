-- What stands at the front of some bytes: a whole section, one of which not all bytes are there, or none.
use Rattle.std.proofs.Common.{◌≡◌, ℕ, ◌+◌, ◌<◌, ◌≤◌, true, false, ◌==◌, List, [], ◌∷◌, ◌++◌, length, take, ◌∙◌, ap, arith, length-append, inl, inr}
use Rattle.std.proofs.lemmas.Bool.{cond-true, cond-false}
use Rattle.std.proofs.lemmas.Bool.Decides.{nat_tests, leb_tells, eqb_tells}
use Rattle.std.proofs.lemmas.List.{take-append-le, get_or_append_left}
use Rattle.psi_tables.specs.Section.{table_id, section_length}
use Rattle.psi_tables.specs.Sections.{is_stuffing, is_whole, is_open, first_section}
use Rattle.psi_tables.specs.State.{whole_front, open_rest}

-- more bytes don't change a section_length that is there
pub section_length-append : (s f : List ℕ) → 3 ≤ length s → section_length (s ++ f) ≡ section_length s
section_length-append s f known =
    let one = get_or_append_left s f 0 1 (omega arith) in
    let two = get_or_append_left s f 0 2 (omega arith) in
    cc

-- nor a table_id
pub is_stuffing-append : (s f : List ℕ) → 0 < length s → is_stuffing (s ++ f) ≡ is_stuffing s
is_stuffing-append s f some =
    let one = get_or_append_left s f 0 0 some in
    ap (λ (k : ℕ). k == 255) one

-- the tests of a whole section, and of an open one, from their parts
whole-by : (s : List ℕ) → is_stuffing s ≡ false → 3 ≤ length s → section_length s ≤ 1021 → 3 + section_length s ≤ length s → is_whole s ≡ true
whole-by s table known allowed enough = grind (arith, nat_tests)

not_whole-stuffing : (s : List ℕ) → is_stuffing s ≡ true → is_whole s ≡ false
not_whole-stuffing s table = grind (arith, nat_tests)

not_whole-short : (s : List ℕ) → length s < 3 → is_whole s ≡ false
not_whole-short s few = grind (arith, nat_tests)

not_whole-long : (s : List ℕ) → 1021 < section_length s → is_whole s ≡ false
not_whole-long s above = grind (arith, nat_tests)

not_whole-part : (s : List ℕ) → length s < 3 + section_length s → is_whole s ≡ false
not_whole-part s part = grind (arith, nat_tests)

open-short : (s : List ℕ) → is_stuffing s ≡ false → length s < 3 → is_open s ≡ true
open-short s table few = grind (arith, nat_tests)

open-part : (s : List ℕ) → is_stuffing s ≡ false → section_length s ≤ 1021 → length s < 3 + section_length s → is_open s ≡ true
open-part s table allowed part = grind (arith, nat_tests)

not_open-stuffing : (s : List ℕ) → is_stuffing s ≡ true → is_open s ≡ false
not_open-stuffing s table = grind (arith, nat_tests)

not_open-long : (s : List ℕ) → 3 ≤ length s → 1021 < section_length s → is_open s ≡ false
not_open-long s known above = grind (arith, nat_tests)

-- a whole section stands there, whatever comes behind it
pub record IsWhole (s : List ℕ) : Type 0 where
  pub known : 3 ≤ length s
  pub whole : is_whole s ≡ true
  pub stays : (flow : List ℕ) → is_whole (s ++ flow) ≡ true
  pub same_length : (flow : List ℕ) → section_length (s ++ flow) ≡ section_length s
  pub same : (flow : List ℕ) → first_section (s ++ flow) ≡ first_section s

-- a section stands there of which not all bytes are there
pub record IsOpen (s : List ℕ) : Type 0 where
  pub table : is_stuffing s ≡ false
  pub not_whole : is_whole s ≡ false
  pub open_there : is_open s ≡ true
  pub most : (flow : List ℕ) → length s ≤ 3 + section_length (s ++ flow)
  pub few : length s ≤ 1024

-- no section stands there, whatever comes behind
pub record IsNone (s : List ℕ) : Type 0 where
  pub known : is_stuffing s ≡ false → 3 ≤ length s
  pub not_whole : is_whole s ≡ false
  pub never : (flow : List ℕ) → is_whole (s ++ flow) ≡ false
  pub not_open : is_open s ≡ false

pub data Front (s : List ℕ) : Type 0 where
  a_whole : IsWhole s → Front s
  an_open : IsOpen s → Front s
  a_none : IsNone s → Front s

whole_front_there : (s : List ℕ) → is_stuffing s ≡ false → 3 ≤ length s → section_length s ≤ 1021 → 3 + section_length s ≤ length s → IsWhole s
whole_front_there s table known allowed enough =
    let same_length : (flow : List ℕ) → section_length (s ++ flow) ≡ section_length s = λ flow. section_length-append s flow known in
    record {
      known = known;
      whole = whole-by s table known allowed enough;
      stays = λ flow.
          let l = length-append s flow in
          let n = same_length flow in
          whole-by (s ++ flow) (is_stuffing-append s flow (omega arith) ∙ table) (omega arith) (omega arith) (omega arith);
      same_length = same_length;
      same = λ flow. ap (λ (n : ℕ). take (3 + n) (s ++ flow)) (same_length flow) ∙ take-append-le (3 + section_length s) s flow enough;
    }

short_front : (s : List ℕ) → is_stuffing s ≡ false → length s < 3 → IsOpen s
short_front s table few = record {
  table = table;
  not_whole = not_whole-short s few;
  open_there = open-short s table few;
  most = λ flow. omega arith;
  few = omega arith;
}

part_front : (s : List ℕ) → is_stuffing s ≡ false → 3 ≤ length s → section_length s ≤ 1021 → length s < 3 + section_length s → IsOpen s
part_front s table known allowed part = record {
  table = table;
  not_whole = not_whole-part s part;
  open_there = open-part s table allowed part;
  most = λ flow. let n = section_length-append s flow known in omega arith;
  few = omega arith;
}

long_front : (s : List ℕ) → 3 ≤ length s → 1021 < section_length s → IsNone s
long_front s known above = record {
  known = λ _. known;
  not_whole = not_whole-long s above;
  never = λ flow. not_whole-long (s ++ flow) (let n = section_length-append s flow known in omega arith);
  not_open = not_open-long s known above;
}

stuffed_front : (s : List ℕ) → is_stuffing s ≡ true → IsNone s
stuffed_front [] table = absurd (let e : false ≡ true = table in cc)
stuffed_front (b ∷ bytes) table = record {
  known = λ other. absurd (let e = table in let f = other in cc);
  not_whole = not_whole-stuffing (b ∷ bytes) table;
  never = λ flow. not_whole-stuffing ((b ∷ bytes) ++ flow) (is_stuffing-append (b ∷ bytes) flow (omega arith) ∙ table);
  not_open = not_open-stuffing (b ∷ bytes) table;
}

pub front_of : (s : List ℕ) → Front s
front_of s =
    elim (eqb_tells (table_id s) 255) [
      | inl t ↦ a_none (stuffed_front s t.0)
      | inr t ↦ elim (leb_tells 3 (length s)) [
        | inr known ↦ an_open (short_front s t.0 known.1)
        | inl known ↦ elim (leb_tells (section_length s) 1021) [
          | inr above ↦ a_none (long_front s known.1 above.1)
          | inl allowed ↦ elim (leb_tells (3 + section_length s) (length s)) [
            | inl enough ↦ a_whole (whole_front_there s t.0 known.1 allowed.1 enough.1)
            | inr part ↦ an_open (part_front s t.0 known.1 allowed.1 part.1)
          ]
        ]
      ]
    ]

-- what a whole section, an open one, and none leave at the front
pub whole_front-whole : (s : List ℕ) → is_whole s ≡ true → whole_front s ≡ first_section s ∷ []
whole_front-whole s whole = cond-true _ _ _ whole

pub whole_front-none : (s : List ℕ) → is_whole s ≡ false → whole_front s ≡ []
whole_front-none s not_whole = cond-false _ _ _ not_whole

pub open_rest-whole : (s : List ℕ) → is_whole s ≡ true → open_rest s ≡ []
open_rest-whole s whole = cond-true _ _ _ whole

pub open_rest-open : (s : List ℕ) → IsOpen s → open_rest s ≡ s
open_rest-open s h = cond-false _ _ _ h.not_whole ∙ cond-true _ _ _ h.open_there

pub open_rest-none : (s : List ℕ) → IsNone s → open_rest s ≡ []
open_rest-none s h = cond-false _ _ _ h.not_whole ∙ cond-false _ _ _ h.not_open
