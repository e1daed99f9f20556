-- Renditions that go on together.
use Rattle.std.proofs.Common.{◌≡◌, ◌<◌, ◌≤◌, ℕ, zero, suc, ◌+◌, ◌-◌, Bool, true, false, Option, Some, None, inl, inr, List, [], ◌∷◌, length, drop, get_or, refl, sym, ap, subst, ◌∙◌, arith}
use Rattle.std.specs.Prelude.{slice_get, max, nat_lt, unwrap_or}
use Rattle.std.proofs.Math.ListN.{drop_of_length-le}
use Rattle.std.proofs.Math.Seq.{drop-cons}
use Rattle.std.proofs.lemmas.Bool.{cases_lt, ltb-false}
use Rattle.std.proofs.lemmas.Option.{none-some, same_Some}
use Rattle.ladder_items.specs.declared.settings.Kind.{Kind}
use Rattle.ladder_items.specs.declared.settings.Kind.TheVariants.{Live, Event}
use Rattle.resume.specs.Restoring.{RestoredValue}
use Rattle.resume.specs.Evening.{breaks, GoTogether, most_with, most_breaks, lags, anew, beside}

-- whichever comes first
pub together-turned : (kind : Kind) (a b : Option RestoredValue) → GoTogether kind a b → GoTogether kind b a
together-turned Live a b is = tt
together-turned Event (Some r) (Some s) is = sym is
together-turned Event None None is = tt
together-turned Event (Some r) None is = is
together-turned Event None (Some s) is = is

-- each with itself
pub together-self : (kind : Kind) (a : Option RestoredValue) → GoTogether kind a a
together-self Live a = tt
together-self Event (Some r) = refl
together-self Event None = tt

abbrev pub AreEvenTo : Kind → List (Option RestoredValue) → ℕ → Type 0
AreEvenTo kind found n = (i j : ℕ) (a b : Option RestoredValue) → i < n → j < n → slice_get found i ≡ Some a → slice_get found j ≡ Some b → GoTogether kind a b

-- one more that goes with all before it
pub even-more : (kind : Kind) (found : List (Option RestoredValue)) (n : ℕ) → AreEvenTo kind found n →
    ((i : ℕ) (a b : Option RestoredValue) → i < n → slice_get found i ≡ Some a → slice_get found n ≡ Some b → GoTogether kind a b) → AreEvenTo kind found (n + 1)
even-more kind found n before last i j a b lt_i lt_j is_a is_b = elim (cases_lt i n) [
  | inl first ↦ elim (cases_lt j n) [
    | inl second ↦ before i j a b first second is_a is_b
    | inr at ↦ let same : j ≡ n = omega arith in last i a b first is_a (rw same at is_b)
  ]
  | inr here ↦ elim (cases_lt j n) [
    | inl second ↦ let same : i ≡ n = omega arith in together-turned kind b a (last j b a second is_b (rw same at is_a))
    | inr at ↦
        let same : i ≡ j = omega arith in
        let one : Some a ≡ Some b = sym is_a ∙ (rw same is_b) in
        subst (λ (x : Option RestoredValue). GoTogether kind a x) (same_Some a b one) (together-self kind a)
  ]
]

-- the most of those from place i on, by the one there and those behind it
pub most-next : (found : List (Option RestoredValue)) (i : ℕ) (x : Option RestoredValue) → i < length found → x ≡ get_or found i x →
    most_breaks (drop i found) ≡ most_with x (most_breaks (drop (suc i) found))
unfolding most_breaks
most-next found i x lt at =
    ap most_breaks (drop-cons found i x lt) ∙ ap (λ (y : Option RestoredValue). most_with y (most_breaks (drop (suc i) found))) (sym at)

-- there is none past the last
pub most-past : (found : List (Option RestoredValue)) (i : ℕ) → length found ≤ i → most_breaks (drop i found) ≡ None
unfolding most_breaks
most-past found i past = ap most_breaks (drop_of_length-le found past)

-- some had the most, and this one no more
record HasMost (found : List (Option RestoredValue)) (r : RestoredValue) : Type 0 where
  pub most : ℕ
  pub is : most_breaks found ≡ Some most
  pub up_to : breaks r ≤ most

most-more : (one : Option RestoredValue) (found : List (Option RestoredValue)) (r : RestoredValue) → HasMost found r → HasMost (one ∷ found) r
unfolding most_breaks
most-more None found r has = record { most = has.most; is = has.is; up_to = has.up_to }
most-more (Some s) found r has = record {
  most = max (breaks s) has.most;
  is = ap (λ (m : Option ℕ). Some (max (breaks s) (unwrap_or m 0))) has.is;
  up_to = omega (arith, has.up_to);
}

most-here : (one : Option RestoredValue) (found : List (Option RestoredValue)) (r : RestoredValue) → one ≡ Some r → HasMost (one ∷ found) r
unfolding most_breaks
most-here None found r is = absurd (none-some r is)
most-here (Some s) found r is =
    let same : s ≡ r = same_Some s r is in
    record {
      most = max (breaks s) (unwrap_or (most_breaks found) 0);
      is = refl;
      up_to = subst (λ (x : RestoredValue). breaks x ≤ max (breaks s) (unwrap_or (most_breaks found) 0)) same (omega arith);
    }

has-most : (found : List (Option RestoredValue)) (place : ℕ) (r : RestoredValue) → slice_get found place ≡ Some (Some r) → HasMost found r
has-most [] place r is = absurd (none-some (Some r) is)
has-most (one ∷ found) zero r is = most-here one found r (same_Some one (Some r) is)
has-most (one ∷ found) (suc k) r is = most-more one found r (has-most found k r is)

even-by : (most : ℕ) (r : RestoredValue) (lag : Bool) → nat_lt (breaks r) most ≡ lag → breaks r ≤ most → breaks (beside (Some most) r) ≡ most
even-by most r true is up_to = rw is (omega arith)
even-by most r false is up_to = let least = ltb-false (breaks r) most is in rw is (omega (arith, up_to, least))

-- each had as many once it goes on beside the others
pub even-beside : (found : List (Option RestoredValue)) (place : ℕ) (r : RestoredValue) → slice_get found place ≡ Some (Some r) →
    most_breaks found ≡ Some (breaks (beside (most_breaks found) r))
even-beside found place r is =
    let has = has-most found place r is in
    has.is ∙ ap Some (sym (even-by has.most r (nat_lt (breaks r) has.most) refl has.up_to)) ∙ ap (λ (m : Option ℕ). Some (breaks (beside m r))) (sym has.is)

-- one more, from the last one on
pub most-step : (found : List (Option RestoredValue)) (k i : ℕ) (x : Option RestoredValue) (old : Option ℕ) → k < length found → i ≡ length found - 1 - k →
    x ≡ get_or found i x → old ≡ most_breaks (drop (length found - k) found) → most_with x old ≡ most_breaks (drop (length found - (k + 1)) found)
most-step found k i x old lt at is so_far =
    let within : i < length found = omega (arith, lt, at) in
    let behind : suc i ≡ length found - k = omega (arith, lt, at) in
    let here : i ≡ length found - (k + 1) = omega (arith, lt, at) in
    ap (λ (m : Option ℕ). most_with x m) (so_far ∙ ap (λ (n : ℕ). most_breaks (drop n found)) (sym behind))
    ∙ sym (most-next found i x within is) ∙ ap (λ (n : ℕ). most_breaks (drop n found)) here
