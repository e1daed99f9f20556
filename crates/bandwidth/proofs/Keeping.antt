-- What a meter keeps when it takes a span, and what it tells.
use Rattle.std.proofs.Common.{◌≡◌, ℕ, ◌+◌, ◌*◌, ◌^◌, ◌<◌, ◌≤◌, Bool, true, List, [], ◌∷◌, ◌++◌, length, take, drop, Option, Some, None, refl, sym, ap, ◌∙◌, inl, inr, arith, length-append}
use Rattle.std.proofs.lemmas.Bool.{cases_lt, eqb-true, eq-eqb}
use Rattle.std.proofs.lemmas.List.{take_all}
use Rattle.std.proofs.lemmas.List.Elements.{All-nil, All-push}
use Rattle.bandwidth.specs.declared.run.Span.{Span}
use Rattle.bandwidth.specs.declared.run.Run.{Run}
use Rattle.bandwidth.specs.declared.meter.Meter.TheInside.{Inside}
use Rattle.bandwidth.specs.Runs.{IsSpan, AreSpans, bytes, micros, run, rate, is_in_range}
use Rattle.bandwidth.specs.Peaks.{is_single, best_of, best, peak_from, peak_of, average_of}
use Rattle.bandwidth.specs.Steps.{AreSmall, IsOf, BestOf}
use Rattle.bandwidth.specs.Gaps.{IsPlace, AreCandidates, IsUpTo, no_place}
use Rattle.bandwidth.specs.declared.place.Place.{Place}
use Rattle.bandwidth.specs.State.{IsTied}
use Rattle.bandwidth.proofs.BestOf.{AreBoth, BestOf-both, BestOf-one}
use Rattle.bandwidth.proofs.Spans.{bytes-none, micros-none, bytes-push, micros-push, bytes-le, bytes-few, micros-ge, micros-le, run-push, run-single, IsOf-lasts}
use Rattle.bandwidth.proofs.Moves.{none_before}
use Rattle.bandwidth.proofs.PeakOf.{IsOf-run, best_is}

-- a run of the spans before is one of all
IsOf-push : (p : Run → Bool) (spans : List Span) (x : Span) (r : Run) → IsOf p spans r → IsOf p (spans ++ x ∷ []) r
IsOf-push p spans x r is = record {
  is = is.is ∙ sym (run-push spans x r.from r.to is.is_run.1);
  is_run = (is.is_run.0, omega (arith, is.is_run.1, length-append spans (x ∷ [])));
  passes = is.passes;
}

-- a run of all that ends before the last span is one of the spans before
IsOf-before : (p : Run → Bool) (spans : List Span) (x : Span) (r : Run) → IsOf p (spans ++ x ∷ []) r → r.to < length spans → IsOf p spans r
IsOf-before p spans x r is below = record {
  is = is.is ∙ run-push spans x r.from r.to below;
  is_run = (is.is_run.0, below);
  passes = is.passes;
}

-- another ends at the last span
last : (p : Run → Bool) (spans : List Span) (x : Span) (r : Run) → IsOf p (spans ++ x ∷ []) r → length spans ≤ r.to → r.to ≡ length spans
last p spans x r is behind = omega (arith, is.is_run.1, length-append spans (x ∷ []), behind)

-- a single run ends where it begins
single_ends : (r : Run) → is_single r ≡ true → r.from ≡ r.to
single_ends r test = eqb-true r.from r.to test

-- the single spans with one more
both_single : (spans : List Span) (x : Span) (s : Run) → AreSpans (spans ++ x ∷ []) →
    s ≡ record { from = length spans; to = length spans; bytes = x.size; micros = x.micros } →
    AreBoth (IsOf is_single spans) (λ r. r ≡ s) (IsOf is_single (spans ++ x ∷ []))
both_single spans x s are is =
    let n : ℕ = length spans in
    let all : List Span = spans ++ x ∷ [] in
    let whole : run all n n ≡ s = run-single spans x ∙ sym is in
    let ends : (run all n n).from ≡ (run all n n).to = rw whole (rw is refl) in
    record {
      split = λ r one. elim (cases_lt r.to n) [
        | inl below ↦ inl (IsOf-before is_single spans x r one below)
        | inr behind ↦
            let to : r.to ≡ n = last is_single spans x r one behind in
            let from : r.from ≡ n = single_ends r one.passes ∙ to in
            inr (one.is ∙ ap (λ (i : ℕ). run all i r.to) from ∙ ap (λ (j : ℕ). run all n j) to ∙ whole)
      ];
      left = λ r one. IsOf-push is_single spans x r one;
      right = λ r same. rw (same, ← whole) (IsOf-run is_single all n n (omega arith, omega (arith, length-append spans (x ∷ []))) (eq-eqb _ _ ends));
      lasts = λ r one. IsOf-lasts is_single all r are one;
    }

-- no spans have no last one
empty : (j : ℕ) → j < length {A = Span} [] → ⊥
empty j below = omega (arith, below)

-- a meter that was pushed nothing
pub IsTied-none : (m : Inside) → 1 ≤ m.target → m.target ≤ 3600 → m.pushed.items ≡ [] → m.total ≡ no_place → m.ranged ≡ None → m.single ≡ None →
    AreCandidates m.target [] None m.candidates → IsTied m
IsTied-none m least most none no_total no_ranged no_single candidates = record {
  least = least;
  most = most;
  are = rw none (All-nil IsSpan);
  few = rw none (omega arith);
  total = rw (no_total, none) (record { within = omega arith; bytes_are = sym bytes-none; micros_are = sym micros-none });
  end = rw (no_total, none) refl;
  candidates = rw (none, no_ranged) candidates;
  ranged = rw (no_ranged, none) (λ r is. empty r.to is.is_run.1);
  ranged_small = rw no_ranged tt;
  single = rw (no_single, none) (λ r is. empty r.to is.is_run.1);
  single_small = rw no_single tt;
}

-- the place behind one span more
pub IsPlace-more : (spans : List Span) (x : Span) (p q : Place) → IsPlace spans p → p.at ≡ length spans → q.at ≡ p.at + 1 → q.bytes ≡ p.bytes + x.size → q.micros ≡ p.micros + x.micros →
    IsPlace (spans ++ x ∷ []) q × (q.at ≡ length (spans ++ x ∷ []))
IsPlace-more spans x p q is end at more_bytes more_micros =
    let size : length (spans ++ x ∷ []) ≡ length spans + 1 = length-append spans (x ∷ []) in
    let whole : take q.at (spans ++ x ∷ []) ≡ spans ++ x ∷ [] = take_all q.at (spans ++ x ∷ []) (omega (arith, at, end, size)) in
    let before : take p.at spans ≡ spans = take_all p.at spans (omega (arith, end)) in (
      record {
        within = omega (arith, at, end, size);
        bytes_are = omega (arith, more_bytes, is.bytes_are, ap bytes before, ap bytes whole, bytes-push spans x);
        micros_are = omega (arith, more_micros, is.micros_are, ap micros before, ap micros whole, micros-push spans x);
      },
      omega (arith, at, end, size),
    )

-- the best run in range of the spans before, among those of all that begin before the candidates
pub up_to_first : (target : ℕ) (spans : List Span) (x : Span) (first : ℕ) (o : Option Run) → ((i : ℕ) → i < first → target * 3000000 < micros (drop i (spans ++ x ∷ [])) * 2) →
    BestOf (IsOf (is_in_range target) spans) o → BestOf (IsUpTo target (spans ++ x ∷ []) first) o
up_to_first target spans x first o least best =
    none_before target spans x first o least (IsOf-push (is_in_range target) spans x) (IsOf-before (is_in_range target) spans x) best

-- a meter that took one span more
pub record IsOneMore (m n : Inside) (x : Span) (single : Run) : Type 0 where
  pub target_same : n.target ≡ m.target
  pub pushed_grown : n.pushed.items ≡ m.pushed.items ++ x ∷ []
  pub total : IsPlace (m.pushed.items ++ x ∷ []) n.total
  pub end : n.total.at ≡ length (m.pushed.items ++ x ∷ [])
  pub candidates : AreCandidates m.target (m.pushed.items ++ x ∷ []) n.ranged n.candidates
  pub ranged : BestOf (IsOf (is_in_range m.target) (m.pushed.items ++ x ∷ [])) n.ranged
  pub ranged_small : AreSmall n.ranged
  pub single_run : single ≡ record { from = length m.pushed.items; to = length m.pushed.items; bytes = x.size; micros = x.micros }
  pub single_is : n.single ≡ best_of m.single (Some single)
  pub single_small : AreSmall n.single

pub IsTied-one : (m n : Inside) (x : Span) (single : Run) → IsTied m → length m.pushed.items < 2 ^ 52 → IsSpan x → IsOneMore m n x single → IsTied n
IsTied-one m n x single tied few span more =
    let spans : List Span = m.pushed.items in
    let are : AreSpans (spans ++ x ∷ []) = All-push IsSpan spans x tied.are span in
    let best_single = BestOf-both (IsOf is_single spans) (λ r. r ≡ single) (IsOf is_single (spans ++ x ∷ []))
    (both_single spans x single are more.single_run) m.single (Some single) tied.single (BestOf-one single) in
    record {
      least = rw more.target_same tied.least;
      most = rw more.target_same tied.most;
      are = rw more.pushed_grown are;
      few = omega (arith, ap length more.pushed_grown, length-append spans (x ∷ []), few);
      total = rw more.pushed_grown more.total;
      end = rw more.pushed_grown more.end;
      candidates = rw (more.target_same, more.pushed_grown) more.candidates;
      ranged = rw (more.target_same, more.pushed_grown) more.ranged;
      ranged_small = more.ranged_small;
      single = rw (more.single_is, more.pushed_grown) best_single;
      single_small = more.single_small;
    }

-- the totals are the sums of all spans
pub total_bytes : (m : Inside) → IsTied m → m.total.bytes ≡ bytes m.pushed.items
total_bytes m tied = tied.total.bytes_are ∙ ap bytes (take_all m.total.at m.pushed.items (omega (arith, tied.end)))

pub total_micros : (m : Inside) → IsTied m → m.total.micros ≡ micros m.pushed.items
total_micros m tied = tied.total.micros_are ∙ ap micros (take_all m.total.at m.pushed.items (omega (arith, tied.end)))

-- the sums stay far below 2^128
pub micros_below : (m : Inside) → IsTied m → m.total.micros ≤ 2 ^ 84
micros_below m tied = omega (arith, total_micros m tied, tied.few, micros-le m.pushed.items tied.are)

pub bytes_below : (m : Inside) → IsTied m → m.total.bytes ≤ 2 ^ 84
bytes_below m tied = omega (arith, total_bytes m tied, tied.few, bytes-few m.pushed.items tied.are)

-- and the rate of all spans fits
pub bytes_at_most : (m : Inside) → IsTied m → m.total.bytes ≤ 2 ^ 32 * m.total.micros
bytes_at_most m tied = omega (arith, total_bytes m tied, total_micros m tied, bytes-le m.pushed.items tied.are)

-- some spans last some time
pub micros_some : (m : Inside) → IsTied m → 0 < length m.pushed.items → 0 < m.total.micros
micros_some m tied some = omega (arith, total_micros m tied, micros-ge m.pushed.items tied.are, some)

-- the peak is that of the best runs kept
pub peak_is : (m : Inside) → IsTied m → peak_from m.ranged m.single ≡ peak_of m.target m.pushed.items
unfolding peak_of
peak_is m tied =
    ap (λ (b : Option Run). peak_from b m.single) (best_is (is_in_range m.target) m.pushed.items m.ranged tied.are tied.ranged)
    ∙ ap (λ (b : Option Run). peak_from (best (is_in_range m.target) m.pushed.items) b) (best_is is_single m.pushed.items m.single tied.are tied.single)

-- the average of some spans
pub average-some : (spans : List Span) → 0 < length spans → Some (rate (bytes spans) (micros spans)) ≡ average_of spans
unfolding average_of
average-some [] some = absurd (omega (arith, some))
average-some (x ∷ spans) some = refl

-- and of none
pub average-none : (spans : List Span) → length spans ≡ 0 → None ≡ average_of spans
unfolding average_of
average-none [] none = refl
average-none (x ∷ spans) none = absurd (omega (arith, none))
