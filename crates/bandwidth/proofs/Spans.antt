-- Runs of a list of spans.
use Rattle.std.proofs.Common.{◌≡◌, ℕ, Bool, ◌+◌, ◌-◌, ◌*◌, ◌^◌, ◌<◌, ◌≤◌, List, [], ◌∷◌, ◌++◌, length, take, drop, refl, ap, ◌∙◌, arith, length-append, length-take, length-drop}
use Rattle.std.proofs.lemmas.List.{take-append-le, take_all, drop_at, drop-drop}
use Rattle.std.proofs.lemmas.List.Elements.{All-head, All-tail, All-take, All-drop}
use Rattle.std.proofs.lemmas.List.Sums.{sum_by-cons, sum_by_push, sum_by-take-drop}
use Rattle.bandwidth.specs.declared.run.Span.{Span}
use Rattle.bandwidth.specs.declared.run.Run.{Run}
use Rattle.bandwidth.specs.Runs.{IsSpan, AreSpans, bytes, micros, run}
use Rattle.bandwidth.specs.Peaks.{IsRun}
use Rattle.bandwidth.specs.Steps.{IsOf}

-- one span more
pub bytes-push : (spans : List Span) (x : Span) → bytes (spans ++ x ∷ []) ≡ bytes spans + x.size
unfolding bytes
bytes-push spans x = sum_by_push (λ r. r.size) spans x

pub micros-push : (spans : List Span) (x : Span) → micros (spans ++ x ∷ []) ≡ micros spans + x.micros
unfolding micros
micros-push spans x = sum_by_push (λ r. r.micros) spans x

-- one span more in front
bytes-cons : (x : Span) (spans : List Span) → bytes (x ∷ spans) ≡ x.size + bytes spans
unfolding bytes
bytes-cons x spans = sum_by-cons (λ r. r.size) x spans

pub micros-cons : (x : Span) (spans : List Span) → micros (x ∷ spans) ≡ x.micros + micros spans
unfolding micros
micros-cons x spans = sum_by-cons (λ r. r.micros) x spans

-- no spans hold nothing and last no time
pub bytes-none : bytes [] ≡ 0
unfolding bytes
bytes-none = refl

pub micros-none : micros [] ≡ 0
unfolding micros
micros-none = refl

-- spans hold fewer than 2^32 bytes for each microsecond
pub bytes-le : (spans : List Span) → AreSpans spans → bytes spans ≤ 2 ^ 32 * micros spans
bytes-le [] are = omega (arith, bytes-none, micros-none)
bytes-le (x ∷ spans) are =
    let span = All-head IsSpan x spans are in
    let rest = bytes-le spans (All-tail IsSpan x spans are) in
    omega (arith, bytes-cons x spans, micros-cons x spans, rest, span.lasts, span.small)

-- and fewer than 2^32 for each span
pub bytes-few : (spans : List Span) → AreSpans spans → bytes spans ≤ 2 ^ 32 * length spans
bytes-few [] are = omega (arith, bytes-none)
bytes-few (x ∷ spans) are =
    let span = All-head IsSpan x spans are in
    let rest = bytes-few spans (All-tail IsSpan x spans are) in
    omega (arith, bytes-cons x spans, rest, span.small)

-- each span lasts a microsecond at least
pub micros-ge : (spans : List Span) → AreSpans spans → length spans ≤ micros spans
micros-ge [] are = omega arith
micros-ge (x ∷ spans) are =
    let span = All-head IsSpan x spans are in
    let rest = micros-ge spans (All-tail IsSpan x spans are) in
    omega (arith, micros-cons x spans, rest, span.lasts)

-- and less than 2^32 of them
pub micros-le : (spans : List Span) → AreSpans spans → micros spans ≤ 2 ^ 32 * length spans
micros-le [] are = omega (arith, micros-none)
micros-le (x ∷ spans) are =
    let span = All-head IsSpan x spans are in
    let rest = micros-le spans (All-tail IsSpan x spans are) in
    omega (arith, micros-cons x spans, rest, span.short)

-- a run of spans lasts some time
pub micros-run : (spans : List Span) (i j : ℕ) → AreSpans spans → IsRun spans i j → 0 < (run spans i j).micros
unfolding run
micros-run spans i j are is =
    let front : List Span = take (j + 1) spans in
    let are_front : AreSpans front = All-take IsSpan (j + 1) spans are in
    let long = micros-ge (drop i front) (All-drop IsSpan i front are_front) in
    omega (arith, long, length-drop i front, length-take (j + 1) spans, is.0, is.1)

-- a run that is one of the spans lasts some time
pub IsOf-lasts : (p : Run → Bool) (spans : List Span) (r : Run) → AreSpans spans → IsOf p spans r → 0 < r.micros
IsOf-lasts p spans r are is =
    let same : r.micros ≡ (run spans r.from r.to).micros = ap (λ (s : Run). s.micros) is.is in
    omega (arith, same, micros-run spans r.from r.to are is.is_run)

-- a run of these sums
abbrev pub sums : ℕ → ℕ → ℕ → ℕ → Run
sums i j b m = record { from = i; to = j; bytes = b; micros = m }

-- a run of these spans
abbrev the_run : ℕ → ℕ → List Span → Run
the_run i j part = sums i j (bytes part) (micros part)

-- runs are equal where their sums are
pub same_runs : (i j b c m n : ℕ) → b ≡ c → m ≡ n → sums i j b m ≡ sums i j c n
same_runs i j b c m n e f = cc

-- and those of one span
pub same_singles : (i j b c m : ℕ) → i ≡ j → b ≡ c → sums i i b m ≡ sums j j c m
same_singles i j b c m e f = cc

-- a span behind changes no run before it
pub run-push : (spans : List Span) (x : Span) (i j : ℕ) → j < length spans → run (spans ++ x ∷ []) i j ≡ run spans i j
unfolding run
run-push spans x i j below =
    ap (λ (front : List Span). the_run i j (drop i front)) (take-append-le (j + 1) spans (x ∷ []) (omega arith))

-- the run of the last span alone
pub run-single : (spans : List Span) (x : Span) →
    run (spans ++ x ∷ []) (length spans) (length spans) ≡ record { from = length spans; to = length spans; bytes = x.size; micros = x.micros }
unfolding run
run-single spans x =
    let n : ℕ = length spans in
    let whole : take (n + 1) (spans ++ x ∷ []) ≡ spans ++ x ∷ [] = take_all (n + 1) (spans ++ x ∷ []) (omega (arith, length-append spans (x ∷ []))) in
    let last : drop n (spans ++ x ∷ []) ≡ x ∷ [] = drop_at spans (x ∷ []) n refl in
    let size : bytes (x ∷ []) ≡ x.size = omega (arith, bytes-cons x [], bytes-none) in
    let time : micros (x ∷ []) ≡ x.micros = omega (arith, micros-cons x [], micros-none) in
    ap (λ (front : List Span). the_run n n (drop n front)) whole
    ∙ ap (λ (part : List Span). the_run n n part) last
    ∙ same_runs n n _ _ _ _ size time

-- a run up to the last span
pub run-last : (spans : List Span) (i j : ℕ) → j + 1 ≡ length spans →
    run spans i j ≡ record { from = i; to = j; bytes = bytes (drop i spans); micros = micros (drop i spans) }
unfolding run
run-last spans i j last = ap (λ (front : List Span). the_run i j (drop i front)) (take_all (j + 1) spans (omega (arith, last)))

-- the first spans and the others
pub micros-split : (spans : List Span) (k : ℕ) → micros (take k spans) + micros (drop k spans) ≡ micros spans
unfolding micros
micros-split spans k = sum_by-take-drop (λ r. r.micros) spans k

-- the spans from an earlier one on last as long or longer
pub micros-drop_le : (spans : List Span) (i k : ℕ) → i ≤ k → micros (drop k spans) ≤ micros (drop i spans)
micros-drop_le spans i k before =
    let place : i + (k - i) ≡ k = omega (arith, before) in
    let same : drop (k - i) (drop i spans) ≡ drop k spans = drop-drop (k - i) i spans ∙ ap (λ (n : ℕ). drop n spans) place in
    omega (arith, micros-split (drop i spans) (k - i), ap micros same)

-- and how long they last at most
pub micros-drop_few : (spans : List Span) (k : ℕ) → AreSpans spans → micros (drop k spans) ≤ 2 ^ 32 * length spans
micros-drop_few spans k are = omega (arith, micros-split spans k, micros-le spans are)
