-- The computed times are the times, and there is one list of them.
use Rattle.std.proofs.Common.{◌≡◌, ℕ, ◌+◌, ◌<◌, ◌≤◌, ◌^◌, List, [], ◌∷◌, refl, sym, ◌∙◌, arith, pos, ℤ, ◌+ℤ◌, ◌-ℤ◌, ◌*ℤ◌, ◌≤ℤ◌, ◌<ℤ◌, nat_lt, nat_le, if◌then◌else◌}
use Rattle.std.proofs.lemmas.Int.{ints}
use Rattle.std.proofs.lemmas.Bool.Decides.{nat_tests}
use Rattle.std.proofs.lemmas.List.Elements.{All-head, All-tail}
use Rattle.pes_time.specs.Times.{IsNext, AreNext, AreTimes, ArePts, step, times, times_from}

-- one time follows
IsNext-once : (before : ℤ) (p : ℕ) (u v : ℤ) → IsNext before p u → IsNext before p v → u ≡ v
IsNext-once before p u v a b =
    let from_u : before ≤ℤ (u +ℤ pos (2 ^ 32)) = a.from in
    let from_v : before ≤ℤ (v +ℤ pos (2 ^ 32)) = b.from in
    let below_u : u <ℤ (before +ℤ pos (2 ^ 32)) = a.below in
    let below_v : v <ℤ (before +ℤ pos (2 ^ 32)) = b.below in
    let turns_u : u ≡ pos p +ℤ (a.congruent.0 *ℤ pos (2 ^ 33)) = a.congruent.1 in
    let turns_v : v ≡ pos p +ℤ (b.congruent.0 *ℤ pos (2 ^ 33)) = b.congruent.1 in
    omega (arith, ints)

-- a time moved by a step follows, in each of the three cases
abbrev Follows : ℤ → ℕ → ℤ → Type 0
Follows before p moved = IsNext before p (before +ℤ moved)

-- a turn is taken off
back : (u : ℤ) (q p : ℕ) (turns : ℤ) → q < 2 ^ 33 → p < 2 ^ 33 → u ≡ pos q +ℤ (turns *ℤ pos (2 ^ 33)) → q + 2 ^ 32 ≤ p →
    Follows u p (pos p -ℤ pos q -ℤ pos (2 ^ 33))
back u q p turns small_q small_p is far = record { congruent = (turns -ℤ pos 1, omega (arith, ints)); from = omega (arith, ints); below = omega (arith, ints) }

-- a turn is added
on : (u : ℤ) (q p : ℕ) (turns : ℤ) → q < 2 ^ 33 → p < 2 ^ 33 → u ≡ pos q +ℤ (turns *ℤ pos (2 ^ 33)) → p + 2 ^ 32 < q →
    Follows u p (pos p -ℤ pos q +ℤ pos (2 ^ 33))
on u q p turns small_q small_p is far = record { congruent = (turns +ℤ pos 1, omega (arith, ints)); from = omega (arith, ints); below = omega (arith, ints) }

-- neither
same : (u : ℤ) (q p : ℕ) (turns : ℤ) → u ≡ pos q +ℤ (turns *ℤ pos (2 ^ 33)) → p < q + 2 ^ 32 → q ≤ p + 2 ^ 32 →
    Follows u p (pos p -ℤ pos q)
same u q p turns is not_back not_on = record { congruent = (turns, omega (arith, ints)); from = omega (arith, ints); below = omega (arith, ints) }

-- what holds in both cases of a test
by_le : (P : ℤ → Type 0) (m n : ℕ) (x y : ℤ) → (m ≤ n → P x) → (n < m → P y) → P (if nat_le m n then x else y)
by_le P m n x y first second = grind (arith, nat_tests)

-- the same for the strict test
by_lt : (P : ℤ → Type 0) (m n : ℕ) (x y : ℤ) → (m < n → P x) → (n ≤ m → P y) → P (if nat_lt m n then x else y)
by_lt P m n x y first second = grind (arith, nat_tests)

-- a time moved by the step of its PTS follows
IsNext-step : (u : ℤ) (q p : ℕ) (turns : ℤ) → q < 2 ^ 33 → p < 2 ^ 33 → u ≡ pos q +ℤ (turns *ℤ pos (2 ^ 33)) →
    Follows u p (step q p)
IsNext-step u q p turns small_q small_p is =
    by_le (Follows u p) (q + 2 ^ 32) p _ _ (λ far. back u q p turns small_q small_p is far)
    (λ not_back. by_lt (Follows u p) (p + 2 ^ 32) q _ _ (λ far. on u q p turns small_q small_p is far) (λ not_on. same u q p turns is not_back not_on))

-- the computed times behind a time follow one another
AreNext-times_from : (u : ℤ) (q : ℕ) (turns : ℤ) (list : List ℕ) → q < 2 ^ 33 → u ≡ pos q +ℤ (turns *ℤ pos (2 ^ 33)) →
    ArePts list → AreNext u list (times_from u q list)
unfolding times_from
AreNext-times_from u q turns [] small is pts = tt
AreNext-times_from u q turns (p ∷ list) small is pts =
    let small_p = All-head (λ r. r < 2 ^ 33) p list pts in
    let next = IsNext-step u q p turns small small_p is in
    (next, AreNext-times_from (u +ℤ step q p) p next.congruent.0 list small_p next.congruent.1 (All-tail (λ r. r < 2 ^ 33) p list pts))

-- the computed times are the times
pub AreTimes-times : (list : List ℕ) → ArePts list → AreTimes list (times list)
unfolding times
AreTimes-times [] pts = tt
AreTimes-times (p ∷ list) pts =
    (refl, AreNext-times_from (pos p) p (pos 0) list (All-head (λ r. r < 2 ^ 33) p list pts) (omega (arith, ints)) (All-tail (λ r. r < 2 ^ 33) p list pts))

-- one list of times follows a time
AreNext-once : (before : ℤ) (list : List ℕ) (us vs : List ℤ) → AreNext before list us → AreNext before list vs → us ≡ vs
AreNext-once before [] [] [] a b = refl
AreNext-once before [] [] (v ∷ vs) a b = absurd b
AreNext-once before [] (u ∷ us) vs a b = absurd a
AreNext-once before (p ∷ list) [] vs a b = absurd a
AreNext-once before (p ∷ list) (u ∷ us) [] a b = absurd b
AreNext-once before (p ∷ list) (u ∷ us) (v ∷ vs) a b =
    let e = IsNext-once before p u v a.0 b.0 in
    let rest : AreNext u list vs = rw e b.1 in
    let f = AreNext-once u list us vs a.1 rest in
    cc

-- there is one list of them
pub AreTimes-once : (list : List ℕ) (us vs : List ℤ) → AreTimes list us → AreTimes list vs → us ≡ vs
AreTimes-once [] [] [] a b = refl
AreTimes-once [] [] (v ∷ vs) a b = absurd b
AreTimes-once [] (u ∷ us) vs a b = absurd a
AreTimes-once (p ∷ list) [] vs a b = absurd a
AreTimes-once (p ∷ list) (u ∷ us) [] a b = absurd b
AreTimes-once (p ∷ list) (u ∷ us) (v ∷ vs) a b =
    let e : u ≡ v = a.0 ∙ sym b.0 in
    let rest : AreNext u list vs = rw e b.1 in
    let f = AreNext-once u list us vs a.1 rest in
    cc
