-- Which media playlists are noted.
use Rattle.std.proofs.Common.{◌≡◌, ◌<◌, ◌≤◌, ◌⊎◌, ◌^◌, ◌-◌, ℕ, List, [], ◌∷◌, Err, IsErrOf, Ok, Result, inl, inr, ap, arith, length}
use Rattle.retention.specs.declared.step.Step.{Step}
use Rattle.retention.specs.Steps.{first_of}
use Rattle.keeping.specs.Keepings.{ComesNext, GoesOn, IsStepOf, KeepingValue}

abbrev fault_or : {T E : Type 0} → E → Result T E → E
fault_or d (Ok x) = d
fault_or d (Err e) = e

-- a fault is the same one of another result
pub same_fault : {T U E : Type 0} (e f : E) → IsErrOf {T = T} {E = E} (Err e) f → IsErrOf {T = U} {E = E} (Err e) f
same_fault e f is = ap Err (ap (fault_or e) is)

-- what begins no earlier than any playlist does so no earlier than the last
last_rises : (steps : List Step) (first : ℕ) → ((i : ℕ) → i < length steps → first_of steps i ≤ first) → first_of steps (length steps - 1) ≤ first
last_rises [] first rises = omega arith
last_rises (s ∷ steps) first rises = rises (length (s ∷ steps) - 1) (omega arith)

-- a playlist whose one step begins earlier than the last one doesn't go on from those that were told
pub no_earlier : (k : KeepingValue) (text : List ℕ) (step : Step) (low : ℕ) → ((other : Step) → IsStepOf k.base text other → other ≡ step)
    → low ≡ first_of k.kept.steps (length k.kept.steps - 1) → step.first < low → GoesOn k text → ⊥
no_earlier k text step low one is less on =
    let same : on.step.first ≡ step.first = ap (λ (s : Step). s.first) (one on.step on.is_step) in
    let last = last_rises k.kept.steps on.step.first on.rises in
    absurd (omega (arith, same, is, less, last))

-- nor does one come next that begins earlier, or behind the next segment, or where there are too many
pub no_next : (k : KeepingValue) (text : List ℕ) (step : Step) (low : ℕ) → ((other : Step) → IsStepOf k.base text other → other ≡ step)
    → low ≡ first_of k.kept.steps (length k.kept.steps - 1) → (step.first < low) ⊎ (length k.kept.steps < step.first) ⊎ (2 ^ 52 ≤ length k.kept.steps)
    → ComesNext k text → ⊥
no_next k text step low one is (inl less) next =
    let same : next.step.first ≡ step.first = ap (λ (s : Step). s.first) (one next.step next.is_step) in
    absurd (omega (arith, same, is, less, next.rises))
no_next k text step low one is (inr (inl more)) next =
    let same : next.step.first ≡ step.first = ap (λ (s : Step). s.first) (one next.step next.is_step) in
    absurd (omega (arith, same, more, next.listed))
no_next k text step low one is (inr (inr many)) next = absurd (omega (arith, many, next.few))
