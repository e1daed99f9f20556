-- What the calling thread doesn't seal, and why; and what it tells of the gate.
use Rattle.std.proofs.Common.{◌≡◌, ◌∙◌, ◌⊎◌, ◌<◌, ◌≤◌, inl, inr, ℕ, List, refl, sym, subst, arith}
use Rattle.cutter.specs.Plans.{SegmentPlan}
use Rattle.flow_core.specs.Gatherings.{Gathering, awaited}
use Rattle.rounds.proofs.Dues.{lacks-awaited}
use Rattle.ingest.specs.declared.lane.Lane.{Lane}
use Rattle.ladder_items.specs.declared.fault.PackFault.{PackFault}
use Rattle.ladder_items.specs.declared.fault.PackFault.TheVariants.{Held, NoMemory, Settings}
use Rattle.ladder_items.specs.Ladder.{Ladder}
use Rattle.ladder_items.proofs.Unheld.{told-unheld}
use Rattle.ladder_items.specs.Standing.{IsFirstStanding}
use Rattle.rounds.specs.Courses.{SaysSudden}
use Rattle.rounds.specs.Shown.{IsUnbegun}
use Rattle.rounds.specs.Gated.{IsGatesWord, IsHeldBack, IsLeft, IsOwnFault, IsUnheld, IsUnsealed}

-- a held segment and want of memory say nothing of the outlet
held-as : (fault : PackFault) (r n k : ℕ) → fault ≡ Held r n → SaysSudden fault k k
held-as fault r n k is = subst (λ (f : PackFault). SaysSudden f k k) (sym is) refl

pub held-sudden : (stops : ℕ → ℕ → Type 0) (fault : PackFault) (k : ℕ) → IsHeldBack stops fault → SaysSudden fault k k
held-sudden stops fault k held = held-as fault held.0 held.1 k held.2

wanting-sudden : (fault : PackFault) (k : ℕ) → fault ≡ NoMemory → SaysSudden fault k k
wanting-sudden fault k is = subst (λ (f : PackFault). SaysSudden f k k) (sym is) refl

unsealed-sudden : (lets stops : ℕ → ℕ → Type 0) (plan : SegmentPlan) (fault : PackFault) (k : ℕ) → IsUnsealed lets stops plan fault → SaysSudden fault k k
unsealed-sudden lets stops plan fault k (inl held) = held-as fault plan.rendition plan.number k held.0
unsealed-sudden lets stops plan fault k (inr wanting) = wanting-sudden fault k wanting.0

pub offered-sudden : (lets stops : ℕ → ℕ → Type 0) (plan : SegmentPlan) (fault : PackFault) (k : ℕ)
    → (fault ≡ NoMemory) ⊎ IsUnsealed lets stops plan fault → SaysSudden fault k k
offered-sudden lets stops plan fault k (inl wanting) = wanting-sudden fault k wanting
offered-sudden lets stops plan fault k (inr unsealed) = unsealed-sudden lets stops plan fault k unsealed

pub awaited-sudden : (lets stops : ℕ → ℕ → Type 0) (g : Gathering) (fault : PackFault) (k : ℕ)
    → IsHeldBack stops fault ⊎ IsLeft lets stops g fault → SaysSudden fault k k
awaited-sudden lets stops g fault k (inl held) = held-sudden stops fault k held
awaited-sudden lets stops g fault k (inr left) = unsealed-sudden lets stops left.0 fault k left.2

-- what is told of the gate is its own word
held-places : (a b r n : ℕ) → Held a b ≡ Held r n → (a ≡ r) × (b ≡ n)
held-places a b r n is = (cc is, cc is)

held-word-as : (stops : ℕ → ℕ → Type 0) (fault : PackFault) (a b : ℕ) → fault ≡ Held a b → stops a b → IsGatesWord stops fault
held-word-as stops fault a b is stopped r n told =
    let places = held-places a b r n (sym is ∙ told) in
    subst (λ (k : ℕ). stops r k) places.1 (subst (λ (k : ℕ). stops k b) places.0 stopped)

pub held-word : (stops : ℕ → ℕ → Type 0) (fault : PackFault) → IsHeldBack stops fault → IsGatesWord stops fault
held-word stops fault held = held-word-as stops fault held.0 held.1 held.2 held.3

pub none-unheld : (fault : PackFault) → fault ≡ NoMemory → IsUnheld fault
none-unheld fault is r n told = cc (is, told)

pub settings-unheld : (fault : PackFault) → fault ≡ Settings → IsUnheld fault
settings-unheld fault is r n told = cc (is, told)

pub unheld-word : (stops : ℕ → ℕ → Type 0) (fault : PackFault) → IsUnheld fault → IsGatesWord stops fault
unheld-word stops fault unheld r n told = absurd (unheld r n told)

pub none-word : (stops : ℕ → ℕ → Type 0) (fault : PackFault) → fault ≡ NoMemory → IsGatesWord stops fault
none-word stops fault is = unheld-word stops fault (none-unheld fault is)

unsealed-word : (lets stops : ℕ → ℕ → Type 0) (plan : SegmentPlan) (fault : PackFault) → IsUnsealed lets stops plan fault → IsGatesWord stops fault
unsealed-word lets stops plan fault (inl held) = held-word-as stops fault plan.rendition plan.number held.0 held.1
unsealed-word lets stops plan fault (inr wanting) = none-word stops fault wanting.0

pub offered-word : (lets stops : ℕ → ℕ → Type 0) (plan : SegmentPlan) (fault : PackFault)
    → (fault ≡ NoMemory) ⊎ IsUnsealed lets stops plan fault → IsGatesWord stops fault
offered-word lets stops plan fault (inl wanting) = none-word stops fault wanting
offered-word lets stops plan fault (inr unsealed) = unsealed-word lets stops plan fault unsealed

pub awaited-word : (lets stops : ℕ → ℕ → Type 0) (g : Gathering) (fault : PackFault) → IsHeldBack stops fault ⊎ IsLeft lets stops g fault → IsGatesWord stops fault
awaited-word lets stops g fault (inl held) = held-word stops fault held
awaited-word lets stops g fault (inr left) = unsealed-word lets stops left.0 fault left.2

-- nor does the fault of a rendition's end name a segment
pub answered-unheld : (lanes : List Lane) (fault : PackFault) → (fault ≡ NoMemory) ⊎ IsFirstStanding lanes fault → IsUnheld fault
answered-unheld lanes fault (inl wanting) = none-unheld fault wanting
answered-unheld lanes fault (inr first) = λ r n told. told-unheld first.0 first.1.stop fault r n first.3 told

-- nor does that of a run that isn't begun
pub unbegun-unheld : (ladder : Ladder) (inputs workers : ℕ) (counts : List ℕ) (fault : PackFault) → IsUnbegun ladder inputs workers counts fault → IsUnheld fault
unbegun-unheld ladder inputs workers counts fault (inl refused) = settings-unheld fault refused.0
unbegun-unheld ladder inputs workers counts fault (inr wanting) = none-unheld fault wanting.0

-- a fault that names no segment as held back is told for a reason of its own
pub held-own : (stops : ℕ → ℕ → Type 0) (A : Type 0) (fault : PackFault) → IsHeldBack stops fault → IsUnheld fault → A
held-own stops A fault held unheld = absurd (unheld held.0 held.1 held.2)

pub awaited-own : (lets stops : ℕ → ℕ → Type 0) (g h : Gathering) (fault : PackFault) → IsHeldBack stops fault ⊎ IsLeft lets stops h fault → IsOwnFault lets stops g h fault
awaited-own lets stops g h fault (inl held) unheld = held-own stops _ fault held unheld
awaited-own lets stops g h fault (inr left) unheld = inr left

own-less : (m n : ℕ) (A : Type 0) → m ≤ n → (k : ℕ) → (k < m) ⊎ A → (k < n) ⊎ A
own-less m n A less k (inl few) = inl (omega (arith, few, less))
own-less m n A less k (inr other) = inr other

-- also where no more were awaited by then
pub own-then : (lets stops : ℕ → ℕ → Type 0) (f g h : Gathering) (fault : PackFault) → awaited g.sequences ≤ awaited f.sequences
    → IsOwnFault lets stops g h fault → IsOwnFault lets stops f h fault
own-then lets stops f g h fault less own unheld = own-less _ _ _ less _ (own unheld)

-- where a plan is left, segments are awaited
pub left-awaited : (lets stops : ℕ → ℕ → Type 0) (g : Gathering) (fault : PackFault) → IsHeldBack stops fault ⊎ IsLeft lets stops g fault → IsUnheld fault
    → 0 < awaited g.sequences
left-awaited lets stops g fault (inl held) unheld = held-own stops _ fault held unheld
left-awaited lets stops g fault (inr left) unheld = lacks-awaited g left.0.rendition left.0 left.1
