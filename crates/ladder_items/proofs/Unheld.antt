-- Faults that name no segment as held back.
use Rattle.std.proofs.Common.{◌≡◌, ℕ, Option, Some, None, subst}
use Rattle.ingest.specs.declared.lane.Stop.{Stop}
use Rattle.ingest.specs.declared.lane.Stop.TheVariants.{Good, Cut, Read as ReadFailed}
use Rattle.ingest.specs.declared.fault.StreamFault.TheVariants.{NoProgram as HasNoProgram, NoStart as HasNoStart, LongSegment as IsLong, BigSegment as IsBig, Limit as PassesLimit}
use Rattle.ladder_items.specs.declared.fault.PackFault.{PackFault}
use Rattle.ladder_items.specs.declared.fault.PackFault.TheVariants.{Held as HeldBack}
use Rattle.ladder_items.specs.Putting.{SaysFailures}
use Rattle.ladder_items.specs.Packed.{told_of}

-- a fault that stops a run at once is told of no segment
pub sudden-unheld : (e : PackFault) (f g r n : ℕ) → SaysFailures e f g → e ≡ HeldBack r n → ⊥
sudden-unheld e f g r n says is = subst (λ (d : PackFault). SaysFailures d f g) is says

-- nor is a fault that a rendition's end is told by
pub told-unheld : (k : ℕ) (stop : Option Stop) (e : PackFault) (r n : ℕ) → told_of k stop ≡ Some e → e ≡ HeldBack r n → ⊥
told-unheld k None e r n told is = cc
told-unheld k (Some (Good gone)) e r n told is = cc
told-unheld k (Some ReadFailed) e r n told is = cc
told-unheld k (Some (Cut HasNoProgram)) e r n told is = cc
told-unheld k (Some (Cut HasNoStart)) e r n told is = cc
told-unheld k (Some (Cut (IsLong m))) e r n told is = cc
told-unheld k (Some (Cut (IsBig m))) e r n told is = cc
told-unheld k (Some (Cut PassesLimit)) e r n told is = cc
