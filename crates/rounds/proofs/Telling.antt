-- Faults are told when they stand.
use Rattle.std.proofs.Common.{◌≡◌, ◌∙◌, ◌⊎◌, inl, inr, Bool, true, false, ℕ, zero, suc, ◌+◌, ◌<◌, ◌≤◌, List, length, replicate, Option, Some, None, refl, ap, sym, subst, arith}
use Rattle.std.specs.List.{slice_get, slice_index_or, slice_set}
use Rattle.std.proofs.lemmas.Bool.{cases_eq}
use Rattle.std.proofs.lemmas.List.{get_or-set_same, get_or-set_other}
use Rattle.std.proofs.lemmas.Option.{same_Some, slice_get_within}
use Rattle.ingest.specs.declared.lane.Lane.{Lane}
use Rattle.ingest.specs.declared.lane.Stop.{Stop}
use Rattle.ingest.specs.declared.fault.StreamFault.{StreamFault}
use Rattle.ingest.specs.declared.fault.StreamFault.TheVariants.{NoProgram as HasNoProgram, NoStart as HasNoStart, LongSegment as IsLong, BigSegment as IsBig, Limit as PassesLimit}
use Rattle.ingest.specs.declared.lane.Stop.TheVariants.{Good, Cut, Read as ReadFailed}
use Rattle.ladder_items.specs.declared.fault.PackFault.{PackFault}
use Rattle.ladder_items.specs.declared.fault.PackFault.TheVariants.{NoMemory, ReadLimit}
use Rattle.ladder_items.specs.Packed.{told_of, told_of_cut}
use Rattle.ladder_items.specs.Standing.{IsFirstStanding}
use Rattle.ladder_items.proofs.Elsewhere.{some-at}
use Rattle.rounds.specs.Courses.{SaysSudden, StayStopped}
use Rattle.rounds.specs.Heralds.{AllHeard, AreHeard, IsHeard, IsHeardOf, fault_of, TellsAll, TellsOne, Untold}

none-some : {A B : Type 0} (x : A) (o : Option A) → o ≡ Some x → o ≡ None → B
none-some x o some none = cc

pub tells-new : (was_told : PackFault → Type 0) (told now : List Bool) (r : ℕ) (stop : Option Stop) (fault : PackFault) → Untold told r stop fault → now ≡ slice_set told r true → r < length told → was_told fault → TellsOne was_told told r stop now
tells-new was_told told now r stop fault new is within heard = record {
  tells = λ f untold. subst was_told (same_Some _ _ (sym new.stands ∙ untold.stands)) heard;
  stands = λ f e. ap (λ l. slice_index_or l r true) is ∙ get_or-set_same told r true true within;
  none = λ none. none-some fault _ new.stands none;
  others = λ k other. ap (λ l. slice_index_or l k true) is ∙ get_or-set_other told r k true true other;
}

stood : (b : Bool) → (b ≡ false → ⊥) → b ≡ true
stood true not = refl
stood false not = absurd (not refl)

pub tells-old : (was_told : PackFault → Type 0) (told now : List Bool) (r : ℕ) (stop : Option Stop) → (slice_index_or told r true ≡ false → fault_of r stop ≡ None) → now ≡ told → TellsOne was_told told r stop now
tells-old was_told told now r stop old is = record {
  tells = λ f untold. none-some f _ untold.stands (old untold.new);
  stands = λ f e. ap (λ l. slice_index_or l r true) is ∙ stood (slice_index_or told r true) (λ no. none-some f _ e (old no));
  none = λ none. is;
  others = λ k other. ap (λ l. slice_index_or l k true) is;
}

pub tells-none : (was_told : PackFault → Type 0) (told : List Bool) (lanes : List Lane) → TellsAll was_told 0 told lanes told
tells-none was_told told lanes = record { tells = λ k lane fault below at untold. absurd (omega (arith, below)); stands = λ k has. absurd (omega (arith, has.2)); others = λ k none. refl }

not-here : (r : ℕ) (o : Option PackFault) → ((fault : PackFault) → o ≡ Some fault → ⊥) → o ≡ None
not-here r None none = refl
not-here r (Some fault) none = absurd (none fault refl)

-- one rendition more
pub tells-more : (was_told : PackFault → Type 0) (n m : ℕ) (told mid now : List Bool) (lanes : List Lane) (lane : Lane) → slice_get lanes n ≡ Some lane → m ≡ n + 1
    → TellsAll was_told n told lanes mid → TellsOne was_told mid n lane.stop now → TellsAll was_told m told lanes now
tells-more was_told n m told mid now lanes lane at is before one = record {
  tells = λ k l fault below at_k untold.
      elim (cases_eq k n) as (λ _. was_told fault) [
        | inl q ↦
            let same : lane ≡ l = same_Some _ _ (sym at ∙ (ap (slice_get lanes) (sym q) ∙ at_k)) in
            let stands : fault_of n lane.stop ≡ Some fault = ap (λ (m : Lane). fault_of n m.stop) same ∙ (ap (λ (j : ℕ). fault_of j l.stop) (sym q) ∙ untold.stands) in
            let earlier : slice_index_or mid k true ≡ slice_index_or told k true = before.others k (λ has. absurd (omega (arith, has.2, q))) in
            one.tells fault (record { stands = stands; new = ap (λ (j : ℕ). slice_index_or mid j true) (sym q) ∙ (earlier ∙ untold.new) })
        | inr q ↦ before.tells k l fault (omega (arith, below, is, q)) at_k untold
      ];
  stands = λ k has.
      elim (cases_eq k n) as (λ _. slice_index_or now k true ≡ true) [
        | inl q ↦
            let here : slice_get lanes n ≡ Some has.0 = subst (λ (j : ℕ). slice_get lanes j ≡ Some has.0) q has.3 in
            let same : has.0 ≡ lane = same_Some _ _ (sym here ∙ at) in
            let fault : fault_of n lane.stop ≡ Some has.1 = ap (λ (l : Lane). fault_of n l.stop) (sym same) ∙ (ap (λ (j : ℕ). fault_of j has.0.stop) (sym q) ∙ has.4) in
            ap (λ (j : ℕ). slice_index_or now j true) q ∙ one.stands has.1 fault
        | inr q ↦ one.others k q ∙ before.stands k (has.0, has.1, omega (arith, has.2, is, q), has.3, has.4)
      ];
  others = λ k none.
      let earlier = before.others k (λ has. none (has.0, has.1, omega (arith, has.2, is), has.3, has.4)) in
      elim (cases_eq k n) as (λ _. slice_index_or now k true ≡ slice_index_or told k true) [
        | inl q ↦
            let here : slice_get lanes k ≡ Some lane = ap (slice_get lanes) q ∙ at in
            let no : fault_of k lane.stop ≡ None = not-here k (fault_of k lane.stop) (λ fault e. none (lane, fault, omega (arith, q, is), here, e)) in
            let unmoved = one.none (ap (λ (j : ℕ). fault_of j lane.stop) (sym q) ∙ no) in
            ap (λ l. slice_index_or l k true) unmoved ∙ earlier
        | inr q ↦ one.others k q ∙ earlier
      ];
}

-- past the last one there is none
pub tells-past : (was_told : PackFault → Type 0) (n m : ℕ) (told now : List Bool) (lanes : List Lane) → ((k : ℕ) (lane : Lane) → slice_get lanes k ≡ Some lane → k < m → k < n) → n < m + 1 → TellsAll was_told n told lanes now → TellsAll was_told m told lanes now
tells-past was_told n m told now lanes past less all = record {
  tells = λ k lane fault below at untold. all.tells k lane fault (past k lane at below) at untold;
  stands = λ k has. all.stands k (has.0, has.1, past k has.0 has.3 has.2, has.3, has.4);
  others = λ k none. all.others k (λ has. none (has.0, has.1, omega (arith, has.2, less), has.3, has.4));
}

false-true : {A : Type 0} → false ≡ true → A
false-true e = cc

replicated : (n k : ℕ) → k < n → slice_index_or (replicate n false) k true ≡ false
replicated zero k below = absurd (omega (arith, below))
replicated (suc n) zero below = refl
replicated (suc n) (suc k) below = replicated n k (omega (arith, below))

-- none counts as told yet
pub heard-none : (was_told : PackFault → Type 0) (n : ℕ) (lanes : List Lane) → AreHeard was_told n (replicate n false) lanes
heard-none was_told n lanes k lane below at is = false-true (sym (replicated n k below) ∙ is)

-- all faults that stand were told now, or before
told-by : (was_told : PackFault → Type 0) (n k : ℕ) (told now : List Bool) (lanes : List Lane) (lane : Lane) → k < n → slice_get lanes k ≡ Some lane → TellsAll was_told n told lanes now
    → AreHeard was_told n told lanes → slice_index_or now k true ≡ true → (o : Option PackFault) → fault_of k lane.stop ≡ o → (b : Bool) → slice_index_or told k true ≡ b → IsHeard was_told k lane.stop
told-by was_told n k told now lanes lane below at all heard is o stop true known = heard k lane below at known
told-by was_told n k told now lanes lane below at all heard is None stop false known =
    false-true (sym known ∙ (sym (all.others k (λ has. none-some has.1 _ (ap (λ (l : Lane). fault_of k l.stop) (same_Some _ _ (sym at ∙ has.3)) ∙ has.4) stop)) ∙ is))
told-by was_told n k told now lanes lane below at all heard is (Some fault) stop false known =
    record { fault = fault; stands = stop; heard = all.tells k lane fault below at (record { stands = stop; new = known }) }

pub heard-told : (was_told : PackFault → Type 0) (n : ℕ) (told now : List Bool) (lanes : List Lane) → TellsAll was_told n told lanes now → AreHeard was_told n told lanes → AreHeard was_told n now lanes
heard-told was_told n told now lanes all heard k lane below at is = told-by was_told n k told now lanes lane below at all heard is _ refl _ refl

-- a rendition that stopped by a fault has stopped
has-stopped : (k : ℕ) (stop : Option Stop) (fault : PackFault) → fault_of k stop ≡ Some fault → stop ≡ None → ⊥
has-stopped k None fault e none = cc
has-stopped k (Some stop) fault e none = cc

-- what was told stays so while others are read
pub heard-stayed : (was_told : PackFault → Type 0) (n : ℕ) (told : List Bool) (old new : List Lane) → length new ≡ length old → StayStopped old new
    → AreHeard was_told n told old → AreHeard was_told n told new
heard-stayed was_told n told old new same stay heard k lane below at is =
    let was = some-at old k (omega (arith, slice_get_within new k lane at, same)) in
    let h = heard k was.0 below was.1 is in
    let s = stay k was.0 was.1 (has-stopped k was.0.stop h.fault h.stands) in
    subst (λ (l : Lane). IsHeard was_told k l.stop) (same_Some _ _ (sym s.1 ∙ at)) (subst (λ (stop : Option Stop). IsHeard was_told k stop) (sym s.2) h)

-- all faults that stand were told
pub heard-all : (was_told : PackFault → Type 0) (n : ℕ) (told now : List Bool) (lanes : List Lane) → length lanes ≤ n → TellsAll was_told n told lanes now → AreHeard was_told n told lanes
    → AllHeard was_told lanes
heard-all was_told n told now lanes few all heard k lane fault at stands =
    let below : k < n = omega (arith, slice_get_within lanes k lane at, few) in
    let h = heard-told was_told n told now lanes all heard k lane below at (all.stands k (lane, fault, below, at, stands)) in
    subst was_told (same_Some _ _ (sym h.stands ∙ stands)) h.heard

-- swapping spools changes no stop
pub heard-swapped : (was_told : PackFault → Type 0) (n m : ℕ) (told : List Bool) (old new : List Lane) → length new ≡ length old → length old ≡ m
    → ((k : ℕ) (lane now : Lane) → k < m → slice_get old k ≡ Some lane → slice_get new k ≡ Some now → now.stop ≡ lane.stop)
    → AreHeard was_told n told old → AreHeard was_told n told new
heard-swapped was_told n m told old new same all stops heard k lane below at is =
    let within : k < length old = omega (arith, slice_get_within new k lane at, same) in
    let was = some-at old k within in
    subst (λ (stop : Option Stop). IsHeard was_told k stop) (sym (stops k was.0 lane (omega (arith, within, all)) was.1 at)) (heard k was.0 below was.1 is)

-- a fault that stops a run at once is none of a rendition
sudden-cut : {A : Type 0} (k a b : ℕ) (told : StreamFault) → SaysSudden (told_of_cut k told) a b → A
sudden-cut k a b HasNoProgram says = absurd says
sudden-cut k a b HasNoStart says = absurd says
sudden-cut k a b (IsLong n) says = absurd says
sudden-cut k a b (IsBig n) says = absurd says
sudden-cut k a b PassesLimit says = absurd says

sudden-stop : {A : Type 0} (k a b : ℕ) (fault : PackFault) (stop : Stop) → SaysSudden fault a b → fault_of k (Some stop) ≡ Some fault → A
sudden-stop k a b fault (Good gone) says e = cc
sudden-stop k a b fault (Cut told) says e = sudden-cut k a b told (subst (λ (f : PackFault). SaysSudden f a b) (sym (same_Some _ _ e)) says)
sudden-stop k a b fault ReadFailed says e = absurd (subst (λ (f : PackFault). SaysSudden f a b) (sym (same_Some _ _ e)) says)

pub heard-sudden : (was_told : PackFault → Type 0) (fault : PackFault) (a b : ℕ) → SaysSudden fault a b → IsHeardOf was_told fault
heard-sudden was_told fault a b says k stop e = sudden-stop k a b fault stop says e

-- nor are too many reads
limit-cut : {A : Type 0} (r k : ℕ) (told : StreamFault) → told_of_cut k told ≡ ReadLimit r → A
limit-cut r k HasNoProgram e = cc
limit-cut r k HasNoStart e = cc
limit-cut r k (IsLong n) e = cc
limit-cut r k (IsBig n) e = cc
limit-cut r k PassesLimit e = cc

limit-stop : {A : Type 0} (r k : ℕ) (stop : Stop) → fault_of k (Some stop) ≡ Some (ReadLimit r) → A
limit-stop r k (Good gone) e = cc
limit-stop r k (Cut told) e = limit-cut r k told (same_Some _ _ e)
limit-stop r k ReadFailed e = cc

standing-by : (was_told : PackFault → Type 0) (r : ℕ) (lane : Lane) (fault : PackFault) (stopped : Option Stop) → lane.stop ≡ stopped → told_of r stopped ≡ Some fault
    → (fault_of r stopped ≡ Some fault → was_told fault) → IsHeardOf was_told fault
standing-by was_told r lane fault None is told heard k stop e = limit-stop r k stop (e ∙ sym told)
standing-by was_told r lane fault (Some s) is told heard k stop e = heard told

pub heard-answered : (was_told : PackFault → Type 0) (lanes : List Lane) (fault : PackFault) → AllHeard was_told lanes → (fault ≡ NoMemory) ⊎ IsFirstStanding lanes fault → IsHeardOf was_told fault
heard-answered was_told lanes fault heard (inl wanting) = subst (IsHeardOf was_told) (sym wanting) (heard-sudden was_told NoMemory 0 0 refl)
heard-answered was_told lanes fault heard (inr first) =
    standing-by was_told first.0 first.1 fault first.1.stop refl first.3 (λ stands. heard first.0 first.1 fault first.2 stands)
