-- Each step keeps the rule of the two copies.
use Rattle.std.proofs.Common.{◌≡◌, ◌≢◌, ℕ, zero, suc, List, [], ◌∷◌, ◌++◌, true, false, true≢false, refl, sym, ◌∙◌, subst, ⊎_elim}
use Rattle.std.proofs.Common.{slice_set}
use mathlib.Core.Option.{some, some-ne-none, some-injective}
use lib.ListN.{get_elem?}
use Rattle.left_right.specs.Register.{Admits, TurnsAt, Forks, Merges}
use Rattle.atomic_table.proofs.Lists.{at_set, at_snoc}
use Rattle.live_board.specs.declared.shown.Shown.{Shown}
use Rattle.live_board.specs.declared.knowledge.Knowledge.{Knowledge}
use Rattle.live_board.proofs.Fronts.{begins_itself, begins-on}
use Rattle.live_board.specs.State.{moment_of, IsLast, nothing_known, knowing, KnowsFront, Holds, GoesOn, Enters, Publishes, all_of_it, informed}

off : {A : Type 0} → false ≡ true → A
off e = absurd (true≢false (sym e))

knows_new : (x : Shown) → KnowsFront x nothing_known
knows_new x e = off e

all_set : (x : Shown) (views : List Knowledge) (by : ℕ) (w : Knowledge) → ((j : ℕ) (u : Knowledge) → get_elem? views j ≡ some u → KnowsFront x u) → KnowsFront x w → (j : ℕ) (u : Knowledge) → get_elem? (slice_set views by w) j ≡ some u → KnowsFront x u
all_set x views by w others mine j u e =
    ⊎_elim
    (λ (t : (j ≡ by) × (w ≡ u)). subst (KnowsFront x) t.1 mine)
    (λ (t : (j ≢ by) × (get_elem? views j ≡ some u)). others j u t.1)
    (at_set views by j w u e)

all_snoc : (x : Shown) (views : List Knowledge) (w : Knowledge) → ((j : ℕ) (u : Knowledge) → get_elem? views j ≡ some u → KnowsFront x u) → KnowsFront x w → (j : ℕ) (u : Knowledge) → get_elem? (views ++ w ∷ []) j ≡ some u → KnowsFront x u
all_snoc x views w others mine j u e = ⊎_elim (λ was. others j u was) (λ (is : w ≡ u). subst (KnowsFront x) is mine) (at_snoc views w u j e)

pub admits : Admits Holds nothing_known
admits x views k = (k.0, all_snoc x views nothing_known k.1 (knows_new x))

knows_all : (x : Shown) → KnowsFront x (knowing (moment_of x).history)
knows_all x e = (refl, begins_itself (moment_of x).history.list)

pub enters : (by : ℕ) (v : Knowledge) (x : Shown) → TurnsAt Holds by v x x Enters
enters by v x views k at = let w = knowing (moment_of x).history in (w, (k.0, all_set x views by w k.1 (knows_all x)), (refl, k.0, k.1 by v at))

-- what is known, the board has shown at a later moment too
knows_on : (x y : Shown) → GoesOn (moment_of x) (moment_of y) → (v : Knowledge) → KnowsFront x v → KnowsFront y v
knows_on x y on v k e = let was = k e in (on.0 ∙ was.0, begins-on v.history.list (moment_of x).history.list (moment_of y).history.list was.1 on.1)

-- the writer may show a moment that goes on from the one before
pub publishes : (by : ℕ) (v : Knowledge) (x y : Shown) → IsLast (moment_of y) → GoesOn (moment_of x) (moment_of y) → TurnsAt Holds by v x y Publishes
publishes by v x y last on views k at =
    let w : Knowledge = knowing (moment_of y).history in
    (w, (last, all_set y views by w (λ j u e. knows_on x y on u (k.1 j u e)) (knows_all y)), refl)

pub forks : (by : ℕ) (v : Knowledge) → Forks Holds by v (all_of_it v) (all_of_it v)
forks by v x views k at = (k.0, all_snoc x (slice_set views by v) v (all_set x views by v k.1 (k.1 by v at)) (k.1 by v at))

pub merges : (by : ℕ) (v : Knowledge) (other : ℕ) (w : Knowledge) → Merges Holds by v other w (informed v w) nothing_known
merges by v other w x views k at apart there =
    let mine = ⊎_elim (λ (t : (other ≡ by) × (w ≡ w)). absurd (apart t.0)) (λ (t : (other ≢ by) × (get_elem? views other ≡ some w)). k.1 other w t.1) (at_set views by other w w there) in
    (k.0, all_set x (slice_set views by w) other nothing_known (all_set x views by w k.1 mine) (knows_new x))

pub opens : (x : Shown) → IsLast (moment_of x) → Holds x (nothing_known ∷ [])
opens x last = (last, one)
  where
    one : (by : ℕ) (v : Knowledge) → get_elem? (nothing_known ∷ []) by ≡ some v → KnowsFront x v
    one zero v e = subst (KnowsFront x) (some-injective _ _ e) (knows_new x)
    one (suc by) v e = absurd (some-ne-none v (sym e))
