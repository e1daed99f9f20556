-- What is done at a desk may be sealed.
use Rattle.std.proofs.Common.{◌≡◌, ℕ, suc, [], Option, Some, None, IfSome, IfNone, sym, subst, arith}
use Rattle.flow_core.specs.Queues.{QueueValue}
use Rattle.flow_core.specs.Steps.{Delivered, IsFirst}
use Rattle.work_desk.specs.Permits.{ArePermitted}

-- what is left once the first was taken, or nothing, may be
pub done-left : (permits : ℕ → ℕ → Type 0) (taken : Option Delivered) (old new : QueueValue) → IfSome taken (λ delivery. IsFirst delivery old.done new.done)
    → IfNone taken ((new ≡ old) × (old.done ≡ [])) → ArePermitted permits old.done → ArePermitted permits new.done
done-left permits (Some delivery) old new first none all = λ k d below. subst (ArePermitted permits) first.stands all (suc k) d (omega (arith, below))
done-left permits None old new first none all = subst (λ (q : QueueValue). ArePermitted permits q.done) (sym none.0) all
