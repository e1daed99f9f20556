use Rattle.std.proofs.Common.{◌≡◌, ◌∙◌, ◌+◌, length, slice_get, ap, sym, length-append, arith}
use Rattle.work_desk.proofs.Pushing.{pushed-each}
use Rattle.work_desk.proofs.desk.new_passes.Goals as goal

pub loop-number-preserved : goal.loop-number-preserved
loop-number-preserved g c = (
  omega (arith, c.loop-number.invariant.0, c.split_off.ensures.parts_left),
  omega (arith, c.loop-number.invariant.1, c.split_off.ensures.amount_left),
  ap length c.in_ok-push.ensures.items ∙ (length-append c.loop-number.passes.items _ ∙ ap (λ n. n + 1) c.loop-number.invariant.2),
  λ i pass at. pushed-each (λ k (x : _). (x.number ≡ k) × (x.count ≡ 0)) c.loop-number.passes.items c.new.result c.loop-number.invariant.3
      (c.new.ensures.0 ∙ sym c.loop-number.invariant.2, c.new.ensures.1) i pass (ap (λ l. slice_get l i) (sym c.in_ok-push.ensures.items) ∙ at),
)
