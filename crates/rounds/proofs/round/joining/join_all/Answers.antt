use Rattle.std.proofs.Common.{◌≡◌, ◌∙◌, ◌<◌, length, arith}
use Rattle.std.specs.List.{slice_index_or}
use Rattle.std.proofs.lemmas.List.{get_or-set_other, length-set}
use Rattle.std.proofs.lemmas.List.Sums.{sum_by-set}
use Rattle.rounds.proofs.round.joining.join_all.Goals as goal

pub loop-child-preserved : goal.loop-child-preserved
loop-child-preserved g c =
    let n = c.len.result in
    let count = c.join-count.result.claims in
    let claims = c.loop-child.claims in
    let before = c.loop-child.invariant in
    let popped = c.in-Some.ensures in
    let inside : n < length claims = omega (arith, before.few, popped.len, c.len.ensures) in
    let zero : slice_index_or claims n 0 ≡ 0 = before.none n (omega (arith, popped.len, c.len.ensures)) in
    record {
      parts = omega (arith, before.parts, c.merge.ensures.parts, c.join-count.result.one_part, popped.len);
      amount = omega (arith, before.amount, c.merge.ensures.amount, c.join-count.result.counted, zero, sum_by-set (λ k. k) claims n count 0 inside);
      each = length-set claims n count ∙ before.each;
      few = omega (arith, before.few, popped.len, length-set claims n count);
      none = λ k below. get_or-set_other claims n k count 0 (λ q. absurd (omega (arith, below, q, c.len.ensures))) ∙ before.none k (omega (arith, below, popped.len));
    }
