use Rattle.std.proofs.Common.{◌≡◌, ◌+◌, ◌/◌, ◌%◌, ◌∙◌, length, sym, ap, arith}
use Rattle.std.proofs.Math.Nat.{add-div_right, mod-add-mod}
use Rattle.segment_job.proofs.laws.keys_take_turns.Goals as goal

pub returns-clause-next : goal.returns-clause-next
returns-clause-next c = λ r n sound.
    let turn : r.first + (n + r.period) ≡ r.first + n + r.period = omega arith in
    ap (λ t. t / r.period % length r.keys) turn ∙ ap (λ t. t % length r.keys) (add-div_right (r.first + n) sound.turns) ∙ sym (mod-add-mod ((r.first + n) / r.period) (length r.keys) 1)
