use Rattle.std.proofs.Common.{◌≡◌, ◌≤◌, All, length, vec_len, vec_capacity}
use Rattle.left_right.specs.Sides.{view as known_by}
use Rattle.live_board.proofs.steps.new_viewers.Given as goal

abbrev pub invariant-loop : goal.invariant-loop
invariant-loop l = (l.writer.desk.shown ≡ l.fn.writer.desk.shown) × (known_by l.writer.desk.place ≡ known_by l.fn.writer.desk.place) × (length l.all.items ≡ l.counter) × (vec_len l.all ≡ l.counter) × (l.fn.viewers ≤ vec_capacity l.all) × All (λ v. v ≡ l.fn.history) l.all.items
