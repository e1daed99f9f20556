use Rattle.ladder_items.proofs.RowsBefore.{AreNextUpTo}
use Rattle.ladder_items.proofs.earlier.follow.Given as goal

abbrev pub invariant-loop-i : goal.invariant-loop-i
invariant-loop-i l = AreNextUpTo l.target l.first l.rows l.i
