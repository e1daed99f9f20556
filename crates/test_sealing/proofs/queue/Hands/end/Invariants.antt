use Rattle.test_sealing.proofs.queue.Hands.end.Given as goal

abbrev pub invariant-loop-claim : goal.invariant-loop-claim
invariant-loop-claim g l = Unit {0}

abbrev pub decreases-loop-claim : goal.decreases-loop-claim
decreases-loop-claim g l = goal.left-loop-claim g l
