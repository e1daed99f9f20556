use Rattle.rounds.proofs.round.scoped.fn.in_scope.scope.Given as goal

abbrev pub invariant-loop-pass : goal.invariant-loop-pass
invariant-loop-pass g l = Unit {0}
