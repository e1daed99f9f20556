use Rattle.std.proofs.Common.{refl}
use Rattle.bandwidth.proofs.Moves.{AreCandidates-walked}
use Rattle.bandwidth.proofs.candidates.Candidates.look_at_starts.Goals as goal

pub returns-clause-candidates : goal.returns-clause-candidates
returns-clause-candidates c =
    AreCandidates-walked c.args._target c.args._spans.now.items c.args.best c.walk-head.result.1 c.args.self.now _ c.walk-head.result.0 c.requires.candidates c.requires.best
    c.walk-head.ensures.best c.walk-head.ensures.low c.walk-head.ensures.high c.walk-head.ensures.spent refl refl refl refl refl refl
