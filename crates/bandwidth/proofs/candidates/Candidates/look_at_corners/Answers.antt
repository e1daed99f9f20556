use Rattle.std.proofs.Common.{refl}
use Rattle.bandwidth.proofs.Moves.{AreCandidates-cornered}
use Rattle.bandwidth.proofs.candidates.Candidates.look_at_corners.Goals as goal

pub returns-clause-candidates : goal.returns-clause-candidates
returns-clause-candidates c =
    AreCandidates-cornered c.args._target c.args._spans.now.items c.args.best c.walk_corners.result c.args.self.now _ c.walk_corners.new.back.corners.items c.requires.candidates c.requires.best
    c.walk_corners.ensures.best c.walk_corners.ensures.chain c.walk_corners.ensures.spent refl refl refl refl refl c.walk_corners.ensures.until
