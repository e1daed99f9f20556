use Rattle.std.proofs.Common.{refl}
use Rattle.bandwidth.proofs.Moves.{AreCandidates-none}
use Rattle.bandwidth.proofs.candidates.Candidates.new.Goals as goal

pub returns : goal.returns
returns c = AreCandidates-none c.args.target _ c.requires refl refl refl refl c.new.ensures.items c.new-2.ensures.items
