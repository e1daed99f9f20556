use Rattle.bandwidth.proofs.Moves.{all_seen}
use Rattle.bandwidth.proofs.candidates.Candidates.look.Goals as goal

pub returns-clause-best : goal.returns-clause-best
returns-clause-best c =
    all_seen c.args.target c.args._spans.now.items c.look_at_corners.new.self.back.until c.look_at_corners.result
    c.look_at_corners.ensures.candidates.short c.look_at_corners.ensures.best

pub returns-clause-front_stops : goal.returns-clause-front_stops
returns-clause-front_stops c = rw c.look_at_corners.ensures.front (c.look_at_starts-best.result, c.look_at_starts-best.ensures.best, c.look_at_starts-best.ensures.stops)
