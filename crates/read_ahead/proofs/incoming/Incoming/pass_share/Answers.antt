use Rattle.rtrb.specs.Ring.{received}
use Rattle.read_ahead.specs.Messages.{untold}
use Rattle.read_ahead.proofs.Streams.{passes}
use Rattle.read_ahead.proofs.incoming.Incoming.pass_share.Goals as goal

pub returns-clause-gave : goal.returns-clause-gave
returns-clause-gave g c =
    let s = c.args.self.now in
    passes c.min-most.result s.at s.front.items (untold g.I.Contents.holds (received s.consumer))
