use Rattle.rtrb.specs.Ring.{received}
use Rattle.read_ahead.specs.Messages.{untold}
use Rattle.read_ahead.proofs.Streams.{gives}
use Rattle.read_ahead.proofs.incoming.Incoming.take_front.Goals as goal

pub returns-clause-gave : goal.returns-clause-gave
returns-clause-gave g c =
    let s = c.args.self.now in
    rw (c.copy_some-count.ensures.copied, c.deref.ensures.value) (gives c.copy_some-count.result s.at s.front.items (untold g.I.Contents.holds (received s.consumer)))
