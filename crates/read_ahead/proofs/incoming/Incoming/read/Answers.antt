use Rattle.rtrb.specs.Ring.{received}
use Rattle.read_ahead.proofs.Telling.{failed_on}
use Rattle.read_ahead.proofs.incoming.Incoming.read.Goals as goal

pub returns-clause-patient : goal.returns-clause-patient
returns-clause-patient g c = λ none failed. failed_on (received c.args.self.now.consumer) (received c.next_share-share.new.self.consumer) (received c.give_share.new.self.consumer)
    c.args.self.now.phase c.next_share-share.new.self.phase c.give_share.new.self.phase c.next_share-share.ensures.grows (c.next_share-share.ensures.patient none) c.in_ok-count.ensures.stands failed
