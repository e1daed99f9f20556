use Rattle.std.proofs.Common.{ap, refl, ◌∙◌}
use Rattle.rtrb.specs.Ring.{sent}
use Rattle.read_ahead.specs.Messages.{goes_on}
use Rattle.read_ahead.specs.declared.message.Message.TheVariants.{Failed}
use Rattle.read_ahead.proofs.Telling.{ends_snoc, may_end}
use Rattle.read_ahead.proofs.reading.read_ahead.Goals as goal

pub tell_stop-requires-clause-end : goal.tell_stop-requires-clause-end
tell_stop-requires-clause-end g c ended =
    may_end g.I.Contents.holds (sent c.copy_by-stop.new.sender.producer) (g.I.Reader.Read.remaining c.copy_by-stop.new.reader) (c.copy_by-stop.ensures.told ended) (c.copy_by-stop.ensures.end ended)

pub returns-in_default-clause-last : goal.returns-in_default-clause-last
returns-in_default-clause-last g c _ = ap goes_on c.tell_failure.ensures.ok ∙ ends_snoc (sent c.args.sender.now.producer) Failed refl

pub returns-clause-left : goal.returns-clause-left
returns-clause-left g c left = rw (c.tell_stop.ensures.left left) (c.copy_by-stop.ensures.left left)

pub returns-in_default-clause-failed : goal.returns-in_default-clause-failed
returns-in_default-clause-failed g c _ _ = (sent c.args.sender.now.producer, c.tell_failure.ensures.ok)

pub returns-clause-end : goal.returns-clause-end
returns-clause-end g c ended = (sent c.copy_by-stop.new.sender.producer, c.tell_stop.ensures.end ended)

pub returns-clause-failed : goal.returns-clause-failed
returns-clause-failed g c not_end given = (sent c.copy_by-stop.new.sender.producer, c.tell_stop.ensures.failed not_end given)

pub returns-clause-was_left : goal.returns-clause-was_left
returns-clause-was_left g c left = c.tell_stop.ensures.same ∙ c.copy_by-stop.ensures.was_left left
