use Rattle.rtrb.specs.Ring.{received}
use Rattle.std.proofs.Common.{◌∙◌, inl, refl, drop}
use Rattle.read_ahead.specs.declared.message.Message.TheVariants.{Opened, Refused}
use Rattle.read_ahead.proofs.Telling.{in_order, next_plain}
use Rattle.read_ahead.proofs.incoming.Incoming.wait_open.Goals as goal

pub returns-in-Opened-clause-same : goal.returns-in-Opened-clause-same
returns-in-Opened-clause-same g c =
    let s = c.args.self.now in
    next_plain g.I.Contents.holds (received s.consumer) (received c.wait_message.new.consumer) (Opened c.in-Opened.field-0) (drop s.at s.front.items) (in_order (received s.consumer) (received c.wait_message.new.consumer) c.in-Ok.message (Opened c.in-Opened.field-0) c.in-Ok.ensures.order c.in-Opened.is) c.requires.sound.some refl

pub returns-in-Refused-clause-same : goal.returns-in-Refused-clause-same
returns-in-Refused-clause-same g c =
    let s = c.args.self.now in
    next_plain g.I.Contents.holds (received s.consumer) (received c.wait_message.new.consumer) (Refused c.in-Refused.field-0) (drop s.at s.front.items) (in_order (received s.consumer) (received c.wait_message.new.consumer) c.in-Ok.message (Refused c.in-Refused.field-0) c.in-Ok.ensures.order c.in-Refused.is) c.requires.sound.some refl

pub returns-in-Err-clause-stands : goal.returns-in-Err-clause-stands
returns-in-Err-clause-stands g c = inl (c.fall_silent.ensures.told ∙ c.in-Err.ensures.none, c.fall_silent.ensures.phase)
