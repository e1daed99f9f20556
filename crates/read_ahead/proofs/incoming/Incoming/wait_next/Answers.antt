use Rattle.rtrb.specs.Ring.{received}
use Rattle.std.proofs.Common.{◌∙◌, inl, rules, refl, drop, subst}
use Rattle.read_ahead.specs.declared.message.Message.TheVariants.{Bytes, End, Failed, Refused, Opened}
use Rattle.read_ahead.specs.Messages.{MayFollow}
use Rattle.read_ahead.proofs.Telling.{in_order, next_block, next_plain, next_end, some_more}
use Rattle.read_ahead.proofs.incoming.Incoming.wait_next.Goals as goal

pub returns-in-Bytes-clause-same : goal.returns-in-Bytes-clause-same
returns-in-Bytes-clause-same g c =
    let s = c.args.self.now in
    rw c.replace-given.ensures.after (next_block g.I.Contents.holds (received s.consumer) (received c.wait_message.new.consumer) s.front.items s.at c.in-Bytes.block (in_order (received s.consumer) (received c.wait_message.new.consumer) c.in-Ok.message (Bytes c.in-Bytes.block) c.in-Ok.ensures.order c.in-Bytes.is) (subst (MayFollow g.I.Contents.holds g.I.Contents.refuses (received s.consumer)) c.in-Bytes.is c.in-Ok.ensures.allowed) c.requires.used)

pub returns-in-End-clause-same : goal.returns-in-End-clause-same
returns-in-End-clause-same g c =
    let s = c.args.self.now in
    next_plain g.I.Contents.holds (received s.consumer) (received c.wait_message.new.consumer) End (drop s.at s.front.items) (in_order (received s.consumer) (received c.wait_message.new.consumer) c.in-Ok.message (End) c.in-Ok.ensures.order c.in-End.is) c.requires.sound.some refl

pub returns-in-Failed-clause-same : goal.returns-in-Failed-clause-same
returns-in-Failed-clause-same g c =
    let s = c.args.self.now in
    next_plain g.I.Contents.holds (received s.consumer) (received c.wait_message.new.consumer) Failed (drop s.at s.front.items) (in_order (received s.consumer) (received c.wait_message.new.consumer) c.in-Ok.message (Failed) c.in-Ok.ensures.order c.in-Failed.is) c.requires.sound.some refl

pub returns-in-Refused-clause-same : goal.returns-in-Refused-clause-same
returns-in-Refused-clause-same g c =
    let s = c.args.self.now in
    next_plain g.I.Contents.holds (received s.consumer) (received c.wait_message.new.consumer) (Refused c.in-Refused.field-0) (drop s.at s.front.items) (in_order (received s.consumer) (received c.wait_message.new.consumer) c.in-Ok.message (Refused c.in-Refused.field-0) c.in-Ok.ensures.order c.in-Refused.is) c.requires.sound.some refl

pub returns-in-Opened-clause-same : goal.returns-in-Opened-clause-same
returns-in-Opened-clause-same g c =
    let s = c.args.self.now in
    next_plain g.I.Contents.holds (received s.consumer) (received c.wait_message.new.consumer) (Opened c.in-Opened.field-0) (drop s.at s.front.items) (in_order (received s.consumer) (received c.wait_message.new.consumer) c.in-Ok.message (Opened c.in-Opened.field-0) c.in-Ok.ensures.order c.in-Opened.is) c.requires.sound.some refl

pub returns-in-End-clause-sound : goal.returns-in-End-clause-sound
returns-in-End-clause-sound g c =
    let s = c.args.self.now in record {
      some = some_more (received s.consumer) (received c.wait_message.new.consumer) End (in_order (received s.consumer) (received c.wait_message.new.consumer) c.in-Ok.message (End) c.in-Ok.ensures.order c.in-End.is);
      within = c.requires.sound.within;
      opening = λ e. absurd (search (rules, e));
      empty = λ e. absurd (search (rules, e));
      ended = λ _. next_end g.I.Contents.holds (received s.consumer) (received c.wait_message.new.consumer) (in_order (received s.consumer) (received c.wait_message.new.consumer) c.in-Ok.message (End) c.in-Ok.ensures.order c.in-End.is) (subst (MayFollow g.I.Contents.holds g.I.Contents.refuses (received s.consumer)) c.in-End.is c.in-Ok.ensures.allowed);
    }

pub returns-in-Err-clause-stands : goal.returns-in-Err-clause-stands
returns-in-Err-clause-stands g c = inl (c.fall_silent.ensures.told ∙ c.in-Err.ensures.none, c.fall_silent.ensures.phase)
