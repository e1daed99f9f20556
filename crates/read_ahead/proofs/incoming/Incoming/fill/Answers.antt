use Rattle.std.proofs.Common.{rules, arith, take, length, ◌-◌, ◌∙◌, drop}
use Rattle.std.proofs.lemmas.List.{length-take, length-drop}
use Rattle.rtrb.specs.Ring.{received}
use Rattle.read_ahead.specs.Sources.{rest_of}
use Rattle.read_ahead.proofs.Filling.{take_grows}
use Rattle.read_ahead.proofs.Streams.{consumes_on}
use Rattle.read_ahead.proofs.Telling.{stands_on}
use Rattle.read_ahead.proofs.incoming.Incoming.fill.Goals as goal

pub loop-given-preserved : goal.loop-given-preserved
loop-given-preserved g c =
    let given = c.loop-given.given in
    let buffer = c.loop-given.buffer in
    let new = c.take_some-given.new in
    let some = c.take_some-given.result in
    let grown = take_grows given some (length buffer - given) buffer new.buffer
    (omega (arith, c.loop-given.invariant.within, c.loop-given.auto.buffer))
    (omega (arith, c.take_some-given.ensures.within, c.take_some-given.auto.buffer)) in record {
      sound = c.take_some-given.ensures.sound;
      phase = c.take_some-given.ensures.phase;
      within = omega (arith, c.take_some-given.ensures.within, c.loop-given.auto.buffer, length-take (length buffer - given) (drop given buffer), length-drop given buffer, c.loop-given.invariant.within);
      number = c.take_some-given.ensures.number ∙ c.loop-given.invariant.number;
      backlogs = c.take_some-given.ensures.backlogs ∙ c.loop-given.invariant.backlogs;
      stands = stands_on (received c.args.self.now.consumer) (received c.loop-given.self.consumer) (received new.self.consumer) c.args.self.now.phase c.loop-given.self.phase new.self.phase c.loop-given.invariant.stands c.take_some-given.ensures.stands;
      next = c.take_some-given.ensures.next;
      first = λ none. absurd (search (rules, none, c.take_some-given.ensures.some));
      gave = rw grown (consumes_on (rest_of g.I.Contents.holds c.args.self.now) (rest_of g.I.Contents.holds c.loop-given.self) (rest_of g.I.Contents.holds new.self) (take given buffer) (take some new.buffer) c.loop-given.invariant.gave c.take_some-given.ensures.gave);
    }
