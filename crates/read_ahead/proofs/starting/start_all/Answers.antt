use Rattle.std.proofs.Common.{arith, rules, ◌≡◌, ◌∷◌, ◌++◌, [], append_assoc, sym, ◌∙◌}
use Rattle.std.specs.Arc.{arc_value}
use Rattle.std.specs.Vec.Iter.{into_iter_items}
use Rattle.std.proofs.lemmas.List.Elements.{All-push}
use Rattle.read_ahead.specs.Sources.{IsSound}
use Rattle.read_ahead.proofs.NewSources.{seen_snoc}
use Rattle.read_ahead.proofs.starting.start_all.Goals as goal

pub loop-input-preserved : goal.loop-input-preserved
loop-input-preserved g c =
    let holds = g.I.Contents.holds in
    let x = c.in_ok-start.field-0 in
    let ys = c.loop-input.yielded in
    record {
      rest =
          let all : c.args.inputs.items ≡ ys ++ c.in-Some.input ∷ into_iter_items c.next.new.self = search rules in
          append_assoc ys (c.in-Some.input ∷ []) (into_iter_items c.next.new.self) ∙ sym all;
      sound = rw c.in_ok-push.ensures.items (All-push (IsSound holds) c.loop-input.incoming.items x c.loop-input.invariant.sound c.in_ok-start.ensures.sound);
      seen = seen_snoc holds (arc_value c.args.backlogs.now) c.loop-input.incoming.items c.push.new.self.items x ys c.in-Some.input c.in_ok-push.ensures.items c.loop-input.invariant.seen
          c.in_ok-start.ensures.backlogs (omega (arith, c.in_ok-start.ensures.number, c.len-number.ensures)) c.in_ok-start.ensures.left;
    }
