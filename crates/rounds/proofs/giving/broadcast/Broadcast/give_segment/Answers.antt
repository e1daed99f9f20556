use Rattle.std.proofs.Common.{◌∙◌, sym, ap, length, arith}
use Rattle.std.proofs.lemmas.List.{length-map}
use Rattle.ladder_items.specs.Items.{Part}
use Rattle.ladder_items.specs.Weave.{Row, after}
use Rattle.ladder_items.proofs.Blocks.{after-each, shown-going, shown-each}
use Rattle.rounds.proofs.Steps.{ends-row, rises-by-row}
use Rattle.rounds.proofs.giving.broadcast.Broadcast.give_segment.Goals as goal

pub publish_given-requires-clause-going : goal.publish_given-requires-clause-going
publish_given-requires-clause-going g c =
    let next = c.requires.next.1 in
    let now = after c.requires.next.0 (Row c.args.r c.args.sealed.plan) in
    shown-going c.args.settings.now now _ (after-each c.requires.next.0 c.args.r c.args.sealed.plan ∙ next.goes_on.each) (c.in_ok-buffer.ensures.ok c.requires.next.0 next).1

pub publish_given-requires-clause-each : goal.publish_given-requires-clause-each
publish_given-requires-clause-each g c =
    let next = c.requires.next.1 in
    let now = after c.requires.next.0 (Row c.args.r c.args.sealed.plan) in
    shown-each c.args.settings.now now _ (after-each c.requires.next.0 c.args.r c.args.sealed.plan ∙ next.goes_on.each) (c.in_ok-buffer.ensures.ok c.requires.next.0 next).1

pub publish_given-requires-clause-ends : goal.publish_given-requires-clause-ends
publish_given-requires-clause-ends g c =
    let parts = c.requires.next.0 in
    let next = c.requires.next.1 in
    let now = after parts (Row c.args.r c.args.sealed.plan) in
    let each = shown-each c.args.settings.now now _ (after-each parts c.args.r c.args.sealed.plan ∙ next.goes_on.each) (c.in_ok-buffer.ensures.ok parts next).1 in
    omega (arith, ap length c.requires.next.2, length-map parts (λ (part : Part). part.ended), next.goes_on.each, each)

pub publish_given-requires-clause-rising : goal.publish_given-requires-clause-rising
publish_given-requires-clause-rising g c =
    let parts = c.requires.next.0 in
    let next = c.requires.next.1 in
    rises-by-row c.args.settings.now parts c.args.r c.args.sealed.plan _ _ _ c.requires.shows next.goes_on.each next.goes_on.shown_are (c.in_ok-buffer.ensures.ok parts next).1

pub returns-clause-ok : goal.returns-clause-ok
returns-clause-ok g c parts next ends =
    let given = c.in_ok-buffer.ensures.ok parts next in
    let now = ends ∙ sym (ends-row parts c.args.r c.args.sealed.plan) in
    record {
      puts = given.0;
      shown = given.1;
      ends = now;
      shows = rw (← now, ← given.1) c.in_ok-publish_given.ensures.ok;
    }
