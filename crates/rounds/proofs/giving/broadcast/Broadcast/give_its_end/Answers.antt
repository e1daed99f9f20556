use Rattle.std.proofs.Common.{◌∙◌, sym, ap, subst, Bool, true, List, length, arith}
use Rattle.std.proofs.Math.ListN.{set}
use Rattle.std.proofs.lemmas.List.{length-map, length-set}
use Rattle.ladder_items.specs.Items.{Part}
use Rattle.ladder_items.specs.Shown.{Shown}
use Rattle.ladder_items.specs.Giving.{IsGoing}
use Rattle.ladder_items.proofs.Blocks.{shown-going, shown-each}
use Rattle.rounds.proofs.Permitting.{shows-end}
use Rattle.rounds.proofs.Steps.{ends-end, end-shown}
use Rattle.rounds.proofs.giving.broadcast.Broadcast.give_its_end.Goals as goal

pub give_end-requires-clause-within : goal.give_end-requires-clause-within
give_end-requires-clause-within g c =
    let next = c.requires.next.1 in
    let each = shown-each c.args.settings.now c.requires.next.0 c.deref.result.now next.each (c.deref.ensures.value ∙ next.shown_are) in
    omega (arith, each, next.within, next.each)

pub publish_given-requires-clause-going : goal.publish_given-requires-clause-going
publish_given-requires-clause-going g c =
    let next = c.requires.next.1 in
    shown-going c.args.settings.now c.requires.next.0 _ next.each next.shown_are

pub publish_given-requires-clause-each : goal.publish_given-requires-clause-each
publish_given-requires-clause-each g c =
    let next = c.requires.next.1 in
    shown-each c.args.settings.now c.requires.next.0 _ next.each next.shown_are

pub returns-clause-ok : goal.returns-clause-ok
returns-clause-ok g c parts next ends =
    let shown = next.shown_are ∙ sym (end-shown c.args.settings.now parts c.args.r) in
    let now = ap (λ (l : List Bool). set l c.args.r true) ends ∙ sym (ends-end parts c.args.r) in
    record {
      puts = c.in_ok-give_end.ensures.ok parts (subst (λ (l : List Shown). IsGoing c.args.settings.now c.args.r parts l) (sym c.deref.ensures.value) next);
      shown = shown;
      ends = now;
      shows = rw (← now, ← shown) c.in_ok-publish_given.ensures.ok;
    }

pub publish_given-requires-clause-ends : goal.publish_given-requires-clause-ends
publish_given-requires-clause-ends g c =
    let parts = c.requires.next.0 in
    let next = c.requires.next.1 in
    let each = shown-each c.args.settings.now parts _ next.each next.shown_are in
    omega (arith, length-set c.args.self.now.course.ended.items c.args.r true, ap length c.requires.next.2, length-map parts (λ (part : Part). part.ended), next.each, each)

pub returns-clause-shown : goal.returns-clause-shown
returns-clause-shown g c = shows-end _ _ _ _ _ c.in_ok-publish_given.ensures.ok c.requires.shows
