use Rattle.std.proofs.Common.{ap, arith, length, rules, ◌≡◌, ◌∷◌}
use Rattle.std.specs.Vec.Iter.{into_iter_items}
use Rattle.std.proofs.lemmas.List.Elements.{All-rest}
use Rattle.read_ahead.specs.Sources.{IsSound, MayBegin, seen_first}
use Rattle.read_ahead.proofs.NewSources.{made_on}
use Rattle.read_ahead.proofs.starting.sources_of.Goals as goal

pub loop-one-preserved : goal.loop-one-preserved
loop-one-preserved g c =
    let holds = g.I.Contents.holds in
    let rest = into_iter_items c.next.new.self in
    let old = into_iter_items c.loop-one.one-iterator in
    let steps : old ≡ c.in-Some.one ∷ rest = search rules in
    record {
      made = made_on (seen_first holds) c.loop-one.sources.items c.push_reserved.new.self.items c.args.incoming.items old rest c.in-Some.one c.new.result c.push_reserved.ensures.items c.new.ensures steps
          c.loop-one.invariant.made;
      room = omega (arith, c.loop-one.invariant.room, ap length steps, c.push_reserved.ensures.capacity, c.push_reserved.ensures.len);
      sound = All-rest (IsSound holds) c.in-Some.one rest old steps c.loop-one.invariant.sound;
      begun = All-rest MayBegin c.in-Some.one rest old steps c.loop-one.invariant.begun;
    }

pub push_reserved-requires : goal.push_reserved-requires
push_reserved-requires g c =
    let steps : into_iter_items c.loop-one.one-iterator ≡ c.in-Some.one ∷ into_iter_items c.next.new.self = search rules in
    omega (arith, c.loop-one.invariant.room, ap length steps)
