use Rattle.std.proofs.Common.{inl, inr}
use Rattle.ingest.proofs.Ordered.{made_of-at}
use Rattle.ladder_items.proofs.Worlds.{InOrder}
use Rattle.rounds.proofs.Permitting.{let-through}
use Rattle.rounds.proofs.Planned.{spools-known, spools-planned}
use Rattle.rounds.proofs.round.starting.run_round.Goals as goal

pub round_with-requires-clause-only : goal.round_with-requires-clause-only
round_with-requires-clause-only g c κs within r n passed = inl passed

pub round_with-requires-clause-shown : goal.round_with-requires-clause-shown
round_with-requires-clause-shown g c κs within r n below = inr below

pub returns-clause-let_through : goal.returns-clause-let_through
returns-clause-let_through g c =
    let-through (g.G.Gate.lets c.args.setup.now.gate.now) c.args.between.broadcast.held.publisher.list c.round_with.result.0.broadcast.held.publisher.list c.round_with.ensures.shown

pub round_with-requires-clause-planned : goal.round_with-requires-clause-planned
round_with-requires-clause-planned g c κs within =
    let some = c.requires.on in
    let order : InOrder c.args.setup.now.settings.now = λ stop r. made_of-at stop r c.args.setup.now.settings.now.cut in
    spools-planned _ _ _ _ c.args.setup.now.settings.now some.0 _ _ c.args.spools.now c.requires.each some.1 order

pub round_with-requires-clause-known : goal.round_with-requires-clause-known
round_with-requires-clause-known g c κs within =
    let some = c.requires.on in
    let order : InOrder c.args.setup.now.settings.now = λ stop r. made_of-at stop r c.args.setup.now.settings.now.cut in
    spools-known _ _ _ _ c.args.setup.now.settings.now some.0 _ _ c.args.spools.now c.requires.each some.1 order
