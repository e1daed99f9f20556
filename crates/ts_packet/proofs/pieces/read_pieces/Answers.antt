use Rattle.std.proofs.Common.{ℕ, List, Vec, Global, arith, ap, length}
use Rattle.std.specs.List.{flat_map}
use Rattle.std.proofs.lemmas.List.{take_all}
use Rattle.std.proofs.lemmas.List.Folds.{length-flat_map-take}
use Rattle.ts_packet.proofs.Feeding.{on-err}
use Rattle.ts_packet.proofs.Front.{rest_of-least}
use Rattle.ts_packet.proofs.pieces.read_pieces.Goals as goal

pub feed-requires : goal.feed-requires
feed-requires c =
    let together = length-flat_map-take (λ (v : Vec ℕ Global). v.items) c.args.pieces.now c.loop-piece.piece-index c.piece-item.result c.loop-piece-test.true in
    let few = rw (← c.piece-item.is) at together in
    rw c.deref.ensures.value (omega (arith, ap length c.loop-piece.invariant.fed, c.requires))

pub returns-in_err-feed-clause-scarce : goal.returns-in_err-feed-clause-scarce
returns-in_err-feed-clause-scarce c =
    let together = length-flat_map-take (λ (v : Vec ℕ Global). v.items) c.args.pieces.now c.loop-piece.piece-index c.piece-item.result c.loop-piece-test.true in
    let few = rw (← c.piece-item.is) at together in
    on-err c.from_residual.result
    (omega (arith, few, ap length c.deref.ensures.value, ap length c.loop-piece.invariant.fed, c.in_err-feed.ensures.room, rest_of-least c.loop-piece.reader, c.loop-piece.packets.ok.1))

pub returns-in_err-skipped-clause-scarce : goal.returns-in_err-skipped-clause-scarce
returns-in_err-skipped-clause-scarce c =
    let all = take_all c.loop-piece.piece-index c.args.pieces.now (omega (arith, c.loop-piece-test.false)) in
    on-err c.from_residual-in_err-skipped.result
    (omega (arith, ap (λ (ps : List (Vec ℕ Global)). length (flat_map (λ v. v.items) ps)) all, ap length c.loop-piece.invariant.fed, c.in_err-skipped.ensures.room, rest_of-least c.loop-piece.reader, c.loop-piece.packets.ok.1))
