use Rattle.std.proofs.Common.{◌≡◌, take, drop, subst, sym, arith}
use Rattle.aes_cbc.specs.Block.{IsBlock}
use Rattle.aes_cbc.proofs.CipherInverse.{aes-IsBlock}
use Rattle.aes_cbc.proofs.PairSums.{front_block, back_block}
use Rattle.aes_cbc.proofs.PairStates.{start_states, next_states, last_states}
use Rattle.aes_cbc.proofs.key.Key.encrypt_two.Goals as goal

pub round-init : goal.round-init
round-init c = start_states c.args.keys.0.now c.args.keys.1.now c.args.blocks _ _ c.both_keys.ensures.both c.into_tower-state.ensures

pub round-preserved : goal.round-preserved
round-preserved c =
    let key = c.both_keys.ensures in
    next_states c.args.keys.0.now c.args.keys.1.now (take 16 c.args.blocks) (drop 16 c.args.blocks) c.round.i _ _ _ key.first key.second
    (front_block c.args.blocks c.fits-blocks.0 c.fits-blocks.1) (back_block c.args.blocks c.fits-blocks.0 c.fits-blocks.1)
    c.round-next.ensures c.round.invariant c.both_mixing_keys.ensures

pub returns : goal.returns
returns c =
    let key = c.both_keys.ensures in
    let of_first : IsBlock (take 16 c.args.blocks) = front_block c.args.blocks c.fits-blocks.0 c.fits-blocks.1 in
    let of_second : IsBlock (drop 16 c.args.blocks) = back_block c.args.blocks c.fits-blocks.0 c.fits-blocks.1 in
    let nine : c.round.i ≡ 9 = omega arith in
    let ciphers =
    last_states c.args.keys.0.now c.args.keys.1.now (take 16 c.args.blocks) (drop 16 c.args.blocks) _ _ _ key.first key.second of_first of_second
    c.last_round.ensures (rw nine at c.round.invariant) c.both_last_keys.ensures in
    record {
      ciphers = ciphers;
      first = subst IsBlock (sym ciphers.first) (aes-IsBlock c.args.keys.0.now (take 16 c.args.blocks) key.first of_first);
      second = subst IsBlock (sym ciphers.second) (aes-IsBlock c.args.keys.1.now (drop 16 c.args.blocks) key.second of_second);
    }
