use Rattle.std.proofs.Common.{◌≡◌, take, drop, subst, sym, arith}
use Rattle.aes_cbc.specs.Block.{IsBlock}
use Rattle.aes_cbc.proofs.CipherInverse.{aes-IsBlock}
use Rattle.aes_cbc.proofs.PairSums.{front_block, back_block}
use Rattle.aes_cbc.proofs.PairStates.{start_states, next_states, last_states}
use Rattle.aes_cbc.proofs.key.Key.encrypt_four.Goals as goal

pub round-init : goal.round-init
round-init c = record {
  front_is = start_states c.args.keys.0.now c.args.keys.1.now c.args.front _ _ c.both_keys.ensures.both c.into_tower-front_state.ensures;
  back_is = start_states c.args.keys.2.now c.args.keys.3.now c.args.back _ _ c.both_keys-2.ensures.both c.into_tower-back_state.ensures;
}

pub round-preserved : goal.round-preserved
round-preserved c =
    let front = c.both_keys.ensures in
    let back = c.both_keys-2.ensures in
    record {
      front_is =
          next_states c.args.keys.0.now c.args.keys.1.now (take 16 c.args.front) (drop 16 c.args.front) c.round.i _ _ _ front.first front.second
          (front_block c.args.front c.fits-front.0 c.fits-front.1) (back_block c.args.front c.fits-front.0 c.fits-front.1)
          c.round-front_state.ensures c.round.invariant.front_is c.both_mixing_keys-front_keys.ensures;
      back_is =
          next_states c.args.keys.2.now c.args.keys.3.now (take 16 c.args.back) (drop 16 c.args.back) c.round.i _ _ _ back.first back.second
          (front_block c.args.back c.fits-back.0 c.fits-back.1) (back_block c.args.back c.fits-back.0 c.fits-back.1)
          c.round-back_state.ensures c.round.invariant.back_is c.both_mixing_keys-back_keys.ensures;
    }

pub returns : goal.returns
returns c =
    let front_key = c.both_keys.ensures in
    let back_key = c.both_keys-2.ensures in
    let of_first : IsBlock (take 16 c.args.front) = front_block c.args.front c.fits-front.0 c.fits-front.1 in
    let of_second : IsBlock (drop 16 c.args.front) = back_block c.args.front c.fits-front.0 c.fits-front.1 in
    let of_third : IsBlock (take 16 c.args.back) = front_block c.args.back c.fits-back.0 c.fits-back.1 in
    let of_fourth : IsBlock (drop 16 c.args.back) = back_block c.args.back c.fits-back.0 c.fits-back.1 in
    let nine : c.round.i ≡ 9 = omega arith in
    let front =
    last_states c.args.keys.0.now c.args.keys.1.now (take 16 c.args.front) (drop 16 c.args.front) _ _ _ front_key.first front_key.second of_first of_second
    c.last_round.ensures (rw nine at c.round.invariant.front_is) c.both_last_keys.ensures in
    let back =
    last_states c.args.keys.2.now c.args.keys.3.now (take 16 c.args.back) (drop 16 c.args.back) _ _ _ back_key.first back_key.second of_third of_fourth
    c.last_round-2.ensures (rw nine at c.round.invariant.back_is) c.both_last_keys-2.ensures in
    record {
      front = front;
      back = back;
      first = subst IsBlock (sym front.first) (aes-IsBlock c.args.keys.0.now (take 16 c.args.front) front_key.first of_first);
      second = subst IsBlock (sym front.second) (aes-IsBlock c.args.keys.1.now (drop 16 c.args.front) front_key.second of_second);
      third = subst IsBlock (sym back.first) (aes-IsBlock c.args.keys.2.now (take 16 c.args.back) back_key.first of_third);
      fourth = subst IsBlock (sym back.second) (aes-IsBlock c.args.keys.3.now (drop 16 c.args.back) back_key.second of_fourth);
    }
