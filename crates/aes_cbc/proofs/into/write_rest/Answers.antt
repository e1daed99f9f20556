use Rattle.std.proofs.Common.{◌≡◌, ◌%◌, length, refl, rules}
use Rattle.aes_cbc.proofs.WrittenParts.{GoesOn-chunk}
use Rattle.aes_cbc.proofs.into.write_rest.Goals as goal

pub chunk-preserved : goal.chunk-preserved
chunk-preserved g c =
    let whole : length c.split_at.result.0.now % 16 ≡ 0 = search rules in
    record {
      written =
          GoesOn-chunk _ _ _ _ c.args.key.now c.chunk.last c.in_ok-last.last c.split_at.result.0.now c.split_at.result.1.now c.chunk.rest.now _
          whole c.split_at.ensures.by_index.0 refl c.in_ok-last.ensures.last c.chunk.invariant.written c.in_ok-last.ensures.written;
      room = search rules;
    }
