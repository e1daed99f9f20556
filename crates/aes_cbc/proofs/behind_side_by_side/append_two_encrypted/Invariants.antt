use Rattle.std.proofs.Common.{◌≡◌, ◌*◌, ◌++◌, [], take, drop, slice_index_or}
use Rattle.std.specs.List.{concat}
use Rattle.aes_cbc.specs.Chain.{cbc, blocks}
use Rattle.aes_cbc.proofs.behind_side_by_side.append_two_encrypted.Given as goal

abbrev pub invariant-block : goal.invariant-block
invariant-block l = record {
  first_items : take (16 * l.i) l.first_front ++ concat (cbc l.fn.keys.0.now (take 16 l.last) (drop l.i (blocks l.fn.pieces.0.now))) ≡ concat (cbc l.fn.keys.0.now (slice_index_or l.fn.vectors 0 []) (blocks l.fn.pieces.0.now));
  second_items : take (16 * l.i) l.second_front ++ concat (cbc l.fn.keys.1.now (drop 16 l.last) (drop l.i (blocks l.fn.pieces.1.now))) ≡ concat (cbc l.fn.keys.1.now (slice_index_or l.fn.vectors 1 []) (blocks l.fn.pieces.1.now));
}
