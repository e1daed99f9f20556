use Rattle.std.proofs.Common.{◌≡◌, ◌+◌, ◌%◌, ◌≤◌, ◌++◌, length, vec_len}
use Rattle.std.specs.Prelude.{vec_capacity}
use Rattle.std.specs.List.{concat}
use Rattle.aes_cbc.specs.Chain.{cbc, blocks}
use Rattle.aes_cbc.specs.Opening.{last_block}
use Rattle.aes_cbc.proofs.behind.append_pieces.Given as goal

abbrev pub invariant-piece : goal.invariant-piece
invariant-piece l = record {
  items : l.text.items ++ concat (cbc l.key l.last (blocks l.rest)) ≡ l.initial.text.items ++ concat (cbc l.key l.fn.vector (blocks l.fn.pieces));
  ends : last_block l.last (cbc l.key l.last (blocks l.rest)) ≡ last_block l.fn.vector (cbc l.key l.fn.vector (blocks l.fn.pieces));
  whole : length l.rest % 1024 ≡ 0;
  len : vec_len l.text + length l.rest ≡ vec_len l.initial.text + length l.fn.pieces;
  room : vec_capacity l.initial.text ≤ vec_capacity l.text;
}

abbrev pub decreases-piece : goal.decreases-piece
decreases-piece l = length l.rest
