use Rattle.std.proofs.Common.{◌≡◌, ◌+◌, ◌%◌, ◌≤◌, ◌++◌, [], length, slice_index_or, vec_len}
use Rattle.std.specs.Prelude.{vec_capacity}
use Rattle.std.specs.List.{concat}
use Rattle.aes_cbc.specs.Chain.{cbc, blocks}
use Rattle.aes_cbc.specs.Opening.{last_block}
use Rattle.aes_cbc.proofs.behind_side_by_side.append_four_pieces.Given as goal

abbrev pub invariant-piece : goal.invariant-piece
invariant-piece l = record {
  whole : length l.rests.0.now % 1024 ≡ 0;
  second_same : length l.rests.1.now ≡ length l.rests.0.now;
  third_same : length l.rests.2.now ≡ length l.rests.0.now;
  fourth_same : length l.rests.3.now ≡ length l.rests.0.now;
  first_items : l.first.items ++ concat (cbc l.fn.keys.0.now (slice_index_or l.lasts 0 []) (blocks l.rests.0.now))
      ≡ l.initial.first.items ++ concat (cbc l.fn.keys.0.now (slice_index_or l.fn.vectors 0 []) (blocks l.fn.pieces.0.now));
  first_ends : last_block (slice_index_or l.lasts 0 []) (cbc l.fn.keys.0.now (slice_index_or l.lasts 0 []) (blocks l.rests.0.now))
      ≡ last_block (slice_index_or l.fn.vectors 0 []) (cbc l.fn.keys.0.now (slice_index_or l.fn.vectors 0 []) (blocks l.fn.pieces.0.now));
  first_len : vec_len l.first + length l.rests.0.now ≡ vec_len l.initial.first + length l.fn.pieces.0.now;
  first_room : vec_capacity l.initial.first ≤ vec_capacity l.first;
  second_items : l.second.items ++ concat (cbc l.fn.keys.1.now (slice_index_or l.lasts 1 []) (blocks l.rests.1.now))
      ≡ l.initial.second.items ++ concat (cbc l.fn.keys.1.now (slice_index_or l.fn.vectors 1 []) (blocks l.fn.pieces.1.now));
  second_ends : last_block (slice_index_or l.lasts 1 []) (cbc l.fn.keys.1.now (slice_index_or l.lasts 1 []) (blocks l.rests.1.now))
      ≡ last_block (slice_index_or l.fn.vectors 1 []) (cbc l.fn.keys.1.now (slice_index_or l.fn.vectors 1 []) (blocks l.fn.pieces.1.now));
  second_len : vec_len l.second + length l.rests.1.now ≡ vec_len l.initial.second + length l.fn.pieces.1.now;
  second_room : vec_capacity l.initial.second ≤ vec_capacity l.second;
  third_items : l.third.items ++ concat (cbc l.fn.keys.2.now (slice_index_or l.lasts 2 []) (blocks l.rests.2.now))
      ≡ l.initial.third.items ++ concat (cbc l.fn.keys.2.now (slice_index_or l.fn.vectors 2 []) (blocks l.fn.pieces.2.now));
  third_ends : last_block (slice_index_or l.lasts 2 []) (cbc l.fn.keys.2.now (slice_index_or l.lasts 2 []) (blocks l.rests.2.now))
      ≡ last_block (slice_index_or l.fn.vectors 2 []) (cbc l.fn.keys.2.now (slice_index_or l.fn.vectors 2 []) (blocks l.fn.pieces.2.now));
  third_len : vec_len l.third + length l.rests.2.now ≡ vec_len l.initial.third + length l.fn.pieces.2.now;
  third_room : vec_capacity l.initial.third ≤ vec_capacity l.third;
  fourth_items : l.fourth.items ++ concat (cbc l.fn.keys.3.now (slice_index_or l.lasts 3 []) (blocks l.rests.3.now))
      ≡ l.initial.fourth.items ++ concat (cbc l.fn.keys.3.now (slice_index_or l.fn.vectors 3 []) (blocks l.fn.pieces.3.now));
  fourth_ends : last_block (slice_index_or l.lasts 3 []) (cbc l.fn.keys.3.now (slice_index_or l.lasts 3 []) (blocks l.rests.3.now))
      ≡ last_block (slice_index_or l.fn.vectors 3 []) (cbc l.fn.keys.3.now (slice_index_or l.fn.vectors 3 []) (blocks l.fn.pieces.3.now));
  fourth_len : vec_len l.fourth + length l.rests.3.now ≡ vec_len l.initial.fourth + length l.fn.pieces.3.now;
  fourth_room : vec_capacity l.initial.fourth ≤ vec_capacity l.fourth;
}

abbrev pub decreases-piece : goal.decreases-piece
decreases-piece l = length l.rests.0.now
