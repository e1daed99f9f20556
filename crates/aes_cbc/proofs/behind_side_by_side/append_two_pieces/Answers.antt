use Rattle.std.proofs.Common.{◌≡◌, ◌%◌, ◌++◌, [], length, slice_index_or, sym, ap, ◌∙◌, append-nil, rules}
use Rattle.std.specs.List.{concat}
use Rattle.aes_cbc.specs.Opening.{last_block}
use Rattle.aes_cbc.proofs.ChainSplit.{piece_chained, piece_ends, none_chained}
use Rattle.aes_cbc.proofs.behind_side_by_side.append_two_pieces.Goals as goal

pub piece-preserved : goal.piece-preserved
piece-preserved c =
    let inv = c.piece.invariant in
    let next = c.append_two_encrypted-lasts in
    let first_whole : length c.split_at.result.0.now % 16 ≡ 0 = search rules in
    let second_whole : length c.split_at-in-piece.result.0.now % 16 ≡ 0 = search rules in
    record {
      whole = search rules;
      same = search rules;
      first_items =
          piece_chained c.args.keys.0.now (slice_index_or c.piece.lasts 0 []) c.piece.first.items c.split_at.result.0.now c.split_at.result.1.now c.piece.rests.0.now
          next.new.first.items (slice_index_or next.result 0 []) first_whole c.split_at.ensures.by_index.0 next.ensures.first_items next.ensures.first_last
          ∙ inv.first_items;
      first_ends =
          piece_ends c.args.keys.0.now (slice_index_or c.piece.lasts 0 []) c.split_at.result.0.now c.split_at.result.1.now c.piece.rests.0.now
          (slice_index_or next.result 0 []) first_whole c.split_at.ensures.by_index.0 next.ensures.first_last
          ∙ inv.first_ends;
      first_len = search rules;
      first_room = search rules;
      second_items =
          piece_chained c.args.keys.1.now (slice_index_or c.piece.lasts 1 []) c.piece.second.items c.split_at-in-piece.result.0.now c.split_at-in-piece.result.1.now c.piece.rests.1.now
          next.new.second.items (slice_index_or next.result 1 []) second_whole c.split_at-in-piece.ensures.by_index.0 next.ensures.second_items next.ensures.second_last
          ∙ inv.second_items;
      second_ends =
          piece_ends c.args.keys.1.now (slice_index_or c.piece.lasts 1 []) c.split_at-in-piece.result.0.now c.split_at-in-piece.result.1.now c.piece.rests.1.now
          (slice_index_or next.result 1 []) second_whole c.split_at-in-piece.ensures.by_index.0 next.ensures.second_last
          ∙ inv.second_ends;
      second_len = search rules;
      second_room = search rules;
    }

pub returns-clause-first_items : goal.returns-clause-first_items
returns-clause-first_items c =
    let none : length c.piece.rests.0.now ≡ 0 = search rules in
    sym (ap (λ bs. c.piece.first.items ++ concat bs) (none_chained c.args.keys.0.now (slice_index_or c.piece.lasts 0 []) c.piece.rests.0.now none) ∙ append-nil c.piece.first.items)
    ∙ c.piece.invariant.first_items

pub returns-clause-second_items : goal.returns-clause-second_items
returns-clause-second_items c =
    let none : length c.piece.rests.1.now ≡ 0 = search rules in
    sym (ap (λ bs. c.piece.second.items ++ concat bs) (none_chained c.args.keys.1.now (slice_index_or c.piece.lasts 1 []) c.piece.rests.1.now none) ∙ append-nil c.piece.second.items)
    ∙ c.piece.invariant.second_items

pub returns-clause-first_last : goal.returns-clause-first_last
returns-clause-first_last c =
    let none : length c.piece.rests.0.now ≡ 0 = search rules in
    sym (ap (last_block (slice_index_or c.piece.lasts 0 [])) (none_chained c.args.keys.0.now (slice_index_or c.piece.lasts 0 []) c.piece.rests.0.now none))
    ∙ c.piece.invariant.first_ends

pub returns-clause-second_last : goal.returns-clause-second_last
returns-clause-second_last c =
    let none : length c.piece.rests.1.now ≡ 0 = search rules in
    sym (ap (last_block (slice_index_or c.piece.lasts 1 [])) (none_chained c.args.keys.1.now (slice_index_or c.piece.lasts 1 []) c.piece.rests.1.now none))
    ∙ c.piece.invariant.second_ends
