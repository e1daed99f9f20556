use Rattle.std.proofs.Common.{◌≡◌, ◌%◌, ◌++◌, [], length, slice_index_or, sym, ap, ◌∙◌, append-nil, rules}
use Rattle.std.specs.List.{concat}
use Rattle.aes_cbc.specs.Opening.{last_block}
use Rattle.aes_cbc.proofs.ChainSplit.{piece_chained, piece_ends, none_chained}
use Rattle.aes_cbc.proofs.behind_side_by_side.append_four_pieces.Goals as goal

pub piece-preserved : goal.piece-preserved
piece-preserved c =
    let inv = c.piece.invariant in
    let next = c.append_four_encrypted-lasts in
    let first_whole : length c.split_at.result.0.now % 16 ≡ 0 = search rules in
    let second_whole : length c.split_at-in-piece.result.0.now % 16 ≡ 0 = search rules in
    let third_whole : length c.split_at-in-piece-2.result.0.now % 16 ≡ 0 = search rules in
    let fourth_whole : length c.split_at-in-piece-3.result.0.now % 16 ≡ 0 = search rules in
    record {
      whole = search rules;
      second_same = search rules;
      third_same = search rules;
      fourth_same = search rules;
      first_items =
          piece_chained c.args.keys.0.now (slice_index_or c.piece.lasts 0 []) c.piece.first.items c.split_at.result.0.now c.split_at.result.1.now c.piece.rests.0.now
          next.new.first.items (slice_index_or next.result 0 []) first_whole c.split_at.ensures.by_index.0 next.ensures.first_items next.ensures.first_last
          ∙ inv.first_items;
      first_ends =
          piece_ends c.args.keys.0.now (slice_index_or c.piece.lasts 0 []) c.split_at.result.0.now c.split_at.result.1.now c.piece.rests.0.now
          (slice_index_or next.result 0 []) first_whole c.split_at.ensures.by_index.0 next.ensures.first_last
          ∙ inv.first_ends;
      first_len = search rules;
      first_room = search rules;
      second_items =
          piece_chained c.args.keys.1.now (slice_index_or c.piece.lasts 1 []) c.piece.second.items c.split_at-in-piece.result.0.now c.split_at-in-piece.result.1.now c.piece.rests.1.now
          next.new.second.items (slice_index_or next.result 1 []) second_whole c.split_at-in-piece.ensures.by_index.0 next.ensures.second_items next.ensures.second_last
          ∙ inv.second_items;
      second_ends =
          piece_ends c.args.keys.1.now (slice_index_or c.piece.lasts 1 []) c.split_at-in-piece.result.0.now c.split_at-in-piece.result.1.now c.piece.rests.1.now
          (slice_index_or next.result 1 []) second_whole c.split_at-in-piece.ensures.by_index.0 next.ensures.second_last
          ∙ inv.second_ends;
      second_len = search rules;
      second_room = search rules;
      third_items =
          piece_chained c.args.keys.2.now (slice_index_or c.piece.lasts 2 []) c.piece.third.items c.split_at-in-piece-2.result.0.now c.split_at-in-piece-2.result.1.now c.piece.rests.2.now
          next.new.third.items (slice_index_or next.result 2 []) third_whole c.split_at-in-piece-2.ensures.by_index.0 next.ensures.third_items next.ensures.third_last
          ∙ inv.third_items;
      third_ends =
          piece_ends c.args.keys.2.now (slice_index_or c.piece.lasts 2 []) c.split_at-in-piece-2.result.0.now c.split_at-in-piece-2.result.1.now c.piece.rests.2.now
          (slice_index_or next.result 2 []) third_whole c.split_at-in-piece-2.ensures.by_index.0 next.ensures.third_last
          ∙ inv.third_ends;
      third_len = search rules;
      third_room = search rules;
      fourth_items =
          piece_chained c.args.keys.3.now (slice_index_or c.piece.lasts 3 []) c.piece.fourth.items c.split_at-in-piece-3.result.0.now c.split_at-in-piece-3.result.1.now c.piece.rests.3.now
          next.new.fourth.items (slice_index_or next.result 3 []) fourth_whole c.split_at-in-piece-3.ensures.by_index.0 next.ensures.fourth_items next.ensures.fourth_last
          ∙ inv.fourth_items;
      fourth_ends =
          piece_ends c.args.keys.3.now (slice_index_or c.piece.lasts 3 []) c.split_at-in-piece-3.result.0.now c.split_at-in-piece-3.result.1.now c.piece.rests.3.now
          (slice_index_or next.result 3 []) fourth_whole c.split_at-in-piece-3.ensures.by_index.0 next.ensures.fourth_last
          ∙ inv.fourth_ends;
      fourth_len = search rules;
      fourth_room = search rules;
    }

pub returns-clause-first_items : goal.returns-clause-first_items
returns-clause-first_items c =
    let none : length c.piece.rests.0.now ≡ 0 = search rules in
    sym (ap (λ bs. c.piece.first.items ++ concat bs) (none_chained c.args.keys.0.now (slice_index_or c.piece.lasts 0 []) c.piece.rests.0.now none) ∙ append-nil c.piece.first.items)
    ∙ c.piece.invariant.first_items

pub returns-clause-second_items : goal.returns-clause-second_items
returns-clause-second_items c =
    let none : length c.piece.rests.1.now ≡ 0 = search rules in
    sym (ap (λ bs. c.piece.second.items ++ concat bs) (none_chained c.args.keys.1.now (slice_index_or c.piece.lasts 1 []) c.piece.rests.1.now none) ∙ append-nil c.piece.second.items)
    ∙ c.piece.invariant.second_items

pub returns-clause-third_items : goal.returns-clause-third_items
returns-clause-third_items c =
    let none : length c.piece.rests.2.now ≡ 0 = search rules in
    sym (ap (λ bs. c.piece.third.items ++ concat bs) (none_chained c.args.keys.2.now (slice_index_or c.piece.lasts 2 []) c.piece.rests.2.now none) ∙ append-nil c.piece.third.items)
    ∙ c.piece.invariant.third_items

pub returns-clause-fourth_items : goal.returns-clause-fourth_items
returns-clause-fourth_items c =
    let none : length c.piece.rests.3.now ≡ 0 = search rules in
    sym (ap (λ bs. c.piece.fourth.items ++ concat bs) (none_chained c.args.keys.3.now (slice_index_or c.piece.lasts 3 []) c.piece.rests.3.now none) ∙ append-nil c.piece.fourth.items)
    ∙ c.piece.invariant.fourth_items

pub returns-clause-first_last : goal.returns-clause-first_last
returns-clause-first_last c =
    let none : length c.piece.rests.0.now ≡ 0 = search rules in
    sym (ap (last_block (slice_index_or c.piece.lasts 0 [])) (none_chained c.args.keys.0.now (slice_index_or c.piece.lasts 0 []) c.piece.rests.0.now none))
    ∙ c.piece.invariant.first_ends

pub returns-clause-second_last : goal.returns-clause-second_last
returns-clause-second_last c =
    let none : length c.piece.rests.1.now ≡ 0 = search rules in
    sym (ap (last_block (slice_index_or c.piece.lasts 1 [])) (none_chained c.args.keys.1.now (slice_index_or c.piece.lasts 1 []) c.piece.rests.1.now none))
    ∙ c.piece.invariant.second_ends

pub returns-clause-third_last : goal.returns-clause-third_last
returns-clause-third_last c =
    let none : length c.piece.rests.2.now ≡ 0 = search rules in
    sym (ap (last_block (slice_index_or c.piece.lasts 2 [])) (none_chained c.args.keys.2.now (slice_index_or c.piece.lasts 2 []) c.piece.rests.2.now none))
    ∙ c.piece.invariant.third_ends

pub returns-clause-fourth_last : goal.returns-clause-fourth_last
returns-clause-fourth_last c =
    let none : length c.piece.rests.3.now ≡ 0 = search rules in
    sym (ap (last_block (slice_index_or c.piece.lasts 3 [])) (none_chained c.args.keys.3.now (slice_index_or c.piece.lasts 3 []) c.piece.rests.3.now none))
    ∙ c.piece.invariant.fourth_ends
