use Rattle.std.proofs.Common.{◌≡◌, ◌%◌, [], length, slice_index_or, ◌∙◌, rules}
use Rattle.aes_cbc.proofs.SealedParts.{piece_sealed}
use Rattle.aes_cbc.proofs.behind_side_by_side.seal_four_rests.Goals as goal

pub returns-clause-first_items : goal.returns-clause-first_items
returns-clause-first_items c =
    let next = c.append_four_pieces-lasts in
    let whole : length c.split_at.result.0.now % 16 ≡ 0 = search rules in
    c.seal_two_rests.ensures.first_items
    ∙ piece_sealed c.args.keys.0.now (slice_index_or c.args.vectors.now 0 []) c.args.first.now.items c.split_at.result.0.now c.split_at.result.1.now c.args.rests.0.now
    next.new.first.items (slice_index_or next.result 0 []) whole c.split_at.ensures.by_index.0 next.ensures.first_items next.ensures.first_last

pub returns-clause-second_items : goal.returns-clause-second_items
returns-clause-second_items c =
    let next = c.append_four_pieces-lasts in
    let whole : length c.split_at-2.result.0.now % 16 ≡ 0 = search rules in
    c.seal_two_rests.ensures.second_items
    ∙ piece_sealed c.args.keys.1.now (slice_index_or c.args.vectors.now 1 []) c.args.second.now.items c.split_at-2.result.0.now c.split_at-2.result.1.now c.args.rests.1.now
    next.new.second.items (slice_index_or next.result 1 []) whole c.split_at-2.ensures.by_index.0 next.ensures.second_items next.ensures.second_last

pub returns-clause-third_items : goal.returns-clause-third_items
returns-clause-third_items c =
    let next = c.append_four_pieces-lasts in
    let whole : length c.split_at-3.result.0.now % 16 ≡ 0 = search rules in
    c.seal_two_rests-2.ensures.first_items
    ∙ piece_sealed c.args.keys.2.now (slice_index_or c.args.vectors.now 2 []) c.args.third.now.items c.split_at-3.result.0.now c.split_at-3.result.1.now c.args.rests.2.now
    next.new.third.items (slice_index_or next.result 2 []) whole c.split_at-3.ensures.by_index.0 next.ensures.third_items next.ensures.third_last

pub returns-clause-fourth_items : goal.returns-clause-fourth_items
returns-clause-fourth_items c =
    let next = c.append_four_pieces-lasts in
    let whole : length c.split_at-4.result.0.now % 16 ≡ 0 = search rules in
    c.seal_two_rests-2.ensures.second_items
    ∙ piece_sealed c.args.keys.3.now (slice_index_or c.args.vectors.now 3 []) c.args.fourth.now.items c.split_at-4.result.0.now c.split_at-4.result.1.now c.args.rests.3.now
    next.new.fourth.items (slice_index_or next.result 3 []) whole c.split_at-4.ensures.by_index.0 next.ensures.fourth_items next.ensures.fourth_last
