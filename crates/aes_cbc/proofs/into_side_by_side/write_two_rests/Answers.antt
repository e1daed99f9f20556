use Rattle.std.proofs.Common.{◌≡◌, ◌%◌, true, [], length, slice_index_or, ◌∙◌, rules}
use Rattle.std.specs.Prelude.{is_ok}
use Rattle.aes_cbc.proofs.WrittenParts.{GoesOn-chunk, OnOk-taken, OnOk-fact, OnOk-map}
use Rattle.aes_cbc.proofs.into_side_by_side.write_two_rests.Goals as goal

pub chunk-preserved : goal.chunk-preserved
chunk-preserved g c =
    let inv = c.chunk.invariant in
    let next = c.encrypt_two_chunks-lasts in
    let first_ok : is_ok c.chunk.wrote.0 ≡ true = cc in
    let second_ok : is_ok c.chunk.wrote.1 ≡ true = cc in
    let first_whole : length c.split_at.result.0.now % 16 ≡ 0 = search rules in
    let second_whole : length c.split_at-in-chunk.result.0.now % 16 ≡ 0 = search rules in
    record {
      first_written =
          OnOk-map c.write_out.result
          (GoesOn-chunk _ _ _ _ c.args.keys.0.now (slice_index_or c.chunk.lasts 0 []) (slice_index_or next.result 0 []) c.split_at.result.0.now c.split_at.result.1.now c.chunk.rests.0.now _
          first_whole c.split_at.ensures.by_index.0 (c.deref.ensures.value ∙ next.ensures.first_items) next.ensures.first_last
          (OnOk-taken c.chunk.wrote.0 first_ok inv.first_written))
          c.write_out.ensures.written;
      first_before = OnOk-fact c.write_out.result (OnOk-taken c.chunk.wrote.0 first_ok inv.first_before);
      first_fault = c.write_out.ensures.fault;
      first_room = search rules;
      second_written =
          OnOk-map c.write_out-in-chunk.result
          (GoesOn-chunk _ _ _ _ c.args.keys.1.now (slice_index_or c.chunk.lasts 1 []) (slice_index_or next.result 1 []) c.split_at-in-chunk.result.0.now c.split_at-in-chunk.result.1.now c.chunk.rests.1.now _
          second_whole c.split_at-in-chunk.ensures.by_index.0 (c.deref-in-chunk.ensures.value ∙ next.ensures.second_items) next.ensures.second_last
          (OnOk-taken c.chunk.wrote.1 second_ok inv.second_written))
          c.write_out-in-chunk.ensures.written;
      second_before = OnOk-fact c.write_out-in-chunk.result (OnOk-taken c.chunk.wrote.1 second_ok inv.second_before);
      second_fault = c.write_out-in-chunk.ensures.fault;
      second_room = search rules;
    }
