use Rattle.std.proofs.Common.{◌≡◌, ◌%◌, true, [], length, slice_index_or, refl, rules}
use Rattle.std.specs.Prelude.{is_ok}
use Rattle.aes_cbc.proofs.WrittenParts.{GoesOn-chunk, OnOk-taken, OnOk-fact, OnOk-map}
use Rattle.aes_cbc.proofs.into_four.write_four_rests.Goals as goal

pub chunk-preserved : goal.chunk-preserved
chunk-preserved g c =
    let inv = c.chunk.invariant in
    let next = c.write_four_chunks in
    let first_ok : is_ok c.chunk.wrote.0 ≡ true = cc in
    let second_ok : is_ok c.chunk.wrote.1 ≡ true = cc in
    let third_ok : is_ok c.chunk.wrote.2 ≡ true = cc in
    let fourth_ok : is_ok c.chunk.wrote.3 ≡ true = cc in
    let first_whole : length c.split_at.result.0.now % 16 ≡ 0 = search rules in
    let second_whole : length c.split_at-in-chunk.result.0.now % 16 ≡ 0 = search rules in
    let third_whole : length c.split_at-in-chunk-2.result.0.now % 16 ≡ 0 = search rules in
    let fourth_whole : length c.split_at-in-chunk-3.result.0.now % 16 ≡ 0 = search rules in
    record {
      first_written =
          OnOk-map next.result.1.0
          (GoesOn-chunk _ _ _ _ c.args.keys.0.now (slice_index_or c.chunk.lasts 0 []) (slice_index_or next.result.0 0 []) c.split_at.result.0.now c.split_at.result.1.now c.chunk.rests.0.now _
          first_whole c.split_at.ensures.by_index.0 refl next.ensures.first_last
          (OnOk-taken c.chunk.wrote.0 first_ok inv.first_written))
          next.ensures.first_written;
      first_before = OnOk-fact next.result.1.0 (OnOk-taken c.chunk.wrote.0 first_ok inv.first_before);
      first_fault = next.ensures.first_fault;
      first_room = search rules;
      second_written =
          OnOk-map next.result.1.1
          (GoesOn-chunk _ _ _ _ c.args.keys.1.now (slice_index_or c.chunk.lasts 1 []) (slice_index_or next.result.0 1 []) c.split_at-in-chunk.result.0.now c.split_at-in-chunk.result.1.now c.chunk.rests.1.now _
          second_whole c.split_at-in-chunk.ensures.by_index.0 refl next.ensures.second_last
          (OnOk-taken c.chunk.wrote.1 second_ok inv.second_written))
          next.ensures.second_written;
      second_before = OnOk-fact next.result.1.1 (OnOk-taken c.chunk.wrote.1 second_ok inv.second_before);
      second_fault = next.ensures.second_fault;
      second_room = search rules;
      third_written =
          OnOk-map next.result.1.2
          (GoesOn-chunk _ _ _ _ c.args.keys.2.now (slice_index_or c.chunk.lasts 2 []) (slice_index_or next.result.0 2 []) c.split_at-in-chunk-2.result.0.now c.split_at-in-chunk-2.result.1.now c.chunk.rests.2.now _
          third_whole c.split_at-in-chunk-2.ensures.by_index.0 refl next.ensures.third_last
          (OnOk-taken c.chunk.wrote.2 third_ok inv.third_written))
          next.ensures.third_written;
      third_before = OnOk-fact next.result.1.2 (OnOk-taken c.chunk.wrote.2 third_ok inv.third_before);
      third_fault = next.ensures.third_fault;
      third_room = search rules;
      fourth_written =
          OnOk-map next.result.1.3
          (GoesOn-chunk _ _ _ _ c.args.keys.3.now (slice_index_or c.chunk.lasts 3 []) (slice_index_or next.result.0 3 []) c.split_at-in-chunk-3.result.0.now c.split_at-in-chunk-3.result.1.now c.chunk.rests.3.now _
          fourth_whole c.split_at-in-chunk-3.ensures.by_index.0 refl next.ensures.fourth_last
          (OnOk-taken c.chunk.wrote.3 fourth_ok inv.fourth_written))
          next.ensures.fourth_written;
      fourth_before = OnOk-fact next.result.1.3 (OnOk-taken c.chunk.wrote.3 fourth_ok inv.fourth_before);
      fourth_fault = next.ensures.fourth_fault;
      fourth_room = search rules;
    }
