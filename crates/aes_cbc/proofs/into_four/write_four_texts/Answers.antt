use Rattle.aes_cbc.proofs.WrittenParts.{written_behind}
use Rattle.aes_cbc.proofs.into_four.write_four_texts.Goals as goal

pub returns-clause-first_written : goal.returns-clause-first_written
returns-clause-first_written g c =
    written_behind c.write_out.result c.write_four_rests.result.0 _ _ _ _ _ _ _ c.deref.ensures.value c.seal_head.ensures.items
    c.write_out.ensures.written c.write_four_rests.ensures.first_before c.write_four_rests.ensures.first_written

pub returns-clause-second_written : goal.returns-clause-second_written
returns-clause-second_written g c =
    written_behind c.write_out-2.result c.write_four_rests.result.1 _ _ _ _ _ _ _ c.deref-2.ensures.value c.seal_head-2.ensures.items
    c.write_out-2.ensures.written c.write_four_rests.ensures.second_before c.write_four_rests.ensures.second_written

pub returns-clause-third_written : goal.returns-clause-third_written
returns-clause-third_written g c =
    written_behind c.write_out-3.result c.write_four_rests.result.2 _ _ _ _ _ _ _ c.deref-3.ensures.value c.seal_head-3.ensures.items
    c.write_out-3.ensures.written c.write_four_rests.ensures.third_before c.write_four_rests.ensures.third_written

pub returns-clause-fourth_written : goal.returns-clause-fourth_written
returns-clause-fourth_written g c =
    written_behind c.write_out-4.result c.write_four_rests.result.3 _ _ _ _ _ _ _ c.deref-4.ensures.value c.seal_head-4.ensures.items
    c.write_out-4.ensures.written c.write_four_rests.ensures.fourth_before c.write_four_rests.ensures.fourth_written
