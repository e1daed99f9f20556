use Rattle.ingest.proofs.Lengths.{packets-long}
use Rattle.ladder_laws.proofs.Opening.{is-listed-behind}
use Rattle.ladder_laws.proofs.segment_laws.each_segment_opens_as_listed.Goals as goal

pub returns : goal.returns
returns c =
    is-listed-behind c.listed_rows_suffice.ensures.many (λ stream. packets-long stream (c.packets_are_at_their_positions.ensures.are stream)) c.plans_are_in_order.ensures c.plans_of_bytes_can_be_sealed.ensures
