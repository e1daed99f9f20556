use Rattle.ingest.proofs.Lengths.{packets-long}
use Rattle.ladder_laws.proofs.FrameListing.{are-listed-behind}
use Rattle.ladder_laws.proofs.segment_laws.each_segment_has_its_iframes_listed.Goals as goal

pub returns : goal.returns
returns c =
    are-listed-behind c.listed_rows_suffice.ensures.many (λ stream. packets-long stream (c.packets_are_at_their_positions.ensures.are stream)) c.plans_are_in_order.ensures
