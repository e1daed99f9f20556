use Rattle.round_trip.proofs.Returning.{comes-back}
use Rattle.round_trip.proofs.laws.what_is_packed_comes_back.Goals as goal

pub returns : goal.returns
returns c =
    comes-back c.seconds_of_ticks_are_those_of_microseconds.ensures c.faults_are_the_least.ensures.none c.listed_rows_suffice.ensures.many c.each_rendition_has_a_part.ensures
    c.each_rendition_is_seen_alone.ensures c.plans_of_bytes_are_in_order.ensures c.plans_of_bytes_can_be_sealed.ensures
