-- What is closed of a stream of bytes goes on, and is in order.
use Rattle.std.proofs.Common.{◌≡◌, ℕ, List, [], ◌++◌, Option, Some}
use Rattle.std.specs.List.{slice_get}
use Rattle.ghost_list.specs.Lists.{IsBeginning}
use Rattle.ts_packet.specs.Packets.{packets, decided, decided_from}
use Rattle.ts_packet.proofs.Decided.{decided-IsDecided}
use Rattle.ts_packet.proofs.Positions.{packets-ArePackets}
use Rattle.cutter.specs.declared.settings.CutSettings.{CutSettings}
use Rattle.cutter.specs.Plans.{SegmentPlan}
use Rattle.cutter.specs.Ordered.{IsPlan}
use Rattle.cutter.proofs.Streams.{closed-none}
use Rattle.cutter.proofs.Fronts.{closed-begin, closed-grow}
use Rattle.cutter.proofs.Ordering.{plans-at}
use Rattle.ingest.specs.declared.lane.Stop.{Stop}
use Rattle.ingest.specs.Streams.{closed_of, plans_of}
use Rattle.ingest.specs.Lanes.{made_of}
use Rattle.ingest.proofs.Fronts.{decided-grows, begins-all, grows-all, in-order}
use Rattle.ingest.proofs.Lengths.{packets-long}

-- no bytes close no plans
pub closed_of-none : (r : ℕ) (s : CutSettings) → closed_of r s [] ≡ []
unfolding closed_of decided decided_from
closed_of-none r s = closed-none r s

-- the plans that bytes close begin those of each stream that begins with the bytes
pub closed_of-begin : (r : ℕ) (s : CutSettings) (stream more : List ℕ) → IsBeginning (closed_of r s stream) (plans_of r s (stream ++ more))
closed_of-begin r s stream more =
    begins-all r s stream more ((decided-IsDecided stream).always more) (closed-begin r s) (closed-grow r s)

-- and those that more bytes close
pub closed_of-grow : (r : ℕ) (s : CutSettings) (stream more : List ℕ) → IsBeginning (closed_of r s stream) (closed_of r s (stream ++ more))
closed_of-grow r s stream more = grows-all r s stream more (decided-grows decided-IsDecided stream more) (closed-grow r s)

-- plan n of a stream is that of segment n
pub plans_of-at : (r : ℕ) (s : CutSettings) (stream : List ℕ) (n : ℕ) (plan : SegmentPlan) → slice_get (plans_of r s stream) n ≡ Some plan → IsPlan r s n plan
unfolding plans_of
plans_of-at r s stream n plan at = plans-at r s (packets stream) (packets-long stream (packets-ArePackets stream)) n plan at

-- so is each that is closed where a rendition goes on or has stopped
pub made_of-at : (stop : Option Stop) (r : ℕ) (s : CutSettings) (stream : List ℕ) (n : ℕ) (plan : SegmentPlan)
    → slice_get (made_of stop r s stream) n ≡ Some plan → IsPlan r s n plan
made_of-at stop r s stream = in-order r s stream stop (plans_of-at r s) (closed_of-begin r s stream [])
