use Rattle.std.proofs.Common.{◌⊎◌, inl, inr, ℕ, List}
use Rattle.ts_packet.specs.Packets.{packets}
use Rattle.cutter.specs.declared.settings.CutSettings.{CutSettings}
use Rattle.cutter.specs.declared.fault.CutFault.TheVariants.{Ended}
use Rattle.cutter.specs.Faults.{Brings, IsAtEnd, IsAtPacket}
use Rattle.ingest.specs.Streams.{fault_of}
use Rattle.ingest.proofs.lane.no_stream_has_ended.Goals as goal

brought : (r : ℕ) (s : CutSettings) (before : List (List ℕ)) (packet : List ℕ) → Brings r s before packet Ended → ⊥
brought r s before packet (inl limit) = let is = limit.0 in cc
brought r s before packet (inr place) = place.brings

told : (r : ℕ) (s : CutSettings) (ps : List (List ℕ)) → IsAtPacket r s ps Ended ⊎ IsAtEnd r s ps Ended → ⊥
told r s ps (inl at) = brought r s at.before at.packet at.brings
told r s ps (inr at) = at.brings

pub returns : goal.returns
unfolding fault_of
returns c r s stream is = told r s (packets stream) ((c.faults_stand_at_the_least_packet.ensures.whole r s (packets stream) Ended).0 is)
