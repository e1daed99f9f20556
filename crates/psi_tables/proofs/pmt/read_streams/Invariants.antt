use Rattle.std.proofs.Common.{◌≡◌, ◌+◌, ◌-◌, ◌*◌, ◌<◌, ◌≢◌, true, false, [], length, Some, is_some}
use Rattle.psi_tables.specs.ProgramMap.{streams}
use Rattle.psi_tables.proofs.Entries.{behind, streams_from}
use Rattle.psi_tables.proofs.pmt.read_streams.Given as goal

abbrev pub invariant-loop-at : goal.invariant-loop-at
invariant-loop-at l = record {
  below : l.at < 2 * 4096;
  whole : is_some (streams l.fn.descriptors l.bytes) ≡ is_some (streams_from l.at l.bytes);
  so_far : l.refused ≡ false → streams l.fn.descriptors l.bytes ≡ behind l.entries.items (streams_from l.at l.bytes);
  some : l.refused ≡ true → streams l.fn.descriptors l.bytes ≢ Some [];
}

abbrev pub decreases-loop-at : goal.decreases-loop-at
decreases-loop-at l = length l.bytes + 1 - l.at
