use Rattle.std.proofs.Common.{◌≡◌, ◌++◌, take}
use Rattle.cutter.specs.Cuts.{closed}
use Rattle.ingest.specs.Streams.{GrowsAlike}
use Rattle.ingest.proofs.intake.push_all.Given as goal

abbrev pub invariant-loop-packet : goal.invariant-loop-packet
invariant-loop-packet l = record {
  cutter : l.cutter ≡ record l.fn.cutter { list = l.fn.cutter.list ++ take l.packet-index l.packets; filled = l.cutter.filled };
  plans : GrowsAlike l.fn.cutter.rendition l.fn.cutter.settings (closed l.fn.cutter.rendition l.fn.cutter.settings l.fn.cutter.list)
      (closed l.fn.cutter.rendition l.fn.cutter.settings (l.fn.cutter.list ++ take l.packet-index l.packets))
      l.fn.cutter.filled l.cutter.filled;
}
