use Rattle.std.proofs.Common.{◌≡◌, ◌≤◌, ◌++◌, take, false, vec_capacity}
use Rattle.cutter.specs.Cuts.{closed}
use Rattle.cutter.proofs.stream.cut_by.Given as goal

abbrev pub invariant-loop-packet : goal.invariant-loop-packet
invariant-loop-packet l = record {
  cutter : l.cutter ≡ record { rendition = l.fn.cutter.rendition; settings = l.fn.cutter.settings; list = take l.packet-index l.packets; ended = false };
  room : vec_capacity l.fn.out ≤ vec_capacity l.out;
  out : l.out.items ≡ l.fn.out.items ++ closed l.fn.cutter.rendition l.fn.cutter.settings (take l.packet-index l.packets);
}
