use Rattle.std.proofs.Common.{◌≡◌, take}
use Rattle.std.specs.List.{flat_map}
use Rattle.ts_packet.specs.Packets.{decided}
use Rattle.ts_packet.proofs.pieces.read_pieces.Given as goal

abbrev pub invariant-loop-piece : goal.invariant-loop-piece
invariant-loop-piece l = record {
  fed : l.reader ≡ flat_map (λ piece. piece.items) (take l.piece-index l.pieces);
  given : l.packets.items ≡ decided l.reader;
}
