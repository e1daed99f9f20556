use Rattle.std.proofs.Common.{length, ap, arith, length-append, length-drop}
use Rattle.ts_packet.proofs.joined.Joined.packet.Goals as goal

pub first_packet-requires : goal.first_packet-requires
first_packet-requires c =
    omega (arith, ap length c.parts_from.ensures, length-append c.parts_from.result.0.now c.parts_from.result.1.now, length-drop c.args.at c.args.self.now)
