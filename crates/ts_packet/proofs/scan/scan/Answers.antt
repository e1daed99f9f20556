use Rattle.std.proofs.Common.{◌-◌, ◌≤◌, length, sym, arith}
use Rattle.ts_packet.specs.State.{needed}
use Rattle.ts_packet.proofs.Scanning.{needed-least, Scans-packet, Scans-other}
use Rattle.ts_packet.proofs.scan.scan.Goals as goal

pub loop-at-preserved-then-begins : goal.loop-at-preserved-then-begins
loop-at-preserved-then-begins c =
    let long : needed c.args.at_end c.loop-at.locked ≤ length c.args.bytes.now - c.loop-at.at = omega arith in
    let whole : 188 ≤ length c.args.bytes.now - c.loop-at.at = needed-least _ _ _ long in
    record {
      within = omega arith;
      counted = omega arith;
      room = omega (arith, c.push_reserved.ensures.len, c.push_reserved.ensures.capacity);
      kept = omega (arith, c.push_reserved.ensures.capacity);
      scans = rw c.push_reserved.ensures.items
          (Scans-packet _ _ _ _ _ _ _ _ _ c.loop-at.invariant.scans long (sym c.if-begins.ensures) c.packet.ensures);
    }

pub loop-at-preserved : goal.loop-at-preserved
loop-at-preserved c =
    let long : needed c.args.at_end c.loop-at.locked ≤ length c.args.bytes.now - c.loop-at.at = omega arith in
    let whole : 188 ≤ length c.args.bytes.now - c.loop-at.at = needed-least _ _ _ long in
    record {
      within = omega arith;
      counted = omega arith;
      room = omega arith;
      kept = omega arith;
      scans = Scans-other _ _ _ _ _ _ _ _ c.loop-at.invariant.scans long (sym c.if-begins.ensures);
    }
