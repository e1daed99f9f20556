use Rattle.std.proofs.Common.{◌≡◌, ◌∙◌, ◌++◌, ◌+◌, ◌-◌, ◌<◌, false, sym, ap, length, take, drop, min, rules, arith}
use Rattle.std.specs.Prelude.{replicate}
use Rattle.std.proofs.lemmas.List.{append-nil, append_assoc, drop_min, length-drop}
use Rattle.psi_tables.specs.Head.{header, stuffed}
use Rattle.psi_tables.proofs.Packets.{packets_next, packets_none, packet_between, stuffed_by}
use Rattle.psi_tables.proofs.segment_head.append_packets.Goals as goal

pub packet-preserved : goal.packet-preserved
packet-preserved c =
    let rest = c.packet.rest.now in
    let payload = c.split_at.result.0.now in
    let begin = header false c.args.pid c.packet.counter in
    let some : 0 < length rest = search rules in
    let later : c.split_at.result.1.now ≡ drop 184 rest = rw c.min.ensures at c.split_at.ensures.back ∙ drop_min 184 rest in
    let front : payload ≡ take (min 184 (length rest)) rest = rw c.min.ensures at c.split_at.ensures.front in
    let appended : c.append_packet.new.bytes.items ≡ c.packet.bytes.items ++ begin ++ stuffed rest
    = rw c.header.ensures at c.append_packet.ensures.items
    ∙ append_assoc (c.packet.bytes.items ++ begin) payload (replicate (188 - (4 + length payload)) 255)
    ∙ ap (λ packet. c.packet.bytes.items ++ begin ++ packet) (stuffed_by rest payload front) in
    let next = packets_next false c.args.pid c.packet.counter rest some in
    record {
      written = rw (later, appended) (packet_between c.packet.bytes.items begin (stuffed rest) _ ∙ ap (λ list. c.packet.bytes.items ++ list) (sym next) ∙ c.packet.invariant.written);
      below = rw (later, length-drop 184 rest) (omega (arith, some));
      kept = omega (arith, c.append_packet.ensures.kept, c.packet.invariant.kept);
      room = rw (later, length-drop 184 rest) (omega (arith, some, c.packet.invariant.room, c.append_packet.ensures.len, c.append_packet.ensures.kept));
    }

pub returns-clause-ok : goal.returns-clause-ok
returns-clause-ok c =
    let none : length c.packet.rest.now ≡ 0 = search rules in
    sym (append-nil _) ∙ ap (λ list. c.packet.bytes.items ++ list) (sym (packets_none false c.args.pid c.packet.counter c.packet.rest.now none)) ∙ c.packet.invariant.written
