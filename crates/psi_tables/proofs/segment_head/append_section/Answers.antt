use Rattle.std.proofs.Common.{◌≡◌, ◌∙◌, ◌++◌, ◌∷◌, ◌+◌, ◌-◌, true, sym, ap, length, take, drop, min}
use Rattle.std.specs.Prelude.{replicate}
use Rattle.std.proofs.lemmas.List.{drop_min}
use Rattle.psi_tables.specs.Head.{header, stuffed}
use Rattle.psi_tables.proofs.Packets.{section_next, packet_between, payload_behind, stuffed_first}
use Rattle.psi_tables.proofs.segment_head.append_section.Goals as goal

pub returns-clause-packets : goal.returns-clause-packets
returns-clause-packets c =
    let section = c.args.section.now in
    let bytes = c.args.bytes.now.items in
    let payload = c.split_at.result.0.now in
    let begin = header true c.args.pid c.args.counter in
    let later : c.split_at.result.1.now ≡ drop 183 section = rw c.min.ensures at c.split_at.ensures.back ∙ drop_min 183 section in
    let front : payload ≡ take (min 183 (length section)) section = rw c.min.ensures at c.split_at.ensures.front in
    let appended : c.append_packet.new.bytes.items ≡ bytes ++ begin ++ stuffed (0 ∷ section)
    = rw (c.header.ensures, c.from.ensures, c.in_ok-reserve.ensures.items) at c.append_packet.ensures.items
    ∙ payload_behind bytes begin 0 payload (replicate (188 - (5 + length payload)) 255)
    ∙ ap (λ packet. bytes ++ begin ++ packet) (stuffed_first section payload front) in
    rw (later, appended, c.from-2.ensures) at c.append_packets.ensures.ok
    ∙ packet_between bytes begin (stuffed (0 ∷ section)) _ ∙ ap (λ list. bytes ++ list) (sym (section_next c.args.pid c.args.counter section))
