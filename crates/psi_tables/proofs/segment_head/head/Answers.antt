use Rattle.psi_tables.specs.Head.{head}
use Rattle.psi_tables.proofs.segment_head.head.Goals as goal

pub returns-clause-bytes : goal.returns-clause-bytes
unfolding head
returns-clause-bytes c =
    let pat = rw (c.new-bytes.ensures.items, c.pat_section-pat.ensures, c.stream_id.ensures, c.program.ensures, c.pmt_pid.ensures.value) at c.in_ok-append_section.ensures.packets in
    rw (pat, c.pmt_pid-2.ensures.value, c.section-section.ensures.value) at c.in_ok-append_section-2.ensures.packets
