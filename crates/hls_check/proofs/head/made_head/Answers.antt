use Rattle.hls_check.proofs.TheHead.{made-of}
use Rattle.hls_check.proofs.head.made_head.Goals as goal

pub returns-clause-is : goal.returns-clause-is
returns-clause-is c =
    made-of c.args.pat.now c.args.section.now _ _ _ _ _ _ _ _ _ c.read_number.ensures c.read_number-2.ensures c.read_pid-pmt_pid.ensures
    c.pat_section-section_of_pat.ensures c.new-bytes.ensures.items c.in_ok-append_section.ensures.packets c.in_ok-append_section-2.ensures.packets
