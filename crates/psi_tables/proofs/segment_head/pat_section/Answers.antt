use Rattle.std.proofs.Common.{refl}
use Rattle.psi_tables.proofs.segment_head.pat_section.Goals as goal

pub returns : goal.returns
returns c =
    rw (c.copy_from_slice-2.ensures.after, c.copy_from_slice.ensures.after, c.to_be_bytes-4.ensures, c.crc_32.ensures, c.to_be_bytes-3.ensures, c.to_be_bytes-2.ensures, c.to_be_bytes.ensures) refl
