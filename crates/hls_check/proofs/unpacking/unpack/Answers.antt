use Rattle.std.proofs.Common.{sym}
use Rattle.hls_check.proofs.unpacking.unpack.Goals as goal

pub returns-clause-err : goal.returns-clause-err
returns-clause-err c = rw (sym c.listing.view_is) (rw (sym c.deref.ensures.value) c.unpack_entries.ensures.err)
