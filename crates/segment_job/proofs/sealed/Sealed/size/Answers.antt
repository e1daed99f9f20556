use Rattle.std.proofs.Common.{sym}
use Rattle.segment_job.proofs.Sealing.{sealed_size}
use Rattle.segment_job.proofs.sealed.Sealed.size.Goals as goal

pub returns-clause-value : goal.returns-clause-value
returns-clause-value c = rw c.head_len.ensures.value (rw (sym c.self.view_is) (sealed_size _ c.self.invariant))
