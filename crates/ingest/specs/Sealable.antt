-- Plans that can be sealed.
use Rattle.ghost_list.specs.Bytes.{AreBytes}
use Rattle.psi_tables.specs.Head.{IsSendable}
use Rattle.cutter.specs.Plans.{SegmentPlan}
use Rattle.segment_job.specs.Segments.{plain}

-- a plan that can be sealed: its tables can be sent in a head, and its head and its body are bytes
pub record IsOfBytes (plan : SegmentPlan) : Type 0 where
  pub tables : IsSendable plan.tables
  pub bytes : AreBytes (plain plan)
