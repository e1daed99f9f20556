-- Segments that are sealed into files.
use Rattle.std.specs.Prelude.{◌≡◌, ◌≤◌, ◌+◌, ℕ, List, [], Option, Some, length}
use Rattle.ghost_list.specs.Bytes.{AreBytes}
use Rattle.aes_cbc.specs.Block.{IsBlock}
use Rattle.psi_tables.specs.Head.{IsSendable}
use Rattle.cutter.specs.Plans.{SegmentPlan}
use Rattle.segment_job.specs.Segments.{plan_head, UnsealedSegment}
use Rattle.segment_job.specs.declared.text.Text.{Text}

-- the segment of a plan under a text's key and vector
abbrev pub made_of : SegmentPlan → Text → UnsealedSegment
made_of plan text = record { plan = plan; key = text.key; vector = text.vector }

-- the key and the vector are blocks, the head of the plan's segment is held, and there is nothing in the file yet
pub record IsOutgoing (s : UnsealedSegment) (held : List ℕ) (contents : Option (List ℕ)) : Type 0 where
  pub key : IsBlock s.key
  pub vector : IsBlock s.vector
  pub tables : IsSendable s.plan.tables
  pub head : held ≡ plan_head s.plan
  pub bytes : AreBytes held
  pub body : AreBytes s.plan.body
  pub empty : contents ≡ Some []
