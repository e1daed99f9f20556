-- Who waits at a desk.
use Rattle.std.specs.Prelude.{◌≡◌, ◌<◌, ℕ, Bool, false, [], length}
use Rattle.cutter.specs.Plans.{SegmentPlan}
use Rattle.flow_core.specs.Steps.{NotFed}
use Rattle.flow_core.specs.Queues.{QueueValue, outstanding}

-- a worker waits while fewer plans than so many wait for it and more may be fed
abbrev pub WorkersWait : ℕ → QueueValue → Type 0
WorkersWait fewest q = (q.closed ≡ false) × (length q.waiting < fewest)

-- the taker waits while nothing is done and something is outstanding
abbrev pub TakerWaits : QueueValue → Type 0
TakerWaits q = (q.done ≡ []) × (0 < outstanding q)

-- what is seen of a queue
pub record Sight : Type 0 where
  pub closed : Bool
  pub waiting : ℕ
  pub done : ℕ
  pub outstanding : ℕ

abbrev pub seen_in : QueueValue → Sight
seen_in q = record { closed = q.closed; waiting = length q.waiting; done = length q.done; outstanding = outstanding q }

-- the plan comes back
abbrev pub GivesBack : SegmentPlan → NotFed → Type 0
GivesBack plan fault = fault.plan ≡ plan
