-- How many threads seal a ladder's segments, how many segments may wait for them, and how inputs are read ahead.
use Rattle.std.specs.Prelude.{◌≤◌}
use Rattle.std.specs.Option.{unwrap_or}
use Rattle.commands.specs.declared.pool.Pool.{Pool}
use Rattle.commands.specs.declared.pool.PoolWords.{PoolWords}
use Rattle.commands.specs.declared.pool.TheConstants.{MOST_STALL, MOST_AHEAD}
use Rattle.limits.specs.declared.TheConstants.{LEAST, MOST_WORKERS, MOST_QUEUE}

-- four workers and sixteen segments, where no numbers are given
abbrev pub pool_of : PoolWords → Pool
pool_of words = record {
  workers = unwrap_or words.workers 4;
  queue = unwrap_or words.queue 16;
  batch = words.batch;
  stall = words.stall;
  ahead = words.ahead;
}

-- an input may be silent for so many seconds, and so many MiB are read ahead, where that is bounded
pub record IsReadWithin (pool : Pool) : Type 0 where
  pub stall_is : (LEAST ≤ unwrap_or pool.stall LEAST) × (unwrap_or pool.stall LEAST ≤ MOST_STALL)
  pub ahead_is : (LEAST ≤ unwrap_or pool.ahead LEAST) × (unwrap_or pool.ahead LEAST ≤ MOST_AHEAD)

-- so many workers, so many segments on their way, and a round that begins with no more, where that is asked for
pub record IsPool (pool : Pool) : Type 0 where
  pub workers_are : (LEAST ≤ pool.workers) × (pool.workers ≤ MOST_WORKERS)
  pub queue_is : (LEAST ≤ pool.queue) × (pool.queue ≤ MOST_QUEUE)
  pub batch_is : (LEAST ≤ unwrap_or pool.batch LEAST) × (unwrap_or pool.batch LEAST ≤ MOST_QUEUE)
  pub read_is : IsReadWithin pool
