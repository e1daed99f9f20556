-- The ranges of the options that are numbers: docs/COMMANDS.md.
use Rattle.std.specs.Prelude.{⊤, ℕ, ◌≤◌, ◌&&◌, Bool, not, nat_le, if◌then◌else◌, Option, None, Some}
use Rattle.std.specs.Option.{option_or, unwrap_or}
use Rattle.commands.specs.declared.numbers.Numbers.{Numbers}
use Rattle.commands.specs.declared.outside.Ranged.{Ranged}
use Rattle.commands.specs.declared.outside.Ranged.TheVariants.{Target, Segment, Window, Frame, Gap, Most, Program, Workers, Queue, Batch, Stall, Ahead}
use Rattle.commands.specs.declared.pool.Pool.{Pool}
use Rattle.commands.specs.declared.pool.TheConstants.{MOST_STALL, MOST_AHEAD}
use Rattle.limits.specs.declared.TheConstants.{LEAST, MOST_TARGET, MOST_WINDOW, MOST_FRAME, MOST_GAP, MOST_PACKETS, MOST_PROGRAM, MOST_WORKERS, MOST_QUEUE}

-- a number from 1 to the most that an option takes
abbrev pub IsUpTo : ℕ → ℕ → Type 0
IsUpTo number most = (LEAST ≤ number) × (number ≤ most)

-- the number of this option is within its range; one that may be left out is, where it is
abbrev pub IsWithin : Ranged → Numbers → Pool → Type 0
IsWithin Target numbers pool = IsUpTo numbers.target MOST_TARGET
IsWithin Segment numbers pool = IsUpTo numbers.segment numbers.target
IsWithin Window numbers pool = IsUpTo numbers.window MOST_WINDOW
IsWithin Frame numbers pool = IsUpTo numbers.frame MOST_FRAME
IsWithin Gap numbers pool = IsUpTo numbers.gap MOST_GAP
IsWithin Most numbers pool = IsUpTo numbers.most MOST_PACKETS
IsWithin Program numbers pool = IsUpTo (unwrap_or numbers.program LEAST) MOST_PROGRAM
IsWithin Workers numbers pool = IsUpTo pool.workers MOST_WORKERS
IsWithin Queue numbers pool = IsUpTo pool.queue MOST_QUEUE
IsWithin Batch numbers pool = IsUpTo (unwrap_or pool.batch LEAST) MOST_QUEUE
IsWithin Stall numbers pool = IsUpTo (unwrap_or pool.stall LEAST) MOST_STALL
IsWithin Ahead numbers pool = IsUpTo (unwrap_or pool.ahead LEAST) MOST_AHEAD

-- so are the numbers of all options
pub record AreWithin (numbers : Numbers) (pool : Pool) : Type 0 where
  pub target : IsWithin Target numbers pool
  pub segment : IsWithin Segment numbers pool
  pub window : IsWithin Window numbers pool
  pub frame : IsWithin Frame numbers pool
  pub gap : IsWithin Gap numbers pool
  pub most : IsWithin Most numbers pool
  pub program : IsWithin Program numbers pool
  pub workers : IsWithin Workers numbers pool
  pub queue : IsWithin Queue numbers pool
  pub batch : IsWithin Batch numbers pool
  pub stall : IsWithin Stall numbers pool
  pub ahead : IsWithin Ahead numbers pool

-- The numbers of all options that come before one are within their ranges: a packager's numbers come before those of the pool, and both in the order
-- in which help lists them.
abbrev pub BeforeSegment : Numbers → Pool → Type 0
BeforeSegment numbers pool = IsWithin Target numbers pool

abbrev pub BeforeWindow : Numbers → Pool → Type 0
BeforeWindow numbers pool = BeforeSegment numbers pool × IsWithin Segment numbers pool

abbrev pub BeforeFrame : Numbers → Pool → Type 0
BeforeFrame numbers pool = BeforeWindow numbers pool × IsWithin Window numbers pool

abbrev pub BeforeGap : Numbers → Pool → Type 0
BeforeGap numbers pool = BeforeFrame numbers pool × IsWithin Frame numbers pool

abbrev pub BeforeMost : Numbers → Pool → Type 0
BeforeMost numbers pool = BeforeGap numbers pool × IsWithin Gap numbers pool

abbrev pub BeforeProgram : Numbers → Pool → Type 0
BeforeProgram numbers pool = BeforeMost numbers pool × IsWithin Most numbers pool

abbrev pub BeforeWorkers : Numbers → Pool → Type 0
BeforeWorkers numbers pool = BeforeProgram numbers pool × IsWithin Program numbers pool

abbrev pub BeforeQueue : Numbers → Pool → Type 0
BeforeQueue numbers pool = BeforeWorkers numbers pool × IsWithin Workers numbers pool

abbrev pub BeforeBatch : Numbers → Pool → Type 0
BeforeBatch numbers pool = BeforeQueue numbers pool × IsWithin Queue numbers pool

abbrev pub BeforeStall : Numbers → Pool → Type 0
BeforeStall numbers pool = BeforeBatch numbers pool × IsWithin Batch numbers pool

abbrev pub BeforeAhead : Numbers → Pool → Type 0
BeforeAhead numbers pool = BeforeStall numbers pool × IsWithin Stall numbers pool

abbrev pub AreWithinBefore : Ranged → Numbers → Pool → Type 0
AreWithinBefore Target numbers pool = ⊤
AreWithinBefore Segment numbers pool = BeforeSegment numbers pool
AreWithinBefore Window numbers pool = BeforeWindow numbers pool
AreWithinBefore Frame numbers pool = BeforeFrame numbers pool
AreWithinBefore Gap numbers pool = BeforeGap numbers pool
AreWithinBefore Most numbers pool = BeforeMost numbers pool
AreWithinBefore Program numbers pool = BeforeProgram numbers pool
AreWithinBefore Workers numbers pool = BeforeWorkers numbers pool
AreWithinBefore Queue numbers pool = BeforeQueue numbers pool
AreWithinBefore Batch numbers pool = BeforeBatch numbers pool
AreWithinBefore Stall numbers pool = BeforeStall numbers pool
AreWithinBefore Ahead numbers pool = BeforeAhead numbers pool

-- a packager's numbers are within their ranges, whatever the pool's are
pub record AreNumbersWithin (numbers : Numbers) : Type 0 where
  pub before : (pool : Pool) → AreWithinBefore Workers numbers pool

-- whether a number is from 1 to the most that an option takes
abbrev pub is_up_to : ℕ → ℕ → Bool
is_up_to number most = nat_le LEAST number && nat_le number most

-- the first option of the pool, in the order in which help lists them, whose number is outside its range
unfoldable pub outside_of_pool : Pool → Option Ranged
outside_of_pool pool =
    if not (is_up_to pool.workers MOST_WORKERS) then Some Workers
    else if not (is_up_to pool.queue MOST_QUEUE) then Some Queue
    else if not (is_up_to (unwrap_or pool.batch LEAST) MOST_QUEUE) then Some Batch
    else if not (is_up_to (unwrap_or pool.stall LEAST) MOST_STALL) then Some Stall
    else if not (is_up_to (unwrap_or pool.ahead LEAST) MOST_AHEAD) then Some Ahead
    else None

-- the first of a packager's numbers, in that order
unfoldable pub outside_of_numbers : Numbers → Option Ranged
outside_of_numbers numbers =
    if not (is_up_to numbers.target MOST_TARGET) then Some Target
    else if not (is_up_to numbers.segment numbers.target) then Some Segment
    else if not (is_up_to numbers.window MOST_WINDOW) then Some Window
    else if not (is_up_to numbers.frame MOST_FRAME) then Some Frame
    else if not (is_up_to numbers.gap MOST_GAP) then Some Gap
    else if not (is_up_to numbers.most MOST_PACKETS) then Some Most
    else if not (is_up_to (unwrap_or numbers.program LEAST) MOST_PROGRAM) then Some Program
    else None

-- the first of a packager's numbers, else the first of the pool
abbrev pub outside_of : Numbers → Pool → Option Ranged
outside_of numbers pool = option_or (outside_of_numbers numbers) (outside_of_pool pool)
