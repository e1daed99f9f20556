-- How often a source gave bytes, and how often it failed.
use Rattle.std.specs.Prelude.{◌≡◌, ℕ, ◌+◌, ◌^◌, ◌<◌}
use Rattle.commands.specs.declared.reading.ReadingFault.{ReadingFault}
use Rattle.commands.specs.declared.reading.ReadingFault.TheVariants as reading
use Rattle.commands.specs.declared.sealing.SealingFault.{SealingFault}
use Rattle.commands.specs.declared.sealing.SealingFault.TheVariants as sealing
use Rattle.commands.specs.declared.opening.OpeningFault.{OpeningFault}
use Rattle.commands.specs.declared.opening.OpeningFault.TheVariants as opening
use Rattle.item_io.specs.declared.limits.TheConstants.{READS}

-- room for what a command adds to the counts
pub record HasRoom (reads failures : ℕ) : Type 0 where
  pub reads_fit : reads < 2 ^ 62
  pub failures_fit : failures < 2 ^ 62

-- 2^40 reads each gave a byte, and none failed
pub record ReadsMost (reads reads_then failures failures_then : ℕ) : Type 0 where
  pub each_gave : reads_then ≡ reads + READS
  pub none_failed : failures_then ≡ failures

-- fewer than 2^40 reads gave a byte, and none failed
pub record ReadsFewer (reads reads_then failures failures_then : ℕ) : Type 0 where
  pub fewer : reads_then < reads + READS
  pub none_failed : failures_then ≡ failures

-- fewer than 2^40 reads gave a byte, and the last read failed
pub record ReadsToFailure (reads reads_then failures failures_then : ℕ) : Type 0 where
  pub fewer : reads_then < reads + READS
  pub last_failed : failures_then ≡ failures + 1

-- what the counts say where an input wasn't read to its end
abbrev pub ReadingCounts : ℕ → ℕ → ℕ → ℕ → ReadingFault → Type 0
ReadingCounts reads reads_then failures failures_then reading.Unread = ReadsToFailure reads reads_then failures failures_then
ReadingCounts reads reads_then failures failures_then reading.ReadLimit = ReadsMost reads reads_then failures failures_then
ReadingCounts reads reads_then failures failures_then reading.NoMemory = ReadsFewer reads reads_then failures failures_then

-- what they say at each fault of `seal`
abbrev pub SealingCounts : ℕ → ℕ → ℕ → ℕ → SealingFault → Type 0
SealingCounts reads reads_then failures failures_then sealing.Unread = ReadsToFailure reads reads_then failures failures_then
SealingCounts reads reads_then failures failures_then sealing.ReadLimit = ReadsMost reads reads_then failures failures_then
SealingCounts reads reads_then failures failures_then sealing.Unwritten = ReadsFewer reads reads_then failures failures_then
SealingCounts reads reads_then failures failures_then sealing.NoMemory = ReadsFewer reads reads_then failures failures_then

-- what they say at each fault of `open`
abbrev pub OpeningCounts : ℕ → ℕ → ℕ → ℕ → OpeningFault → Type 0
OpeningCounts reads reads_then failures failures_then opening.Unread = ReadsToFailure reads reads_then failures failures_then
OpeningCounts reads reads_then failures failures_then opening.ReadLimit = ReadsMost reads reads_then failures failures_then
OpeningCounts reads reads_then failures failures_then opening.BadHex = ReadsFewer reads reads_then failures failures_then
OpeningCounts reads reads_then failures failures_then opening.NotBlocks = ReadsFewer reads reads_then failures failures_then
OpeningCounts reads reads_then failures failures_then opening.BadPadding = ReadsFewer reads reads_then failures failures_then
OpeningCounts reads reads_then failures failures_then opening.Unwritten = ReadsFewer reads reads_then failures failures_then
OpeningCounts reads reads_then failures failures_then opening.NoMemory = ReadsFewer reads reads_then failures failures_then
