-- Which number players see of a segment that a fault names.
use Rattle.std.specs.Prelude.{ℕ, Option, Some, None}
use Rattle.segment_job.specs.Rotation.{number_of}
use Rattle.ladder_items.specs.declared.fault.PackFault.{PackFault}
use Rattle.ladder_items.specs.declared.fault.PackFault.TheVariants.{Settings, Read, ReadLimit, NoProgram, NoStart, LongSegment, BigSegment, Limit, Outlet, NoMemory, Held}
use Rattle.ladder_items.specs.Ladder.{Ladder, rendition_at}

-- segment n of the run, of rendition r, by the number that goes on from run to run
abbrev pub seen_of : Ladder → ℕ → ℕ → ℕ
seen_of ladder r n = number_of (rendition_at ladder r).keys n

-- the number of the segment that a fault names, where it names one
abbrev pub seen_number : Ladder → PackFault → Option ℕ
seen_number ladder Settings = None
seen_number ladder (Read r) = None
seen_number ladder (ReadLimit r) = None
seen_number ladder (NoProgram r) = None
seen_number ladder (NoStart r) = None
seen_number ladder (LongSegment r n) = Some (seen_of ladder r n)
seen_number ladder (BigSegment r n) = Some (seen_of ladder r n)
seen_number ladder (Limit r) = None
seen_number ladder Outlet = None
seen_number ladder NoMemory = None
seen_number ladder (Held r n) = Some (seen_of ladder r n)
