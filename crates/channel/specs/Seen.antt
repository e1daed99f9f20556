-- Faults as players see them.
use Rattle.std.specs.Prelude.{ℕ, ◌^◌, ◌-◌, nat_lt, if◌then◌else◌}
use Rattle.ladder_items.specs.declared.fault.PackFault.{PackFault}
use Rattle.ladder_items.specs.declared.fault.PackFault.TheVariants.{Settings, Read, ReadLimit, NoProgram, NoStart, LongSegment, BigSegment, Limit, Outlet, NoMemory, Held}
use Rattle.ladder_items.specs.Ladder.{Ladder}
use Rattle.ladder_items.specs.SeenFaults.{seen_of}

-- a number, or the greatest below 2^64
abbrev pub within : ℕ → ℕ
within number = if nat_lt (2 ^ 64 - 1) number then 2 ^ 64 - 1 else number

-- a fault with the number that players see
abbrev pub as_seen : Ladder → PackFault → PackFault
as_seen ladder Settings = Settings
as_seen ladder (Read r) = Read r
as_seen ladder (ReadLimit r) = ReadLimit r
as_seen ladder (NoProgram r) = NoProgram r
as_seen ladder (NoStart r) = NoStart r
as_seen ladder (LongSegment r n) = LongSegment r (within (seen_of ladder r n))
as_seen ladder (BigSegment r n) = BigSegment r (within (seen_of ladder r n))
as_seen ladder (Limit r) = Limit r
as_seen ladder Outlet = Outlet
as_seen ladder NoMemory = NoMemory
as_seen ladder (Held r n) = Held r (within (seen_of ladder r n))
