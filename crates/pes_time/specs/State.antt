-- What a clock keeps of the PTS values that it was pushed.
use Rattle.std.specs.Prelude.{◌≡◌, ℕ, ◌+◌, ◌<◌, ◌≤◌, ◌^◌, pos, ◌+ℤ◌, unsigned_abs, nat_lt, if◌then◌else◌, length, Option, Some, None}
use Rattle.pes_time.specs.declared.clock.Stamp.{Stamp}
use Rattle.pes_time.specs.declared.clock.Last.{Last}
use Rattle.pes_time.specs.declared.clock.Clock.TheInside.{Inside}
use Rattle.pes_time.specs.Times.{Pushed, step, stamp_of}

abbrev pub clock_value : Inside → Pushed
clock_value c = record { gap = c.gap; list = c.pushed.items }

-- the stamp of a PTS behind the last PTS and its stamp, or behind none
abbrev pub stamp_behind : ℕ → Option Last → ℕ → Stamp
stamp_behind gap None p = record { time = pos p; epoch = 0 }
stamp_behind gap (Some l) p =
    record { time = l.stamp.time +ℤ step l.pts p; epoch = if nat_lt gap (unsigned_abs (step l.pts p)) then l.stamp.epoch + 1 else l.stamp.epoch }

-- the last PTS has 33 bits, its time is in range, and there are at most so many epochs
abbrev pub IsInRange : ℕ → Option Last → Type 0
IsInRange most None = Unit {0}
IsInRange most (Some l) = (l.pts < 2 ^ 33) × (unsigned_abs l.stamp.time ≤ 2 ^ 62) × (l.stamp.epoch ≤ most)

-- the last PTS and its stamp tell all that counts of the list
pub record IsTied (c : Inside) : Type 0 where
  pub goes_on : (p : ℕ) → stamp_of c.gap c.pushed.items p ≡ stamp_behind c.gap c.last p
  pub in_range : IsInRange (length c.pushed.items) c.last
