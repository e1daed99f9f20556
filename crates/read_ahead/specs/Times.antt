-- Times against limits.
use Rattle.std.specs.Prelude.{ℕ, ◌-◌, ◌*◌, ◌^◌, nat_le, Bool, true, Option, None, Some}
use Rattle.std.specs.Time.{instant_nanos}
use Rattle.std.specs.declared.time.Instant.{Instant}
use Rattle.read_ahead.specs.declared.limits.TheConstants.{MOMENT}

-- a limit, in nanoseconds, has passed since something began; as said where a time isn't known
abbrev pub is_past : Option Instant → Option Instant → ℕ → Bool → Bool
is_past None now limit unknown = unknown
is_past (Some begun) None limit unknown = unknown
is_past (Some begun) (Some now) limit unknown = nat_le limit (instant_nanos now - instant_nanos begun)

-- the moment is over for which the writers of all FIFOs are waited for
abbrev pub is_moment_over : Option Instant → Option Instant → Bool
is_moment_over begun now = is_past begun now (MOMENT * 10 ^ 6) true
