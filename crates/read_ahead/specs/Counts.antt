-- What stands under the lock of the backlogs.
use Rattle.std.specs.Prelude.{◌≡◌, ℕ, zero, suc, false, List, [], ◌∷◌, ◌++◌, Option, None, replicate, slice_index_or}
use Rattle.std.specs.Duration.{as_nanos}
use Rattle.std.specs.declared.time.Instant.{Instant}
use Rattle.read_ahead.specs.Shares.{backlog_of}
use Rattle.read_ahead.specs.Sources.{silence_of}
use Rattle.read_ahead.specs.declared.backlog.Backlog.{Backlog}
use Rattle.read_ahead.specs.declared.counts.Counts.{Counts}
use Rattle.read_ahead.specs.declared.view.InputState.{InputState}

-- counts of so many inputs, of which none gave anything yet, and each is waited for since then
pub record Begin (counts : Counts) (count : ℕ) (since : Option Instant) : Type 0 where
  pub none_given : counts.backlogs.items ≡ replicate count (record { bytes = 0; blocks = 0; left = false })
  pub all_awaited : counts.since.items ≡ replicate count since
  pub no_news : counts.news ≡ 0

-- an input stands so: so many bytes lie ready, and it was waited for so many nanoseconds
abbrev pub shown : InputState → ℕ × ℕ
shown state = (state.bytes, as_nanos state.silent)

-- so does the input of this number at this time
abbrev pub stand_of : Option Instant → List Backlog → List (Option Instant) → ℕ → ℕ × ℕ
stand_of now backlogs since n = ((backlog_of backlogs n).bytes, silence_of (backlog_of backlogs n).left (slice_index_or since n None) now)

-- so do the first n inputs, by number
abbrev pub standing : Option Instant → List Backlog → List (Option Instant) → ℕ → List (ℕ × ℕ)
standing now backlogs since zero = []
standing now backlogs since (suc n) = standing now backlogs since n ++ stand_of now backlogs since n ∷ []
