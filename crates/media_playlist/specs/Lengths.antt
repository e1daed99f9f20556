-- How long playlists last at most, in microseconds.
use Rattle.std.specs.Prelude.{ℕ, ◌+◌, ◌*◌, max}

-- a row that rounds to the target duration in seconds (RFC 8216, 4.3.3.1)
abbrev pub longest_row : ℕ → ℕ
longest_row target = target * 1_000_000 + 499_999

-- a playlist that lists so many rows at most, or as few as last three target durations (RFC 8216, 6.2.2)
abbrev pub longest_playlist : ℕ → ℕ → ℕ
longest_playlist target rows = max (rows * longest_row target) (3 * target * 1_000_000 + longest_row target)

-- what suffices behind a run that lists at least so many rows, or all of its rows where there are at most so many: the longest of
-- its playlists, and a row
abbrev pub least_behind : ℕ → ℕ → ℕ → ℕ
least_behind target window listed = longest_playlist target (max window listed) + longest_row target
