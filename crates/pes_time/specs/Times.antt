-- The times of a list of PTS values. A PTS counts periods of a 90 kHz clock modulo 2^33 (ISO/IEC 13818-1, 2.4.3.7); a
-- time is that count without the modulus. A jump between two times that is too long begins a new epoch.
use Rattle.std.specs.Prelude.{◌≡◌, ℕ, ◌+◌, ◌<◌, ◌^◌, ℤ, pos, ◌+ℤ◌, ◌-ℤ◌, ◌*ℤ◌, ◌≤ℤ◌, ◌<ℤ◌, unsigned_abs, Bool, ◌&&◌, nat_lt, nat_le, if◌then◌else◌, List, [], ◌∷◌, ◌++◌, All, length, slice_index_or}
use Rattle.std.specs.List.{count_by}
use Rattle.pes_time.specs.declared.clock.Stamp.{Stamp}

-- numbers of 33 bits
abbrev pub ArePts : List ℕ → Type 0
ArePts list = All (λ pts. pts < 2 ^ 33) list

-- the time that follows the time before: equal to its PTS modulo 2^33, and less than half a turn on, or at most half a
-- turn back
pub record IsNext (before : ℤ) (pts : ℕ) (time : ℤ) : Type 0 where
  pub congruent : (turns : ℤ) × (time ≡ pos pts +ℤ (turns *ℤ pos (2 ^ 33)))
  pub from : before ≤ℤ (time +ℤ pos (2 ^ 32))
  pub below : time <ℤ (before +ℤ pos (2 ^ 32))

-- these are the times of the PTS values behind the time before
abbrev pub AreNext : ℤ → List ℕ → List ℤ → Type 0
AreNext before [] [] = Unit {0}
AreNext before (p ∷ list) (u ∷ us) = IsNext before p u × AreNext u list us
AreNext before [] (u ∷ us) = ⊥
AreNext before (p ∷ list) [] = ⊥

-- these are the times of all PTS values: the first is the first PTS
abbrev pub AreTimes : List ℕ → List ℤ → Type 0
AreTimes [] [] = Unit {0}
AreTimes (p ∷ list) (u ∷ us) = (u ≡ pos p) × AreNext u list us
AreTimes [] (u ∷ us) = ⊥
AreTimes (p ∷ list) [] = ⊥

-- The same list, computed: how far the time moves where the PTS goes from q to p.
abbrev pub step : ℕ → ℕ → ℤ
step q p =
    if nat_le (q + 2 ^ 32) p then pos p -ℤ pos q -ℤ pos (2 ^ 33)
    else (if nat_lt (p + 2 ^ 32) q then pos p -ℤ pos q +ℤ pos (2 ^ 33)
    else pos p -ℤ pos q)

-- the times behind a time and its PTS
unfoldable pub times_from : ℤ → ℕ → List ℕ → List ℤ
times_from u q [] = []
times_from u q (p ∷ list) = (u +ℤ step q p) ∷ times_from (u +ℤ step q p) p list

-- the times of all PTS values
unfoldable pub times : List ℕ → List ℤ
times [] = []
times (p ∷ list) = pos p ∷ times_from (pos p) p list

-- how far each time lies from the one before
unfoldable pub distances_from : ℤ → List ℤ → List ℕ
distances_from before [] = []
distances_from before (u ∷ us) = unsigned_abs (u -ℤ before) ∷ distances_from u us

unfoldable pub distances : List ℤ → List ℕ
distances [] = []
distances (u ∷ us) = distances_from u us

-- the epoch of the last of the times: how many of them lie more than the gap from the one before
unfoldable pub epoch : ℕ → List ℤ → ℕ
epoch gap us = count_by (nat_lt gap) (distances us)

-- the time and the epoch of a PTS that comes behind a list of others
unfoldable pub stamp_of : ℕ → List ℕ → ℕ → Stamp
stamp_of gap list pts =
    record { time = slice_index_or (times (list ++ pts ∷ [])) (length list) (pos 0); epoch = epoch gap (times (list ++ pts ∷ [])) }

-- the time lies from -2^62 to 2^62
abbrev pub is_in_range : ℤ → Bool
is_in_range time = nat_le (unsigned_abs time) (2 ^ 62)

-- the PTS has 33 bits, and its time is in range
unfoldable pub is_taken : ℕ → List ℕ → ℕ → Bool
is_taken gap list pts = nat_lt pts (2 ^ 33) && is_in_range (stamp_of gap list pts).time

-- what a clock stands for: its gap, and the PTS values that it was pushed
pub record Pushed : Type 0 where
  pub gap : ℕ
  pub list : List ℕ
