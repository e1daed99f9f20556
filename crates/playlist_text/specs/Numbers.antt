-- Numbers in playlists (RFC 8216, 4.2): `decimal` of the library has no zeros in front.
use Rattle.std.specs.Prelude.{ℕ, ◌+◌, ◌*◌, ◌/◌, ◌%◌, ◌^◌, List, [], ◌∷◌, ◌++◌, map}
use Rattle.std.specs.Fmt.{decimal}

-- whole microseconds of a time in ticks of 1/90000 s, to the nearest
abbrev pub micros : ℕ → ℕ
micros ticks = (200 * ticks + 9) / 18

-- microseconds as whole seconds, to the nearest (RFC 8216, 4.3.3.1)
abbrev pub rounded_seconds : ℕ → ℕ
rounded_seconds micros = (micros + 500_000) / 1_000_000

-- the decimal digit at a place, counted from the right
abbrev pub digit : ℕ → ℕ → ℕ
digit number place = 48 + number / 10 ^ place % 10

-- the last six decimal digits, zeros in front
unfoldable pub six_digits : ℕ → List ℕ
six_digits number = map (digit number) (5 ∷ 4 ∷ 3 ∷ 2 ∷ 1 ∷ 0 ∷ [])

-- microseconds as a decimal number of seconds: the whole seconds, a point and six digits
unfoldable pub seconds : ℕ → List ℕ
seconds micros = decimal (micros / 1_000_000) ++ 46 ∷ six_digits (micros % 1_000_000)
