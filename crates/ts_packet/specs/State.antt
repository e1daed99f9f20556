-- What a reader has given, and what it keeps.
use Rattle.std.specs.Prelude.{◌≡◌, ℕ, ◌+◌, ◌-◌, ◌*◌, ◌/◌, ◌<◌, Bool, true, false, if◌then◌else◌, List, [], ◌++◌, length}
use Rattle.ts_packet.specs.Packets.{packets, packets_from, decided, rest_from, rest_of, fits}
use Rattle.ts_packet.specs.declared.lengths.TheConstants.{PACKET, UNDECIDED}

-- `new` goes on from `old` as `after` does from `before`
pub record GrowsAlike (before after old new : List (List ℕ)) : Type 0 where
  pub more : List (List ℕ)
  pub grown : after ≡ before ++ more
  pub given : new ≡ old ++ more

-- how many bytes tell whether a packet begins at the front of a rest; at the end of the stream 188 do
abbrev pub needed : Bool → Bool → ℕ
needed at_end locked = if at_end then PACKET else (if locked then PACKET else UNDECIDED + 1)

-- A scan of bytes found these packets and left this rest: however the bytes go on (not at all, at the end of the
-- stream), those packets come first, and then the ones of the rest. Nothing of the rest is decided that the bytes don't decide.
pub record Finds (at_end locked : Bool) (bytes : List ℕ) (found : List (List ℕ)) (locked_then : Bool) (rest : List ℕ) : Type 0 where
  pub goes_on : (more : List ℕ) → (at_end ≡ true → more ≡ []) →
      packets_from locked 0 (bytes ++ more) ≡ found ++ packets_from locked_then 0 (rest ++ more)
  pub leaves : at_end ≡ false → (more : List ℕ) → rest_from locked 0 (bytes ++ more) ≡ rest_from locked_then 0 (rest ++ more)

-- a scan appended the packets that it found, and passed over so many bytes besides
pub record Scans (at_end locked : Bool) (bytes : List ℕ) (old new : List (List ℕ)) (locked_then : Bool) (rest : List ℕ) (passed : ℕ) : Type 0 where
  pub found : List (List ℕ)
  pub given : new ≡ old ++ found
  pub finds : Finds at_end locked bytes found locked_then rest
  pub all_counted : passed + PACKET * length found + length rest ≡ length bytes

-- what a reader keeps of the bytes that it was fed: the rest that isn't decided yet, whether a packet ends where it
-- begins, and how many bytes were passed over
pub record Keeps (fed : List ℕ) (locked : Bool) (rest : List ℕ) (passed : ℕ) : Type 0 where
  pub short : length rest < needed false locked
  pub goes_on : (more : List ℕ) → packets (fed ++ more) ≡ decided fed ++ packets_from locked 0 (rest ++ more)
  pub leaves : (more : List ℕ) → rest_of (fed ++ more) ≡ rest_from locked 0 (rest ++ more)
  pub all_counted : passed + PACKET * length (decided fed) + length rest ≡ length fed

-- so many bytes are kept: the rest that isn't decided yet
pub record IsKept (fed : List ℕ) (count : ℕ) : Type 0 where
  pub locked : Bool
  pub rest : List ℕ
  pub passed : ℕ
  pub keeps : Keeps fed locked rest passed
  pub all : count ≡ length rest

-- no packet more stands ahead in a piece, behind those that were lent, where the packet before the piece ended
abbrev pub AreAllAhead : List ℕ → List ℕ → List (List ℕ) → Type 0
AreAllAhead fed piece lent = rest_of fed ≡ record { locked = true; bytes = [] } → fits piece (PACKET * length lent) ≡ false

-- there is no room, behind so many packets, for those that may be appended besides the ones that are lent
abbrev pub LacksRoomBehind : List ℕ → List ℕ → ℕ → ℕ → Type 0
LacksRoomBehind fed piece count room =
    (lent : List (List ℕ)) × AreAllAhead fed piece lent
    × (room < count + (length (rest_of fed).bytes + (length piece - PACKET * length lent)) / PACKET)
