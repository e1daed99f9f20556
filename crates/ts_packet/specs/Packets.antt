-- The packets of a stream, by their positions in the list of all its bytes. A packet has 188 bytes, of which the first
-- is 0x47 (ISO/IEC 13818-1, 2.4.3.2). How packets are found in a stream that has other bytes between them is left to
-- the receiver: here a packet is looked for where 0x47 stands again at the places of the next two.
use Rattle.std.specs.Prelude.{◌≡◌, ℕ, zero, suc, ◌+◌, ◌-◌, ◌*◌, ◌<◌, ◌≤◌, Bool, true, false, ◌&&◌, ◌||◌, ◌==◌, ◌⊎◌, nat_le, if◌then◌else◌, List, [], ◌∷◌, ◌++◌, length, take, drop, map, slice_index}
use Rattle.ghost_list.specs.Lists.{IsBeginning}
use Rattle.std.specs.List.{flat_map}
use Rattle.ts_packet.specs.declared.lengths.TheConstants.{PACKET, UNDECIDED}

-- a sync byte stands at p
abbrev pub is_sync : List ℕ → ℕ → Bool
is_sync s p = slice_index s p == 0x47

-- a sync byte stands at p, or p lies beyond the end
abbrev pub is_sync_or_beyond : List ℕ → ℕ → Bool
is_sync_or_beyond s p = nat_le (length s) p || is_sync s p

-- a packet fits at p and begins with a sync byte
abbrev pub fits : List ℕ → ℕ → Bool
fits s p = nat_le (p + PACKET) (length s) && is_sync s p

-- so does one at p, and nothing speaks against packets at the two places behind it
abbrev pub is_lock_point : List ℕ → ℕ → Bool
is_lock_point s p = fits s p && (is_sync_or_beyond s (p + PACKET) && is_sync_or_beyond s (p + 2 * PACKET))

-- p is the least lock point from `from` on
pub record IsLeastLockPoint (s : List ℕ) (from p : ℕ) : Type 0 where
  pub from_there : from ≤ p
  pub lock_point : is_lock_point s p ≡ true
  pub least : (q : ℕ) → from ≤ q → q < p → is_lock_point s q ≡ false

abbrev pub HasNoLockPoint : List ℕ → ℕ → Type 0
HasNoLockPoint s from = (q : ℕ) → from ≤ q → is_lock_point s q ≡ false

-- behind a packet that ends at e the next is at e where one fits there, else at the least lock point from e on
abbrev pub IsNext : List ℕ → ℕ → ℕ → Type 0
IsNext s e p = ((fits s e ≡ true) × (p ≡ e)) ⊎ ((fits s e ≡ false) × IsLeastLockPoint s e p)

-- these are the positions of all packets behind a packet that ends at e
abbrev pub AreNext : List ℕ → ℕ → List ℕ → Type 0
AreNext s e [] = (fits s e ≡ false) × HasNoLockPoint s e
AreNext s e (p ∷ ps) = IsNext s e p × AreNext s (p + PACKET) ps

-- these are the positions of all packets of the stream: the first is at the least lock point
abbrev pub ArePositions : List ℕ → List ℕ → Type 0
ArePositions s [] = HasNoLockPoint s 0
ArePositions s (p ∷ ps) = IsLeastLockPoint s 0 p × AreNext s (p + PACKET) ps

abbrev pub packet_at : List ℕ → ℕ → List ℕ
packet_at s p = take PACKET (drop p s)

-- these are the packets of the stream
abbrev pub ArePackets : List ℕ → List (List ℕ) → Type 0
ArePackets s packets = (ps : List ℕ) × ArePositions s ps × (packets ≡ map (packet_at s) ps)

-- The same list, computed from the front. A packet begins at the front of s: `locked` says that one ends there.
abbrev pub begins : Bool → List ℕ → Bool
begins locked s = if locked then fits s 0 else is_lock_point s 0

-- the packets behind the bytes that are left of a packet, or behind none
unfoldable pub packets_from : Bool → ℕ → List ℕ → List (List ℕ)
packets_from locked left [] = []
packets_from locked (suc left) (b ∷ s) = packets_from locked left s
packets_from locked zero (b ∷ s) = if begins locked (b ∷ s) then take PACKET (b ∷ s) ∷ packets_from true (PACKET - 1) s else packets_from false 0 s

-- the packets of the stream
unfoldable pub packets : List ℕ → List (List ℕ)
packets s = packets_from false 0 s

-- the packets, one behind another
abbrev pub joined : List (List ℕ) → List ℕ
joined packets = flat_map (λ packet. packet) packets

-- how many bytes of the stream lie in no packet
unfoldable pub skipped : List ℕ → ℕ
skipped s = length s - PACKET * length (packets s)

-- the longest list that begins the packets of the stream however it goes on
pub record IsDecided (s : List ℕ) (front : List (List ℕ)) : Type 0 where
  pub always : (more : List ℕ) → IsBeginning front (packets (s ++ more))
  pub longest : (other : List (List ℕ)) → ((more : List ℕ) → IsBeginning other (packets (s ++ more))) → length other ≤ length front

-- Too few bytes to tell whether a packet begins at the front: behind a packet its own 188 tell, else it takes 377.
abbrev pub is_open : Bool → List ℕ → Bool
is_open locked s = nat_le (length s) (if locked then PACKET - 1 else UNDECIDED)

-- the decided packets behind the bytes that are left of a packet, or behind none
unfoldable pub decided_from : Bool → ℕ → List ℕ → List (List ℕ)
decided_from locked left [] = []
decided_from locked (suc left) (b ∷ s) = decided_from locked left s
decided_from locked zero (b ∷ s) = if is_open locked (b ∷ s) then [] else (if begins locked (b ∷ s) then take PACKET (b ∷ s) ∷ decided_from true (PACKET - 1) s else decided_from false 0 s)

-- the packets that are decided by these bytes, whatever comes behind them
unfoldable pub decided : List ℕ → List (List ℕ)
decided s = decided_from false 0 s

-- the bytes behind which nothing is decided, and whether a packet ends where they begin
pub record Rest : Type 0 where
  pub locked : Bool
  pub bytes : List ℕ

-- those behind the bytes that are left of a packet, or behind none: from the first place on where too few bytes tell
unfoldable pub rest_from : Bool → ℕ → List ℕ → Rest
rest_from locked left [] = record { locked = locked; bytes = [] }
rest_from locked (suc left) (b ∷ s) = rest_from locked left s
rest_from locked zero (b ∷ s) = if is_open locked (b ∷ s) then record { locked = locked; bytes = b ∷ s } else (if begins locked (b ∷ s) then rest_from true (PACKET - 1) s else rest_from false 0 s)

unfoldable pub rest_of : List ℕ → Rest
rest_of s = rest_from false 0 s
