-- The packets of a stream are 188 bytes long each.
use Rattle.std.proofs.Common.{◌≡◌, inl, inr, ℕ, ◌+◌, ◌≤◌, true, leb, List, [], ◌∷◌, map, length, drop, sym, subst, arith}
use Rattle.std.specs.List.{All}
use Rattle.std.proofs.lemmas.List.{length-take-le, length-drop}
use Rattle.std.proofs.lemmas.List.Elements.{All-cons, All-nil}
use Rattle.std.proofs.lemmas.Bool.{leb-true, and_parts}
use Rattle.ts_packet.specs.Packets.{fits, is_sync, IsLeastLockPoint, IsNext, AreNext, ArePositions, packet_at, ArePackets, packets}
use Rattle.cutter.specs.Ordered.{IsPacketLong}

long : (s : List ℕ) (p : ℕ) → fits s p ≡ true → IsPacketLong (packet_at s p)
long s p e =
    let within : p + 188 ≤ length s = leb-true (p + 188) (length s) ((and_parts (leb (p + 188) (length s)) (is_sync s p) e).0) in
    length-take-le 188 (drop p s) (omega (arith, within, length-drop p s))

locked : (s : List ℕ) (from p : ℕ) → IsLeastLockPoint s from p → IsPacketLong (packet_at s p)
locked s from p l = long s p (and_parts (fits s p) _ l.lock_point).0

next_long : (s : List ℕ) (e p : ℕ) → IsNext s e p → IsPacketLong (packet_at s p)
next_long s e p (inl here) = long s p (subst (λ (q : ℕ). fits s q ≡ true) (sym here.1) here.0)
next_long s e p (inr there) = locked s e p there.1

all-next : (s : List ℕ) (e : ℕ) (ps : List ℕ) → AreNext s e ps → All IsPacketLong (map (packet_at s) ps)
all-next s e [] are = All-nil IsPacketLong
all-next s e (p ∷ ps) are = All-cons IsPacketLong (packet_at s p) (map (packet_at s) ps) (next_long s e p are.0) (all-next s (p + 188) ps are.1)

all-at : (s : List ℕ) (ps : List ℕ) → ArePositions s ps → All IsPacketLong (map (packet_at s) ps)
all-at s [] are = All-nil IsPacketLong
all-at s (p ∷ ps) are = All-cons IsPacketLong (packet_at s p) (map (packet_at s) ps) (locked s 0 p are.0) (all-next s (p + 188) ps are.1)

pub packets-long : (stream : List ℕ) → ArePackets stream (packets stream) → All IsPacketLong (packets stream)
packets-long stream (ps, are, e) = subst (All IsPacketLong) (sym e) (all-at stream ps are)
