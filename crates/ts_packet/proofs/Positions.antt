-- `packets` are the packets at the positions that the definition asks for, and there are no other such positions.
use Rattle.std.proofs.Common.{◌≡◌, ℕ, zero, suc, ◌+◌, ◌-◌, ◌<◌, ◌≤◌, Bool, true, false, leb, List, [], ◌∷◌, length, take, drop, map, get_or, refl, sym, ◌∙◌, ap, arith, length-drop, add-zero, inl, inr}
use Rattle.std.proofs.lemmas.Bool.{cases_Bool, and_left, lt-leb, cases_order, both_ways}
use Rattle.std.proofs.lemmas.Bool.Decides.{nat_tests}
use Rattle.std.proofs.lemmas.List.{get_or-drop, drop-drop, drop_all}
use Rattle.ts_packet.specs.Packets.{fits, is_lock_point, begins, packets_from, packets, packet_at, IsLeastLockPoint, HasNoLockPoint, IsNext, AreNext, ArePositions, ArePackets}
use Rattle.ts_packet.proofs.Front.{packets_from-packet, packets_from-other}

leb-moved : (p n m : ℕ) → 0 < n → leb (p + n) m ≡ leb n (m - p)
leb-moved p n m h = grind (arith, nat_tests)

leb-moved_back : (p n m : ℕ) → 0 < n → leb m (p + n) ≡ leb (m - p) n
leb-moved_back p n m h = grind (arith, nat_tests)

-- a test at a position is the test at the front of what stands there
fits-drop : (s : List ℕ) (p : ℕ) → fits s p ≡ fits (drop p s) 0
fits-drop s p =
    let far : leb (p + 188) (length s) ≡ leb 188 (length (drop p s)) = rw length-drop (leb-moved p 188 (length s) (omega arith)) in
    let here : get_or s p 0 ≡ get_or (drop p s) 0 0 = sym (get_or-drop p s 0 0 ∙ ap (λ (n : ℕ). get_or s n 0) (add-zero p)) in
    cc

is_lock_point-drop : (s : List ℕ) (p : ℕ) → is_lock_point s p ≡ is_lock_point (drop p s) 0
is_lock_point-drop s p =
    let fit = fits-drop s p in
    let beyond : leb (length s) (p + 188) ≡ leb (length (drop p s)) 188 = rw length-drop (leb-moved_back p 188 (length s) (omega arith)) in
    let beyond_two : leb (length s) (p + 376) ≡ leb (length (drop p s)) 376 = rw length-drop (leb-moved_back p 376 (length s) (omega arith)) in
    let next : get_or s (p + 188) 0 ≡ get_or (drop p s) 188 0 = sym (get_or-drop p s 188 0) in
    let second : get_or s (p + 376) 0 ≡ get_or (drop p s) 376 0 = sym (get_or-drop p s 376 0) in
    cc

fits-beyond : (s : List ℕ) (p : ℕ) → length s ≤ p → fits s p ≡ false
fits-beyond s p h = and_left _ _ (lt-leb (p + 188) (length s) (omega arith))

HasNoLockPoint-beyond : (s : List ℕ) (p : ℕ) → length s ≤ p → HasNoLockPoint s p
HasNoLockPoint-beyond s p h = λ q k. and_left _ _ (fits-beyond s q (omega arith))

-- the positions from `from` on, where no packet ends there
abbrev AreFrom : List ℕ → ℕ → List ℕ → Type 0
AreFrom s from [] = HasNoLockPoint s from
AreFrom s from (p ∷ ps) = IsLeastLockPoint s from p × AreNext s (p + 188) ps

from_earlier : (s : List ℕ) (from : ℕ) (ps : List ℕ) → is_lock_point s from ≡ false → AreFrom s (from + 1) ps → AreFrom s from ps
from_earlier s from [] unbegun later = λ q h. elim (cases_order from q) [
  | inl e ↦ ap (is_lock_point s) (sym e) ∙ unbegun
  | inr o ↦ elim o [ inl lt ↦ later q (omega arith) | inr gt ↦ absurd (omega arith) ]
]
from_earlier s from (p ∷ ps) unbegun later = (
  record {
    from_there = let k = later.0.from_there in omega arith;
    lock_point = later.0.lock_point;
    least = λ q h k. elim (cases_order from q) [
      | inl e ↦ ap (is_lock_point s) (sym e) ∙ unbegun
      | inr o ↦ elim o [ inl lt ↦ later.0.least q (omega arith) k | inr gt ↦ absurd (omega arith) ]
    ];
  },
  later.1,
)

next_from : (s : List ℕ) (e : ℕ) (ps : List ℕ) → fits s e ≡ false → AreFrom s e ps → AreNext s e ps
next_from s e [] unbegun from = (unbegun, from)
next_from s e (p ∷ ps) unbegun from = (inr (unbegun, from.0), from.1)

-- the positions from p on, behind a packet or behind none
abbrev Are : Bool → List ℕ → ℕ → List ℕ → Type 0
Are true s p ps = AreNext s p ps
Are false s p ps = AreFrom s p ps

record Placed (locked : Bool) (s : List ℕ) (p : ℕ) : Type 0 where
  pub positions : List ℕ
  pub are : Are locked s p positions
  pub packets : packets_from locked 0 (drop p s) ≡ map (packet_at s) positions

none_beyond : (locked : Bool) (s : List ℕ) (p : ℕ) → length s ≤ p → Are locked s p []
none_beyond true s p h = (fits-beyond s p h, HasNoLockPoint-beyond s p h)
none_beyond false s p h = HasNoLockPoint-beyond s p h

one_here : (locked : Bool) (s : List ℕ) (p : ℕ) (ps : List ℕ) → begins locked (drop p s) ≡ true → AreNext s (p + 188) ps → Are locked s p (p ∷ ps)
one_here true s p ps begun next = (inl (fits-drop s p ∙ begun, refl), next)
one_here false s p ps begun next =
    (record { from_there = omega arith; lock_point = is_lock_point-drop s p ∙ begun; least = λ q h k. absurd (omega arith) }, next)

none_here : (locked : Bool) (s : List ℕ) (p : ℕ) (ps : List ℕ) → begins locked (drop p s) ≡ false → AreFrom s (p + 1) ps → Are locked s p ps
none_here true s p ps unbegun later = let n = fits-drop s p ∙ unbegun in next_from s p ps n (from_earlier s p ps (and_left _ _ n) later)
none_here false s p ps unbegun later = from_earlier s p ps (is_lock_point-drop s p ∙ unbegun) later

placed : (n : ℕ) (locked : Bool) (s : List ℕ) (p : ℕ) → length s ≤ p + n → Placed locked s p
placed zero locked s p h =
    record { positions = []; are = none_beyond locked s p (omega arith); packets = rw (drop_all p s (omega arith)) (unfold packets_from in refl) }
placed (suc n) locked s p h = elim (cases_Bool (begins locked (drop p s))) [
  | inl begun ↦
      let r = placed n true s (p + 188) (omega arith) in
      record {
        positions = p ∷ r.positions;
        are = one_here locked s p r.positions begun r.are;
        packets = packets_from-packet locked (drop p s) begun ∙ rw (drop-drop 188 p s) (ap (λ (xs : List (List ℕ)). take 188 (drop p s) ∷ xs) r.packets);
      }
  | inr unbegun ↦
      let r = placed n false s (p + 1) (omega arith) in
      record {
        positions = r.positions;
        are = none_here locked s p r.positions unbegun r.are;
        packets = packets_from-other locked (drop p s) unbegun ∙ rw (drop-drop 1 p s) r.packets;
      }
]

AreFrom-ArePositions : (s : List ℕ) (ps : List ℕ) → AreFrom s 0 ps → ArePositions s ps
AreFrom-ArePositions s [] are = are
AreFrom-ArePositions s (p ∷ ps) are = are

pub packets-ArePackets : (s : List ℕ) → ArePackets s (packets s)
unfolding packets
packets-ArePackets s = let r = placed (length s) false s 0 (omega arith) in (r.positions, AreFrom-ArePositions s r.positions r.are, r.packets)

-- no other positions meet the definition
least_once : (s : List ℕ) (from p q : ℕ) → IsLeastLockPoint s from p → IsLeastLockPoint s from q → p ≡ q
least_once s from p q a b = elim (cases_order p q) [
  | inl e ↦ e
  | inr o ↦ elim o [
    | inl lt ↦ absurd (both_ways (is_lock_point s p) (b.least p a.from_there lt) a.lock_point)
    | inr gt ↦ absurd (both_ways (is_lock_point s q) (a.least q b.from_there gt) b.lock_point)
  ]
]

next_once : (s : List ℕ) (e p q : ℕ) → IsNext s e p → IsNext s e q → p ≡ q
next_once s e p q (inl a) (inl b) = a.1 ∙ sym b.1
next_once s e p q (inl a) (inr b) = absurd (both_ways (fits s e) b.0 a.0)
next_once s e p q (inr a) (inl b) = absurd (both_ways (fits s e) a.0 b.0)
next_once s e p q (inr a) (inr b) = least_once s e p q a.1 b.1

next_or_none : (s : List ℕ) (e p : ℕ) → IsNext s e p → (fits s e ≡ false) × HasNoLockPoint s e → ⊥
next_or_none s e p (inl a) none = both_ways (fits s e) none.0 a.0
next_or_none s e p (inr a) none = both_ways (is_lock_point s p) (none.1 p a.1.from_there) a.1.lock_point

AreNext-once : (s : List ℕ) (e : ℕ) (ps qs : List ℕ) → AreNext s e ps → AreNext s e qs → ps ≡ qs
AreNext-once s e [] [] a b = refl
AreNext-once s e [] (q ∷ qs) a b = absurd (next_or_none s e q b.0 a)
AreNext-once s e (p ∷ ps) [] a b = absurd (next_or_none s e p a.0 b)
AreNext-once s e (p ∷ ps) (q ∷ qs) a b =
    let same = next_once s e p q a.0 b.0 in
    let rest = AreNext-once s (p + 188) ps qs a.1 (rw same b.1) in
    cc

ArePositions-once : (s : List ℕ) (ps qs : List ℕ) → ArePositions s ps → ArePositions s qs → ps ≡ qs
ArePositions-once s [] [] a b = refl
ArePositions-once s [] (q ∷ qs) a b = absurd (both_ways (is_lock_point s q) (a q b.0.from_there) b.0.lock_point)
ArePositions-once s (p ∷ ps) [] a b = absurd (both_ways (is_lock_point s p) (b p a.0.from_there) a.0.lock_point)
ArePositions-once s (p ∷ ps) (q ∷ qs) a b =
    let same = least_once s 0 p q a.0 b.0 in
    let rest = AreNext-once s (p + 188) ps qs a.1 (rw same b.1) in
    cc

pub ArePackets-once : (s : List ℕ) (others : List (List ℕ)) → ArePackets s others → others ≡ packets s
ArePackets-once s others a =
    let b = packets-ArePackets s in
    a.2 ∙ ap (map (packet_at s)) (ArePositions-once s a.0 b.0 a.1 b.1) ∙ sym b.2
