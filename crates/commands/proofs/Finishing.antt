-- A reader of packets at its end.
use Rattle.std.proofs.Common.{◌≡◌, refl, ℕ, zero, suc, ◌+◌, ◌*◌, ◌/◌, ◌<◌, ◌≤◌, List, [], ◌∷◌, length, arith}
use Rattle.ts_packet.specs.Packets.{rest_from, rest_of}
use Rattle.ts_packet.specs.declared.lengths.TheConstants.{PACKET}

-- one that was fed nothing wants no memory
pub finish-some : (fed : List ℕ) (count capacity len : ℕ) → length fed ≤ 18800 * count → len ≤ capacity → capacity < len + length (rest_of fed).bytes / PACKET → 0 < count
unfolding rest_of rest_from
finish-some [] zero capacity len few within lacking =
    let none : length (rest_of []).bytes ≡ 0 = refl in
    absurd (omega (arith, lacking, within, none))
finish-some (b ∷ fed) zero capacity len few within lacking = absurd (omega (arith, few))
finish-some fed (suc count) capacity len few within lacking = omega arith
