use Rattle.std.proofs.Common.{◌≡◌, ℕ, ◌+◌, ◌≤◌, ◌++◌, List, length, drop, ap, arith, length-append, length-drop}
use Rattle.ts_packet.proofs.joined.Joined.rest.Goals as goal

-- two parts of a short rest
short_parts : (s a b : List ℕ) (at : ℕ) → a ++ b ≡ drop at s → length s ≤ at + 376 → length a + length b ≤ 376
short_parts s a b at is few = omega (arith, few, ap length is, length-append a b, length-drop at s)

pub unwrap-requires : goal.unwrap-requires
unwrap-requires c =
    let short = short_parts c.args.self.now c.parts_from.result.0.now c.parts_from.result.1.now c.args.at c.parts_from.ensures c.requires.few in
    c.try_extend_from_slice.ensures.variant.1 (omega (arith, short, ap length c.new-rest.ensures))

pub unwrap-requires-2 : goal.unwrap-requires-2
unwrap-requires-2 c =
    let short = short_parts c.args.self.now c.parts_from.result.0.now c.parts_from.result.1.now c.args.at c.parts_from.ensures c.requires.few in
    let longer = rw c.unwrap.ensures at c.try_extend_from_slice.ensures.len in
    c.try_extend_from_slice-2.ensures.variant.1 (omega (arith, short, longer, ap length c.new-rest.ensures))
