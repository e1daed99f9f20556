use Rattle.std.proofs.Common.{rules, ◌≡◌, None, length, refl}
use Rattle.std.proofs.lemmas.Option.{slice_get_read}
use Rattle.flow_core.proofs.Firsts.{first-lacks}
use Rattle.flow_core.proofs.slot.first_lacking.Goals as goal

pub returns-then-is_none-clause-first : goal.returns-then-is_none-clause-first
returns-then-is_none-clause-first c =
    let slots = c.args.slots.now in
    let i = c.loop-i.i in
    let slot = c.index-slots-i.result in
    let none : slot.segment ≡ None = search rules in
    (slot, slice_get_read slots (length slots) i slot refl c.loop-i-test.true c.index-slots-i.is, first-lacks slots i slot c.loop-i-test.true c.index-slots-i.is none c.loop-i.invariant)
