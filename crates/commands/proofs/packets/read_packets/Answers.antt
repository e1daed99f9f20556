use Rattle.std.proofs.Common.{arith, rules, ◌≡◌, ◌≤◌}
use Rattle.std.specs.Prelude.{vec_capacity, vec_len}
use Rattle.commands.proofs.Finishing.{finish-some}
use Rattle.commands.proofs.packets.read_packets.Goals as goal

pub returns-in_err-finish-clause-scarce : goal.returns-in_err-finish-clause-scarce
returns-in_err-finish-clause-scarce g c = λ _.
    let reads = g.S.Source.input.reads in
    let within : vec_len c.loop.packets ≤ vec_capacity c.loop.packets = search (rules, arith) in
    let same : reads c.read.new.self ≡ reads c.loop.input = search rules in
    let some = finish-some c.loop.reader c.loop.counter (vec_capacity c.loop.packets) (vec_len c.loop.packets) c.loop.invariant.few within c.in_err-finish.ensures.room in
    omega (arith, some, same, c.loop.invariant.reads)
