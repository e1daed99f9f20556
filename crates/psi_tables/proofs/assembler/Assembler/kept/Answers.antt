use Rattle.std.proofs.Common.{arith}
use Rattle.psi_tables.proofs.assembler.Assembler.kept.Goals as goal

pub returns-clause-front : goal.returns-clause-front
returns-clause-front c =
    rw (← c.self.view_is) (record {
      last = c.self.inside.begun.counter;
      begun = c.self.inside.begun.bytes.items;
      keeps = c.self.invariant;
      all = omega arith;
    })
