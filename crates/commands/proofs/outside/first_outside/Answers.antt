use Rattle.std.proofs.lemmas.Option.{IfSome_then}
use Rattle.commands.proofs.outside.first_outside.Goals as goal

pub returns-clause-first : goal.returns-clause-first
returns-clause-first c =
    let before = (c.first_outside_of_numbers.ensures.none c.in_default.is).before c.args.pool in
    IfSome_then c.first_outside_of_pool.result c.first_outside_of_pool.ensures.first (λ option first. first c.args.numbers.now before)

pub returns-clause-none : goal.returns-clause-none
returns-clause-none c = λ none.
    let before = (c.first_outside_of_numbers.ensures.none c.in_default.is).before c.args.pool in
    let of_pool = c.first_outside_of_pool.ensures in
    record {
      target = before.0.0.0.0.0.0;
      segment = before.0.0.0.0.0.1;
      window = before.0.0.0.0.1;
      frame = before.0.0.0.1;
      gap = before.0.0.1;
      most = before.0.1;
      program = before.1;
      workers = of_pool.workers none;
      queue = of_pool.queue none;
      batch = of_pool.batch none;
      stall = of_pool.stall none;
      ahead = of_pool.ahead none;
    }
