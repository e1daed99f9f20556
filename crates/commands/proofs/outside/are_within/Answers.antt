use Rattle.commands.proofs.RangeFacts.{decides-within}
use Rattle.commands.proofs.outside.are_within.Goals as goal

pub returns : goal.returns
returns c = decides-within _ c.is_none.result c.args.numbers.now c.is_none.ensures c.first_outside_of_numbers.ensures.none c.first_outside_of_numbers.ensures.some
