use Rattle.std.specs.Fmt.{decimal}
use Rattle.std.proofs.lemmas.Option.{MatchOption-at_some}
use Rattle.media_reading.proofs.Spellings.{middle-same}
use Rattle.channel_folder.proofs.numbers.read_between.Goals as goal

pub returns-clause-only : goal.returns-clause-only
returns-clause-only c = λ n small is.
    c.read_decimal.ensures.only n small
    (middle-same c.args.line.now c.args.front.now c.args.back.now c.in_ok-between.field-0.now (decimal n) (MatchOption-at_some _ _ _ c.in_ok-between.was c.between.ensures) is)
