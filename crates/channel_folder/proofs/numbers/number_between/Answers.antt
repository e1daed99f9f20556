use Rattle.std.proofs.Common.{◌++◌}
use Rattle.std.specs.Fmt.{decimal}
use Rattle.media_reading.proofs.Found.{read-all}
use Rattle.channel_folder.proofs.numbers.number_between.Goals as goal

pub returns : goal.returns
returns c =
    read-all (λ n. c.args.front.now ++ decimal n ++ c.args.back.now) c.args.line.now c.read_between.result c.read_between.ensures.found c.read_between.ensures.only
