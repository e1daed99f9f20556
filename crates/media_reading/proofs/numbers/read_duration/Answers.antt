use Rattle.media_reading.proofs.Found.{read-all}
use Rattle.media_reading.proofs.numbers.read_duration.Goals as goal

pub returns : goal.returns
returns c = read-all _ c.args.line.now c.read_seconds.result c.read_seconds.ensures.found c.read_seconds.ensures.only
