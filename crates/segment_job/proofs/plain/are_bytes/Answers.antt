use Rattle.std.proofs.Common.{◌<◌, rules}
use Rattle.std.proofs.lemmas.List.Elements.{All-from_get_or}
use Rattle.segment_job.proofs.plain.are_bytes.Goals as goal

pub returns : goal.returns
returns c = All-from_get_or (λ x. x < 256) c.args._bytes.now 0 (λ i lt. search rules)
