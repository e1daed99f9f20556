use Rattle.std.proofs.Common.{◌≡◌, ◌<◌, length, rules}
use Rattle.std.proofs.lemmas.List.Elements.{All-from_get_or}
use Rattle.ghost_list.specs.Bytes.{AreBytes}
use Rattle.segment_job.proofs.text.Text.new.Goals as goal

pub returns-clause-key : goal.returns-clause-key
returns-clause-key c =
    let long : length c.args.key ≡ 16 = search rules in
    let bytes : AreBytes c.args.key = All-from_get_or (λ x. x < 256) c.args.key 0 (λ i lt. search rules) in
    record { long = long; bytes = bytes }

pub returns-clause-vector : goal.returns-clause-vector
returns-clause-vector c =
    let long : length c.args.vector ≡ 16 = search rules in
    let bytes : AreBytes c.args.vector = All-from_get_or (λ x. x < 256) c.args.vector 0 (λ i lt. search rules) in
    record { long = long; bytes = bytes }
