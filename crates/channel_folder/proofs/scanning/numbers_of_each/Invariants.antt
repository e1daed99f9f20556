use Rattle.std.proofs.Common.{◌≡◌, take, map}
use Rattle.std.specs.String.{string_bytes}
use Rattle.channel_folder.specs.Scans.{numbers_in}
use Rattle.channel_folder.proofs.scanning.numbers_of_each.Given as goal

abbrev pub invariant-loop-name : goal.invariant-loop-name
invariant-loop-name l = map (λ v. v.items) l.each.items ≡ map (numbers_in (map string_bytes l.files)) (map (λ n. n.now) (take l.name-index l.names))
