use Rattle.std.proofs.Common.{◌≡◌, [], map, replicate}
use Rattle.std.specs.Arc.{arc_value}
use Rattle.std.specs.String.{string_bytes}
use Rattle.rounds.proofs.first_board.no_texts.Given as goal

abbrev pub invariant-loop : goal.invariant-loop
invariant-loop l = map (λ t. string_bytes (arc_value t)) l.texts.items ≡ replicate l.counter []
