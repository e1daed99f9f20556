use Rattle.std.proofs.Common.{◌≡◌, take, map}
use Rattle.std.specs.List.{filter_map}
use Rattle.psi_tables.specs.InForce.{choice_of, last_or}
use Rattle.psi_tables.proofs.choice.choose.Given as goal

abbrev pub invariant-loop-section : goal.invariant-loop-section
invariant-loop-section l =
    l.choice ≡ last_or l.fn.before (filter_map (choice_of l.fn.program) (map (λ section. section.items) (take l.section-index l.found)))
