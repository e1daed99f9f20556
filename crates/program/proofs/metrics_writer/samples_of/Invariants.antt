use Rattle.std.proofs.Common.{◌≡◌, map, take}
use Rattle.program.specs.Asked.{input_sample}
use Rattle.program.proofs.metrics_writer.samples_of.Given as goal

abbrev pub invariant-loop-state : goal.invariant-loop-state
invariant-loop-state l = l.all.items ≡ map input_sample (take l.state-index l.states)
