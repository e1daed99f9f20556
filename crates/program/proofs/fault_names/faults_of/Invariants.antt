use Rattle.std.proofs.Common.{◌≡◌, map, replicate, take}
use Rattle.std.specs.Prelude.{None, fold, option_copied}
use Rattle.program.specs.Faulted.{named_in}
use Rattle.program.proofs.fault_names.faults_of.Given as goal

abbrev pub invariant-loop-fault : goal.invariant-loop-fault
invariant-loop-fault l = map option_copied l.faults ≡ fold named_in (replicate 32 None) (take l.fault-index l.fault-items)
