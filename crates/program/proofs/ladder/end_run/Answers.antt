use Rattle.program.proofs.ladder.end_run.Goals as goal

pub returns-clause-shown : goal.returns-clause-shown
returns-clause-shown g c = λ watching is.
    let last = c.end-look.ensures.runs watching is in
    (last.0, last.1, rw c.told_as.ensures.ended at rw c.fault_of.ensures at last.2)
