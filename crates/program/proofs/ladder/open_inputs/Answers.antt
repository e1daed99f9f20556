use Rattle.program.proofs.Opened.{shows-all}
use Rattle.program.proofs.ladder.open_inputs.Goals as goal

pub returns-clause-shown : goal.returns-clause-shown
returns-clause-shown g c =
    shows-all _ _ c.in_ok-view.view (rw c.as_slice.ensures.value at c.in_ok-sources.ensures.inputs) (rw c.as_slice-2.ensures.value at c.in_ok-view.ensures.shown)
