use Rattle.std.proofs.Common.{◌≡◌, ◌∙◌, ◌++◌, [], ap}
use Rattle.ingest.specs.State.{taken}
use Rattle.ingest.specs.Streams.{Taken}
use Rattle.ingest.proofs.Taking.{turned-out, OnOk-map}
use Rattle.ingest.proofs.intake.Intake.swap.Goals.{then-self, else-self}
use Rattle.ingest.proofs.intake.Intake.swap.Goals as goal

-- of an intake that has ended the cutter ends, which contracts don't see
pub returns-clause-turned : goal.returns-clause-turned
returns-clause-turned c =
    let now = c.if-self.self-inside in
    let same : taken now ≡ taken c.self.inside =
    elim c.if-self.branch [
      | then-self w ↦ ap taken w.self-inside-is ∙ ap (λ cutter. taken (record c.self.inside { cutter = cutter })) w.end.ensures
      | else-self w ↦ ap taken w.self-inside-is
    ] in
    rw (← c.self.view_is) (OnOk-map c.swap.result
    (λ is. turned-out now.ended now.cutter c.swap.new.self now.reader is ∙ ap (λ (t : Taken). record t { turned = t.turned ++ t.filled; filled = [] }) same)
    c.swap.ensures.turned)
