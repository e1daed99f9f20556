use Rattle.std.proofs.Common.{◌∙◌, true, false, refl, ap, sym}
use Rattle.psi_tables.specs.Head.{header}
use Rattle.psi_tables.proofs.segment_head.header.Goals as goal
use Rattle.psi_tables.proofs.segment_head.header.Goals.{then-starts, else-starts}

pub returns : goal.returns
returns c = elim c.if-starts.branch [
  | then-starts w ↦ rw (c.to_be_bytes.ensures, w.start-is) (refl {a = header true c.args.pid c.args.counter}) ∙ ap (λ starts. header starts c.args.pid c.args.counter) (sym w.if-starts.true)
  | else-starts w ↦ rw (c.to_be_bytes.ensures, w.start-is) (refl {a = header false c.args.pid c.args.counter}) ∙ ap (λ starts. header starts c.args.pid c.args.counter) (sym w.if-starts.false)
]
