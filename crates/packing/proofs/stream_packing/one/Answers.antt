use Rattle.std.proofs.Common.{◌∙◌, inl, inr, refl, ap}
use Rattle.std.proofs.lemmas.Result.{IfErr-weaker}
use Rattle.packing.proofs.LineRuns.{nothing-packed}
use Rattle.packing.proofs.stream_packing.one.Goals as goal

pub returns-in-Err-clause-fault : goal.returns-in-Err-clause-fault
returns-in-Err-clause-fault g c =
    let read = ap (λ source. source.reader) c.in-Err.ensures.err ∙ c.new.ensures.reader in
    rw (read, c.new-outlet.ensures.writer) (nothing-packed _ _ _)

pub returns-in-Err-clause-fault_counts : goal.returns-in-Err-clause-fault_counts
returns-in-Err-clause-fault_counts g c = record {
  reads = ap (λ source. source.failures) c.in-Err.ensures.err ∙ c.new.ensures.failures;
  puts = c.new-outlet.ensures.failures;
}

pub returns-in-Err-clause-breach : goal.returns-in-Err-clause-breach
returns-in-Err-clause-breach g c = λ broken. inr (refl, ap (λ source. source.reads) c.in-Err.ensures.err ∙ c.new.ensures.reads)

pub returns-clause-breach : goal.returns-clause-breach
returns-clause-breach g c = IfErr-weaker c.pack-answer.result _ _ (λ fault told broken. inl (told broken)) c.pack-answer.ensures.breach
