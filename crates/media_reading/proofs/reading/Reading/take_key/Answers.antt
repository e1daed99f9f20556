use Rattle.std.proofs.Common.{refl, sym, ap, ◌∙◌}
use Rattle.std.specs.Prelude.{nat_eq}
use Rattle.std.specs.List.{starts_with}
use Rattle.media_reading.specs.State.{progress_of}
use Rattle.media_reading.proofs.KeyLines.{unbegun}
use Rattle.media_reading.proofs.reading.Reading.take_key.Goals as goal

pub returns-then-not-starts_with-clause-taken : goal.returns-then-not-starts_with-clause-taken
returns-then-not-starts_with-clause-taken c = (
  unbegun (progress_of c.args.self.now) c.args.line.now
      (ap (starts_with nat_eq c.args.line.now) (sym c.as_bytes.ensures.value) ∙ sym c.starts_with.ensures.value ∙ c.if-not-starts_with.true),
  refl,
)
