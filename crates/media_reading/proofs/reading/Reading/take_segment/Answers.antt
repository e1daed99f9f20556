use Rattle.std.proofs.Common.{sym, ap, ◌∙◌}
use Rattle.std.specs.Prelude.{nat_eq}
use Rattle.std.specs.List.{ends_with}
use Rattle.media_reading.specs.State.{progress_of}
use Rattle.media_reading.proofs.SegmentEnds.{unended}
use Rattle.media_reading.proofs.reading.Reading.take_segment.Goals as goal

pub returns-then-not-ends_with-clause-taken : goal.returns-then-not-ends_with-clause-taken
returns-then-not-ends_with-clause-taken c =
    unended (progress_of c.args.self.now) c.args.line.now
    (ap (ends_with nat_eq c.args.line.now) (sym c.as_bytes.ensures.value) ∙ sym c.ends_with.ensures.value ∙ c.if-not-ends_with.true)
