use Rattle.std.proofs.Common.{refl, ap, inl, inr, map}
use Rattle.program.proofs.Lines.{ends-by, no-run}
use Rattle.program.proofs.pack.Goals as goal

pub returns-in-Err-begin_channel : goal.returns-in-Err-begin_channel
returns-in-Err-begin_channel g c =
    inr (c.in-Err-begin_channel.fault, c.ended-in-Err-begin_channel.ensures.fault, no-run g.row.R.Denot c.args.job c.in-Err-begin_channel.fault c.in-Err-begin_channel.ensures.refused, refl)

pub returns-in_default : goal.returns-in_default
returns-in_default g c = inr (_, c.ended-in_default.ensures.fault, inr (inr (inl refl)), refl)

pub returns-in-Ok-pack_ladder : goal.returns-in-Ok-pack_ladder
returns-in-Ok-pack_ladder g c =
    let e = c.in-Ok-pack_ladder.ensures in
    let begun = c.in-Ok-begin_channel.ensures in
    let run = c.in-Ok-pack_ladder.field-0 in
    inl (
      run,
      record {
        job = c.in-Ok-begin_channel.channel.job;
        older = map (λ n. n.items) c.in-Ok-begin_channel.channel.older.items;
        behind = begun.behind;
        first = λ stays. ((begun.first stays).0, ap (map (λ n. n.items)) (begun.first stays).1);
        resumed = begun.resumed;
        kept = _;
        whole = e.whole;
        pruned = e.pruned;
        written = e.written;
        fault = e.fault;
      },
      ends-by run.answer _ c.end_of.ensures.well c.end_of.ensures.fault,
    )

pub returns : goal.returns
returns g c =
    let unbegun = c.in-Err-pack_ladder.ensures.unbegun in
    inr (c.in-Err-pack_ladder.fault, c.end_of-in-Err-pack_ladder.ensures.fault, inr (inr unbegun.0), unbegun.1)
