use Rattle.std.proofs.Common.{map, rules}
use Rattle.std.proofs.lemmas.Option.{MatchOption-at_some}
use Rattle.hls_check.specs.Unpacking.{packed}
use Rattle.hls_check.specs.Texts.{OpensAlone}
use Rattle.hls_check.proofs.Wanting.{memory-told}
use Rattle.hls_check.proofs.Growing.{each-pushed}
use Rattle.media_reading.proofs.Found.{MatchOption-none}
use Rattle.hls_check.proofs.opening.open_segments.Goals as goal

pub returns-in_default-clause-err : goal.returns-in_default-clause-err
returns-in_default-clause-err c = record {
  entry = c.loop-i-test.true;
  without = MatchOption-none _ _ _ c.in_default.not-Some c.in_ok-text.ensures.found;
  before = λ j lt. (_, (c.loop-i.invariant.opens j lt).seals);
}

pub loop-i-preserved : goal.loop-i-preserved
loop-i-preserved c =
    let p = packed c.args.salt c.args.entries.now (map (λ s. s.items) c.args.segments.now) c.args.keys.now in
    record {
      each_one = search (rules, c.in_ok-push.ensures.items, c.loop-i.invariant.each_one);
      opens = each-pushed (OpensAlone p) c.loop-i.texts.items c.push.new.self.items c.in-Some.text c.loop-i.i c.in_ok-push.ensures.items c.loop-i.invariant.each_one
          c.loop-i.invariant.opens (MatchOption-at_some _ _ _ c.in-Some.is c.in_ok-text.ensures.found);
    }

pub returns-in_err-text-clause-err : goal.returns-in_err-text-clause-err
returns-in_err-text-clause-err c = memory-told c.from_residual.result _ c.from_residual.ensures.1 (record {
  place = c.loop-i.i;
  entry = c.loop-i-test.true;
  opens = c.in_err-text.ensures.memory;
  before = λ j lt. (_, (c.loop-i.invariant.opens j lt).seals);
})

pub returns-in_err-push-clause-err : goal.returns-in_err-push-clause-err
returns-in_err-push-clause-err c = memory-told c.from_residual-in_err-push.result _ c.from_residual-in_err-push.ensures.1 (record {
  place = c.loop-i.i;
  entry = c.loop-i-test.true;
  opens = (_, (MatchOption-at_some _ _ _ c.in-Some.is c.in_ok-text.ensures.found).seals);
  before = λ j lt. (_, (c.loop-i.invariant.opens j lt).seals);
})
