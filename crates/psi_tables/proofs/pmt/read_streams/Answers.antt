use Rattle.std.proofs.Common.{◌≡◌, ◌+◌, true, not, refl, sym, ◌∙◌, ap, arith, rules, is_some, is_ok, inl, inr}
use Rattle.std.proofs.lemmas.Bool.{or_parts, cases_Bool, false≢true}
use Rattle.psi_tables.proofs.Entries.{behind, streams_from, from_start, behind-start, next_end, last_end, next_stream, last_stream, some_stream}
use Rattle.psi_tables.proofs.pmt.read_streams.Goals as goal

pub loop-at-init : goal.loop-at-init
loop-at-init c = record {
  below = omega arith;
  whole = ap is_some (from_start c.args.descriptors c.args.bytes.now);
  so_far = λ _. rw c.new-entries.ensures.items (from_start c.args.descriptors c.args.bytes.now ∙ behind-start _);
  some = λ refused. absurd (false≢true refused);
}

pub loop-at-preserved : goal.loop-at-preserved
loop-at-preserved c = record {
  below = omega arith;
  whole = next_end c.args.bytes.now c.loop-at.at _ _ c.loop-at.invariant.whole c.loop-at-test.true c.read_length.ensures.value;
  so_far = λ none.
      let kept = or_parts c.loop-at.refused c.is_err-refused.result none in
      let pushed : is_ok c.push.result ≡ true = c.is_err-refused.ensures.negation ∙ ap not kept.1 in
      let items = rw pushed at c.push.ensures.items in
      next_stream c.args.bytes.now c.loop-at.at c.read_length.result _ c.loop-at.entries.items _ (c.loop-at.invariant.so_far kept.0) c.loop-at-test.true c.read_length.ensures.value (search rules)
      ∙ ap (λ entries. behind entries (streams_from (c.loop-at.at + (5 + c.read_length.result)) c.args.bytes.now)) (sym items);
  some = λ _.
      elim (cases_Bool c.loop-at.refused) [
        | inl refused ↦ c.loop-at.invariant.some refused
        | inr none ↦ some_stream c.args.bytes.now c.loop-at.at _ c.loop-at.entries.items (c.loop-at.invariant.so_far none) c.loop-at-test.true
      ];
}

pub returns-then-at-bytes-clause-err : goal.returns-then-at-bytes-clause-err
returns-then-at-bytes-clause-err c =
    let end = last_end c.args.bytes.now c.loop-at.at _ c.loop-at.invariant.whole c.loop-at-test.false in
    inl (refl, search rules)

pub returns-then-refused-clause-err : goal.returns-then-refused-clause-err
returns-then-refused-clause-err c =
    let end = last_end c.args.bytes.now c.loop-at.at _ c.loop-at.invariant.whole c.loop-at-test.false in
    inr (refl, search rules)

pub returns-clause-ok : goal.returns-clause-ok
returns-clause-ok c =
    let end = last_end c.args.bytes.now c.loop-at.at _ c.loop-at.invariant.whole c.loop-at-test.false in
    last_stream c.args.bytes.now c.loop-at.at _ c.loop-at.entries.items (c.loop-at.invariant.so_far c.if-refused.false) c.loop-at-test.false (search rules)

pub returns-then-refused-clause-scarce : goal.returns-then-refused-clause-scarce
returns-then-refused-clause-scarce c = λ _. c.loop-at.invariant.some c.if-refused.true
