use Rattle.std.proofs.Common.{arith, rules, ◌≡◌, ◌≢◌, ◌<◌, ◌∙◌, ap, sym, length, true, false, get_or, None, Some, Any, Bool, subst, take}
use Rattle.std.specs.Arc.{arc_value}
use Rattle.std.proofs.lemmas.List.{take_all, take_more_set}
use Rattle.std.proofs.lemmas.List.Elements.{All-push, All-set}
use Rattle.std.proofs.lemmas.List.Quantifiers.{Any-push, any-set}
use Rattle.read_ahead.specs.Sources.{IsSound, IsUnknown, MayBegin, new_seen, seen_first}
use Rattle.read_ahead.specs.Times.{is_moment_over}
use Rattle.read_ahead.specs.declared.incoming.Phase.TheVariants.{Failed, Opening}
use Rattle.read_ahead.proofs.Beginning.{any_more, begins, fails, is_early, not_told, same_set}
use Rattle.read_ahead.proofs.waiting.are_open.Goals as goal

pub loop-number-preserved-in_default : goal.loop-number-preserved-in_default
loop-number-preserved-in_default g c =
    let holds = g.I.Contents.holds in
    let inputs = c.loop-number.inputs in
    let at = c.loop-number.number in
    let d = c.index-inputs-number.result in
    let new = c.is_open.new.self in
    let lt : at < length inputs = search rules in
    let none : c.is_open.result ≡ None = search rules in
    record {
      sound = All-set (IsSound holds) inputs at new c.is_open.ensures.sound c.loop-number.invariant.sound;
      same = same_set (seen_first holds) inputs at d new lt
          (λ k. new_seen (arc_value (c.is_open.ensures.backlogs k)) (c.is_open.ensures.number k) (c.is_open.ensures.same k)) ∙ c.loop-number.invariant.same;
      begun = λ e. absurd (cc e);
      early = λ e. absurd (cc e);
      unknown = λ _. rw (take_more_set inputs at new lt) (Any-push (IsUnknown c.has_passed-is_over.result) (take at inputs) new
          (not_told new c.has_passed-is_over.result (get_or inputs at d).may_wait c.is_open.result none c.is_open.ensures.failed c.is_open.ensures.waits c.is_open.ensures.open c.is_open.ensures.may_wait));
      unfailed = rw (take_more_set inputs at new lt) (All-push (λ i. i.phase ≢ Failed) (take at inputs) new c.loop-number.invariant.unfailed
          (λ f. absurd (cc (sym none ∙ c.is_open.ensures.failed f))));
      none = λ nil. absurd (omega (arith, lt, c.loop-number.auto.inputs, ap length nil));
    }

pub loop-number-preserved : goal.loop-number-preserved
loop-number-preserved g c =
    let holds = g.I.Contents.holds in
    let inputs = c.loop-number.inputs in
    let at = c.loop-number.number in
    let d = c.index-inputs-number.result in
    let new = c.is_open.new.self in
    let lt : at < length inputs = search rules in
    let yes : c.is_open.result ≡ Some true = search rules in
    record {
      sound = All-set (IsSound holds) inputs at new c.is_open.ensures.sound c.loop-number.invariant.sound;
      same = same_set (seen_first holds) inputs at d new lt
          (λ k. new_seen (arc_value (c.is_open.ensures.backlogs k)) (c.is_open.ensures.number k) (c.is_open.ensures.same k)) ∙ c.loop-number.invariant.same;
      begun = λ known. rw (take_more_set inputs at new lt) (All-push MayBegin (take at inputs) new (c.loop-number.invariant.begun known)
          (begins new c.has_passed-is_over.result (get_or inputs at d).may_wait c.is_open.result yes c.is_open.ensures.failed c.is_open.ensures.waits c.is_open.ensures.may_wait));
      early = λ known. λ before. rw (take_more_set inputs at new lt) (All-push (λ i. i.phase ≢ Opening) (take at inputs) new (c.loop-number.invariant.early known before)
          (is_early new.phase c.has_passed-is_over.result (get_or inputs at d).may_wait c.is_open.result yes c.is_open.ensures.waits before));
      unknown = λ not_known. rw (take_more_set inputs at new lt) (any_more (IsUnknown c.has_passed-is_over.result) (take at inputs) new (c.loop-number.invariant.unknown not_known));
      unfailed = rw (take_more_set inputs at new lt) (All-push (λ i. i.phase ≢ Failed) (take at inputs) new c.loop-number.invariant.unfailed
          (λ f. absurd (cc (sym yes ∙ c.is_open.ensures.failed f))));
      none = c.loop-number.invariant.none;
    }

pub returns-then-not-is_open-clause-same : goal.returns-then-not-is_open-clause-same
returns-then-not-is_open-clause-same g c =
    let lt : c.loop-number.number < length c.loop-number.inputs = search rules in
    same_set (seen_first g.I.Contents.holds) c.loop-number.inputs c.loop-number.number c.index-inputs-number.result c.is_open.new.self lt
    (λ k. new_seen (arc_value (c.is_open.ensures.backlogs k)) (c.is_open.ensures.number k) (c.is_open.ensures.same k)) ∙ c.loop-number.invariant.same

pub returns-then-not-is_open-clause-refused : goal.returns-then-not-is_open-clause-refused
returns-then-not-is_open-clause-refused g c = λ _.
    let lt : c.loop-number.number < length c.loop-number.inputs = search rules in
    any-set (λ i. i.phase ≡ Failed) c.loop-number.inputs c.loop-number.number c.is_open.new.self lt
    (fails c.is_open.new.self.phase c.has_passed-is_over.result (get_or c.loop-number.inputs c.loop-number.number c.index-inputs-number.result).may_wait c.is_open.result (search rules) c.is_open.ensures.waits c.is_open.ensures.open)

pub returns-clause-open : goal.returns-clause-open
returns-clause-open g c = λ yes.
    let known : c.loop-number.are_known ≡ true = search (rules, yes) in
    rw (take_all c.loop-number.number c.loop-number.inputs (search rules)) at (c.loop-number.invariant.begun known)

pub returns-clause-early : goal.returns-clause-early
returns-clause-early g c = λ yes. λ before.
    let known : c.loop-number.are_known ≡ true = search (rules, yes) in
    let over : c.has_passed-is_over.result ≡ is_moment_over c.args.begun.at c.args.now.at = search rules in
    rw (take_all c.loop-number.number c.loop-number.inputs (search rules)) at (c.loop-number.invariant.early known (over ∙ before))

pub returns-clause-unknown : goal.returns-clause-unknown
returns-clause-unknown g c = λ none.
    let not_known : c.loop-number.are_known ≡ false = search (rules, none) in
    let over : c.has_passed-is_over.result ≡ is_moment_over c.args.begun.at c.args.now.at = search rules in
    let found : Any (IsUnknown c.has_passed-is_over.result) c.loop-number.inputs =
    rw (take_all c.loop-number.number c.loop-number.inputs (search rules)) at (c.loop-number.invariant.unknown not_known) in
    subst (λ (b : Bool). Any (IsUnknown b) c.loop-number.inputs) over found

pub returns-clause-unfailed : goal.returns-clause-unfailed
returns-clause-unfailed g c = λ _. rw (take_all c.loop-number.number c.loop-number.inputs (search rules)) at c.loop-number.invariant.unfailed
