use Rattle.std.proofs.Common.{◌≡◌, ◌∙◌, ◌+◌, ◌≤◌, inl, inr, ◌∷◌, [], ◌++◌, List, refl, ap, sym, arith, rules, length, length-append, append_assoc}
use Rattle.std.specs.List.{slice_get}
use Rattle.std.proofs.lemmas.Bool.{cases_eq}
use Rattle.std.specs.Vec.Iter.{into_iter_items}
use Rattle.std.proofs.lemmas.Result.{err_from_is_err_and}
use Rattle.cutter.specs.Plans.{SegmentPlan}
use Rattle.rounds.specs.declared.run.course.Course.{Course}
use Rattle.rounds.specs.Rounds.{unfed_of}
use Rattle.rounds.proofs.Running.{stopped-here}
use Rattle.rounds.proofs.Closing.{unfed-last, unfed-other, none-of-none, on-unturned}
use Rattle.rounds.proofs.run.course.Course.swap_all.Goals as goal

pub loop-spool-init : goal.loop-spool-init
loop-spool-init g c = record {
  on = λ ladder start shows on. rw c.new-full.ensures.items on;
  same = refl;
  count = refl;
  rest = search rules;
  taken = λ k lane now below at there. absurd (omega (arith, below, ap length c.new-full.ensures.items));
  others = λ k past. refl;
  empty = λ k lane below at. absurd (omega (arith, below, ap length c.new-full.ensures.items));
  size = ap length c.new-full.ensures.items;
}

pub returns-in_err-reserve-clause-err : goal.returns-in_err-reserve-clause-err
returns-in_err-reserve-clause-err g c =
    let told = err_from_is_err_and c.from_residual.result c.from_residual.ensures.1 in
    rw told.1 (λ ladder start shows on. stopped-here _ _ _ _ _ start _ shows _ _ refl (c.loop-spool.invariant.on ladder start shows on))

pub returns-in_err-swap_one-clause-err : goal.returns-in_err-swap_one-clause-err
returns-in_err-swap_one-clause-err g c =
    let told = err_from_is_err_and c.from_residual-in_err-swap_one.result c.from_residual-in_err-swap_one.ensures.1 in
    rw told.1 (λ ladder start shows on.
    stopped-here _ _ _ _ _ start _ shows _ _ refl
    (on-unturned _ _ _ _ _ start _ shows _ _ c.in_err-swap_one.ensures.err c.in_err-swap_one.ensures.same (c.loop-spool.invariant.on ladder start shows on)))

pub loop-spool-preserved : goal.loop-spool-preserved
loop-spool-preserved g c =
    let r = c.len-r.result in
    let full = c.loop-spool.full.items in
    let x = c.in_ok-swap_one.field-0 in
    let len : r ≡ length full = search rules in
    let pushed : c.push_reserved.new.self.items ≡ full ++ x ∷ [] = c.push_reserved.ensures.items ∙ ap (λ (l : List (List SegmentPlan)). l ++ x ∷ []) c.reserve.ensures.items in
    record {
      on = λ ladder start shows on.
          c.in_ok-swap_one.ensures.ok ladder start shows (unfed_of full) (unfed_of c.push_reserved.new.self.items)
          (ap (unfed_of full) len ∙ none-of-none full)
          (ap (λ l. unfed_of l r) pushed ∙ (ap (unfed_of (full ++ x ∷ [])) len ∙ unfed-last full x))
          (λ k other. ap (λ l. unfed_of l k) pushed ∙ unfed-other full x k (λ e. other (e ∙ sym len)))
          (c.loop-spool.invariant.on ladder start shows on);
      same = c.in_ok-swap_one.ensures.same ∙ ap (λ (d : Course _ _). record d { lanes = c.swap_one.new.self.lanes }) c.loop-spool.invariant.same;
      count = c.in_ok-swap_one.ensures.count ∙ c.loop-spool.invariant.count;
      rest = append_assoc c.loop-spool.yielded (c.in-Some.spool ∷ []) (into_iter_items c.next.new.self)
          ∙ (ap (λ (l : List (List SegmentPlan)). c.loop-spool.yielded ++ l) (sym c.in-Some.ensures.steps.0) ∙ c.loop-spool.invariant.rest);
      taken = λ k lane now below at there.
          elim (cases_eq k r) as (λ _. (unfed_of c.push_reserved.new.self.items k ≡ lane.intake.filled) × (now.stop ≡ lane.stop)) [
            | inl q ↦
                let was = c.loop-spool.invariant.others k (omega (arith, q, len)) in
                let one = c.in_ok-swap_one.ensures.taken lane now (ap (slice_get c.loop-spool.self.lanes.items) (sym q) ∙ (was ∙ at)) (ap (slice_get c.swap_one.new.self.lanes.items) (sym q) ∙ there) in
                (ap (λ l. unfed_of l k) pushed ∙ (ap (unfed_of (full ++ x ∷ [])) (q ∙ len) ∙ (unfed-last full x ∙ one.0)), one.1)
            | inr q ↦
                let one = c.loop-spool.invariant.taken k lane now (omega (arith, below, q, len, ap length pushed, length-append full (x ∷ []))) at (sym (c.in_ok-swap_one.ensures.others k q) ∙ there) in
                (ap (λ l. unfed_of l k) pushed ∙ (unfed-other full x k (λ e. q (e ∙ sym len)) ∙ one.0), one.1)
          ];
      others = λ k past.
          let fewer : length full + 1 ≤ k = omega (arith, past, ap length pushed, length-append full (x ∷ [])) in
          c.in_ok-swap_one.ensures.others k (λ q. omega (arith, fewer, q, len)) ∙ c.loop-spool.invariant.others k (omega (arith, fewer));
      empty = λ k lane below at.
          elim (cases_eq k r) as (λ _. lane.intake.filled ≡ []) [
            | inl q ↦ c.in_ok-swap_one.ensures.empty lane (ap (slice_get c.swap_one.new.self.lanes.items) (sym q) ∙ at)
            | inr q ↦
                c.loop-spool.invariant.empty k lane (omega (arith, below, q, len, ap length pushed, length-append full (x ∷ []))) (sym (c.in_ok-swap_one.ensures.others k q) ∙ at)
          ];
      size = omega (arith, ap length pushed, length-append full (x ∷ []), length-append c.loop-spool.yielded (c.in-Some.spool ∷ []), c.loop-spool.invariant.size);
    }

pub returns-in_err-reserve-clause-ok : goal.returns-in_err-reserve-clause-ok
returns-in_err-reserve-clause-ok g c =
    let told = err_from_is_err_and c.from_residual.result c.from_residual.ensures.1 in
    rw told.1 tt

pub returns-in_err-reserve-clause-each : goal.returns-in_err-reserve-clause-each
returns-in_err-reserve-clause-each g c =
    let told = err_from_is_err_and c.from_residual.result c.from_residual.ensures.1 in
    rw told.1 tt

pub returns-in_err-reserve-clause-empty : goal.returns-in_err-reserve-clause-empty
returns-in_err-reserve-clause-empty g c =
    let told = err_from_is_err_and c.from_residual.result c.from_residual.ensures.1 in
    rw told.1 tt

pub returns-in_err-reserve-clause-taken : goal.returns-in_err-reserve-clause-taken
returns-in_err-reserve-clause-taken g c =
    let told = err_from_is_err_and c.from_residual.result c.from_residual.ensures.1 in
    rw told.1 tt

pub returns-in_err-swap_one-clause-ok : goal.returns-in_err-swap_one-clause-ok
returns-in_err-swap_one-clause-ok g c =
    let told = err_from_is_err_and c.from_residual-in_err-swap_one.result c.from_residual-in_err-swap_one.ensures.1 in
    rw told.1 tt

pub returns-in_err-swap_one-clause-each : goal.returns-in_err-swap_one-clause-each
returns-in_err-swap_one-clause-each g c =
    let told = err_from_is_err_and c.from_residual-in_err-swap_one.result c.from_residual-in_err-swap_one.ensures.1 in
    rw told.1 tt

pub returns-in_err-swap_one-clause-empty : goal.returns-in_err-swap_one-clause-empty
returns-in_err-swap_one-clause-empty g c =
    let told = err_from_is_err_and c.from_residual-in_err-swap_one.result c.from_residual-in_err-swap_one.ensures.1 in
    rw told.1 tt

pub returns-in_err-swap_one-clause-taken : goal.returns-in_err-swap_one-clause-taken
returns-in_err-swap_one-clause-taken g c =
    let told = err_from_is_err_and c.from_residual-in_err-swap_one.result c.from_residual-in_err-swap_one.ensures.1 in
    rw told.1 tt
