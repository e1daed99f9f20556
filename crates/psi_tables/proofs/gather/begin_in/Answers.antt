use Rattle.std.proofs.Common.{◌∷◌, [], map, sym, ◌∙◌, ap, inl, inr}
use Rattle.std.proofs.lemmas.Result.{err_from_is_err_and}
use Rattle.std.proofs.lemmas.List.{map-append}
use Rattle.psi_tables.proofs.Flow.{found_more, left_more, found_all, unfinished-not_whole}
use Rattle.psi_tables.proofs.Bringing.{first-whole, first-open}
use Rattle.psi_tables.proofs.gather.begin_in.Goals as goal

pub loop-rest-preserved : goal.loop-rest-preserved
loop-rest-preserved c =
    let whole = sym c.is_whole.ensures ∙ c.loop-rest-test.true in
    record {
      found = found_more _ _ _ _ c.in_ok-from_slice.field-0.items _ _ c.loop-rest.invariant.found whole c.read_length.ensures.value
          (c.in_ok-from_slice.ensures.items ∙ c.split_at.ensures.front) c.split_at.ensures.back
          (ap (map (λ section. section.items)) c.in_ok-push.ensures.items ∙ map-append (λ section. section.items) c.loop-rest.found.items (c.in_ok-from_slice.field-0 ∷ []));
      left = left_more _ _ _ _ c.loop-rest.invariant.left whole c.read_length.ensures.value c.split_at.ensures.back;
      first = inr (first-whole _ _ c.loop-rest.invariant.first whole);
    }

pub returns-clause-found : goal.returns-clause-found
returns-clause-found c = found_all _ _ _ c.loop-rest.invariant.found (sym c.is_whole.ensures ∙ c.loop-rest-test.false)

pub returns-clause-begun : goal.returns-clause-begun
returns-clause-begun c =
    c.in_ok-copied.ensures.ok ∙ c.open_front.ensures ∙ sym (unfinished-not_whole _ (sym c.is_whole.ensures ∙ c.loop-rest-test.false)) ∙ sym c.loop-rest.invariant.left

pub returns-in_err-from_slice-clause-some : goal.returns-in_err-from_slice-clause-some
returns-in_err-from_slice-clause-some c =
    let told = err_from_is_err_and c.from_residual.result c.from_residual.ensures.1 in
    rw told.1 (inl (first-whole _ _ c.loop-rest.invariant.first (sym c.is_whole.ensures ∙ c.loop-rest-test.true)))

pub returns-in_err-push-clause-some : goal.returns-in_err-push-clause-some
returns-in_err-push-clause-some c =
    let told = err_from_is_err_and c.from_residual-in_err-push.result c.from_residual-in_err-push.ensures.1 in
    rw told.1 (inl (first-whole _ _ c.loop-rest.invariant.first (sym c.is_whole.ensures ∙ c.loop-rest-test.true)))

pub returns-in_err-copied-clause-some : goal.returns-in_err-copied-clause-some
returns-in_err-copied-clause-some c =
    let told = err_from_is_err_and c.from_residual-in_err-copied.result c.from_residual-in_err-copied.ensures.1 in
    rw told.1 (first-open _ _ c.loop-rest.invariant.first (λ none. c.in_err-copied.ensures.some (c.open_front.ensures ∙ none)))
