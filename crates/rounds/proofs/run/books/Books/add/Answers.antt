use Rattle.std.proofs.Common.{◌≡◌, ◌∙◌, ◌+◌, ◌<◌, inl, inr, ℕ, length, sym, subst, arith}
use Rattle.std.specs.List.{slice_index_or, slice_set}
use Rattle.std.proofs.lemmas.Bool.{cases_eq}
use Rattle.std.proofs.lemmas.List.{get_or_default, get_or-set_other, get_or-set_same, length-set}
use Rattle.std.proofs.lemmas.List.Sums.{sum_by-set, sum_by_more}
use Rattle.rounds.proofs.run.books.Books.add.Goals as goal

pub loop-i-preserved : goal.loop-i-preserved
loop-i-preserved c =
    let i = c.loop-i.i in
    let workers = c.loop-i.workers.items in
    let claims = c.args.claims.now in
    let before = c.loop-i.invariant in
    let inside : i < length workers = omega (arith, c.loop-i-test.true, before.each, c.requires.each) in
    let here : slice_index_or workers i 0 ≡ c.index_mut.result.now = get_or_default workers i 0 c.index_mut.result.now inside ∙ sym c.index_mut.ensures.value in
    let more = c.index_mut.result.now + slice_index_or claims i 0 in
    record {
      total = omega (arith, before.total, here, sum_by-set (λ n. n) workers i more 0 inside, sum_by_more (λ n. n) claims i 0 c.loop-i-test.true);
      each = length-set workers i more ∙ before.each;
      done = λ k below.
          elim (cases_eq k i) as (λ _. slice_index_or (slice_set workers i more) k 0 ≡ slice_index_or c.args.self.now.workers.items k 0 + slice_index_or claims k 0) [
            | inl q ↦
                subst (λ (j : ℕ). slice_index_or (slice_set workers i more) j 0 ≡ slice_index_or c.args.self.now.workers.items j 0 + slice_index_or claims j 0) (sym q)
                (omega (arith, get_or-set_same workers i more 0 inside, here, before.left i (omega arith)))
            | inr q ↦ get_or-set_other workers i k more 0 q ∙ before.done k (omega (arith, below, q))
          ];
      left = λ k above. get_or-set_other workers i k more 0 (λ q. absurd (omega (arith, above, q))) ∙ before.left k (omega (arith, above));
    }
