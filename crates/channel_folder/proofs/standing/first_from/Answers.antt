use Rattle.std.proofs.Common.{arith, suc, ◌<◌, ◌++◌, ◌∙◌, ap, sym, subst, List, ℕ, All, take, drop, get_or, drop-cons}
use Rattle.std.proofs.lemmas.List.{take_all, take_more, take-append-drop}
use Rattle.channel_folder.proofs.Sizes.{below-more}
use Rattle.channel_folder.proofs.standing.first_from.Goals as goal

pub loop-n-preserved : goal.loop-n-preserved
loop-n-preserved c =
    let xs = c.args.numbers.now in
    let i = c.loop-n.n-index in
    subst (λ (l : List ℕ). All (λ n. n < c.args.next) l) (sym (take_more xs i 0 c.loop-n-test.true))
    (below-more c.args.next (take i xs) (get_or xs i 0) c.loop-n.invariant (omega (arith, c.if-n-next.false)))

pub returns-then-n-next-clause-first : goal.returns-then-n-next-clause-first
returns-then-n-next-clause-first c =
    let xs = c.args.numbers.now in
    let i = c.loop-n.n-index in record {
      front = take i xs;
      rest = drop (suc i) xs;
      all = sym (take-append-drop i xs) ∙ ap (λ (l : List ℕ). take i xs ++ l) (drop-cons xs i 0 c.loop-n-test.true);
      below = c.loop-n.invariant;
      from = omega (arith, c.if-n-next.true);
    }

pub returns-clause-found : goal.returns-clause-found
returns-clause-found c =
    subst (λ (l : List ℕ). All (λ n. n < c.args.next) l) (take_all c.loop-n.n-index c.args.numbers.now (omega (arith, c.loop-n-test.false))) c.loop-n.invariant
