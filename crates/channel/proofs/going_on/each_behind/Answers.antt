use Rattle.std.proofs.Common.{rules, arith, ◌≡◌, ◌∙◌, refl, sym, ap, subst, ℕ, ◌<◌, List, [], ◌∷◌, ◌++◌, Option, length, length-append, append_assoc}
use Rattle.std.specs.Vec.Iter.{into_iter_items}
use Rattle.resume.specs.Restoring.{RestoredValue}
use Rattle.channel.specs.GoingOn.{IsPastLimit}
use Rattle.channel.proofs.Behind.{go-more, one-behind, past-here}
use Rattle.channel.proofs.going_on.each_behind.Goals as goal

pub loop-one-preserved : goal.loop-one-preserved
loop-one-preserved c =
    let x = c.in-Some.one in
    let ys = c.loop-one.yielded in
    let rest = into_iter_items c.next.new.self in
    let all : c.args.found.items ≡ ys ++ x ∷ rest = search rules in
    let lt : length ys < length c.args.renditions.now = omega (arith, ap length all, length-append ys (x ∷ rest), c.requires) in
    record {
      rest = append_assoc ys (x ∷ []) rest ∙ sym all;
      count = omega (arith, c.loop-one.invariant.count, length-append ys (x ∷ []));
      so_far =
          one-behind c.args.renditions.now c.loop-one.renditions ys c.args.most x c.in-Some-one_of.begun c.loop-one.r c.go_on.new.rendition c.index-renditions-r.result
          c.loop-one.invariant.so_far c.loop-one.invariant.count lt c.in-Some-one_of.ensures.0 c.go_on.ensures;
      go_within = go-more ys c.args.most x c.loop-one.invariant.go_within c.in-Some-one_of.ensures.1;
    }

pub returns-in_default-clause-err : goal.returns-in_default-clause-err
returns-in_default-clause-err c =
    let x = c.in-Some.one in
    let ys = c.loop-one.yielded in
    let rest = into_iter_items c.next.new.self in
    let all : c.args.found.items ≡ ys ++ x ∷ rest = search rules in
    let past : IsPastLimit (ys ++ x ∷ rest) c.args.most (length ys) = past-here ys rest c.args.most x c.loop-one.invariant.go_within c.in_default.ensures in
    rw c.into.ensures (
      refl,
      subst (λ (l : List (Option RestoredValue)). IsPastLimit l c.args.most c.loop-one.r) (sym all)
          (subst (λ (k : ℕ). IsPastLimit (ys ++ x ∷ rest) c.args.most k) (sym c.loop-one.invariant.count) past),
    )
