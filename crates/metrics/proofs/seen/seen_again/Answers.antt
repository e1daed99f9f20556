use Rattle.std.proofs.Common.{◌≡◌, ◌∙◌, [], ◌∷◌, ◌++◌, get_or, ap, sym, arith}
use Rattle.std.proofs.lemmas.List.{get_or_default}
use Rattle.std.proofs.lemmas.List.FromFn.{map-range_with_len_more}
use Rattle.metrics.specs.declared.seen.Sighting.{Sighting}
use Rattle.metrics.specs.Seens.{again, again_at, unseen}
use Rattle.metrics.proofs.seen.seen_again.Goals as goal

pub loop-r-preserved : goal.loop-r-preserved
loop-r-preserved c =
    let seen = c.args.seen.now in
    let counts = c.args.counts.now in
    let now = c.args.now in
    let r = c.loop-r.r in
    let one : c.again.result ≡ again_at seen counts now r = c.again.ensures ∙ ap (λ (x : Sighting). again x (get_or counts r 0) now) (get_or_default seen r _ unseen c.loop-r-test.true) in
    c.in_ok-push.ensures.items ∙ (λ i. c.loop-r.invariant i ++ one i ∷ [])
    ∙ sym (map-range_with_len_more (again_at seen counts now) 0 r r (omega arith))
