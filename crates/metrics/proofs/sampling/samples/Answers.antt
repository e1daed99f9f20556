use Rattle.std.proofs.Common.{◌≡◌, ◌∙◌, ℕ, List, [], ◌∷◌, ◌++◌, Bor, map, ap, sym, arith}
use Rattle.std.proofs.lemmas.List.{get_or-map, map-append}
use Rattle.std.proofs.lemmas.List.FromFn.{map-range_with_len_more}
use Rattle.metrics.specs.Samples.{facts_of}
use Rattle.metrics.specs.Told.{told_at, told_of}
use Rattle.metrics.proofs.sampling.samples.Goals as goal

pub loop-r-preserved : goal.loop-r-preserved
loop-r-preserved c =
    let names = c.args.names.now in
    let glance = c.args.glance.now in
    let known = c.args.known in
    let r = c.loop-r.r in
    let texts : List (List ℕ) = map (λ t. t.now) names in
    let one : facts_of c.sample.result ≡ told_at texts glance known c.args.now r =
    c.sample.ensures ∙ ap (λ (name : List ℕ). told_of name glance known c.args.now r) (sym (get_or-map (λ (t : Bor (List ℕ)). t.now) names r _ [] c.loop-r-test.true)) in
    ap (map facts_of) c.in_ok-push.ensures.items ∙ map-append facts_of c.loop-r.samples.items (c.sample.result ∷ [])
    ∙ (λ i. c.loop-r.invariant i ++ one i ∷ [])
    ∙ sym (map-range_with_len_more (told_at texts glance known c.args.now) 0 r r (omega arith))
