use Rattle.std.proofs.lemmas.Bool.Decides.{Decides-eqb}
use Rattle.std.proofs.lemmas.Option.{MatchOption-at_some}
use Rattle.std.proofs.lemmas.Slice.Eq.{strip_prefix_is}
use Rattle.hls_check.proofs.TheHead.{behind-the-head}
use Rattle.hls_check.proofs.head.behind_head.Goals as goal

pub returns-clause-found : goal.returns-clause-found
returns-clause-found c =
    let head = c.in_ok-head.ensures.found in
    let cases = c.strip_prefix.ensures.cases in
    behind-the-head c.args.text.now c.in-Some.head.items c.strip_prefix.result (MatchOption-at_some _ _ _ c.in-Some.is head)
    (rw c.as_slice.ensures.value at (strip_prefix_is Decides-eqb c.args.text.now c.as_slice.result.now c.strip_prefix.result cases))
