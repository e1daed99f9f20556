use Rattle.std.proofs.Common.{◌∙◌, ap, length}
use Rattle.std.proofs.lemmas.Option.{MatchOption-at_some, MatchOption-at_none}
use Rattle.std.proofs.lemmas.Result.{IfOk-weaker, IfErr-weaker, MatchResult-from_both}
use Rattle.std.specs.List.{concat}
use Rattle.hls_check.proofs.Unpacked.{all-unpack, unpacks-same, unpacks-there, unpacks-counted, not-counted-told}
use Rattle.hls_check.proofs.counting.count_bytes.Goals as goal

pub returns-in-Some-clause-unpacks : goal.returns-in-Some-clause-unpacks
returns-in-Some-clause-unpacks c = λ rests all. absurd (unpacks-there _ rests c.in-Some.i all (MatchOption-at_some _ _ _ c.in-Some.is c.first_missing.ensures))

pub returns-clause-ok : goal.returns-clause-ok
returns-clause-ok c =
    let there = MatchOption-at_none _ _ c.in_default.is c.first_missing.ensures in
    IfOk-weaker c.count_opened.result _ _ (λ bytes found.
    (found.2.0, all-unpack _ found.0 found.2.0 there found.1 found.2.1, found.2.2))
    c.count_opened.ensures.ok

pub returns-clause-unpacks : goal.returns-clause-unpacks
returns-clause-unpacks c = λ rests all.
    MatchResult-from_both c.count_opened.result _ _
    (IfOk-weaker c.count_opened.result _ _ (λ bytes found.
    found.2.2 ∙ ap (λ xs. length (concat xs)) (unpacks-same c.one_head_begins_bytes.ensures _ found.0 found.2.0 rests found.1 found.2.1 all))
    c.count_opened.ensures.ok)
    (IfErr-weaker c.count_opened.result _ _ (λ fault told. unpacks-counted _ rests fault all told) c.count_opened.ensures.err)

pub returns-clause-err : goal.returns-clause-err
returns-clause-err c =
    let there = MatchOption-at_none _ _ c.in_default.is c.first_missing.ensures in
    IfErr-weaker c.count_opened.result _ _ (λ fault told. not-counted-told _ fault there told) c.count_opened.ensures.err
