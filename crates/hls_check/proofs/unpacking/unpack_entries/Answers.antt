use Rattle.std.proofs.Common.{◌∙◌, map, ap, subst}
use Rattle.std.proofs.lemmas.Option.{MatchOption-at_some, MatchOption-at_none}
use Rattle.std.proofs.lemmas.Result.{IfOk-weaker, IfErr-weaker, MatchResult-from_both, err_from_is_err_and}
use Rattle.std.specs.List.{concat}
use Rattle.hls_check.specs.Texts.{AreRests, IsNoRest}
use Rattle.hls_check.proofs.Unpacked.{all-unpack, unpacks-same, unpacks-there, unpacks-open, unpacks-begins, no-rest-told}
use Rattle.hls_check.proofs.unpacking.unpack_entries.Goals as goal

pub returns-in-Some-clause-unpacks : goal.returns-in-Some-clause-unpacks
returns-in-Some-clause-unpacks c = λ rests all. absurd (unpacks-there _ rests c.in-Some.i all (MatchOption-at_some _ _ _ c.in-Some.is c.first_missing.ensures))

pub returns-in_err-texts-clause-unpacks : goal.returns-in_err-texts-clause-unpacks
returns-in_err-texts-clause-unpacks c = λ rests all.
    let p = err_from_is_err_and c.from_residual.result c.from_residual.ensures.1 in
    rw (p.1, p.2) (unpacks-open _ rests _ all c.in_err-texts.ensures.err)

pub returns-clause-ok : goal.returns-clause-ok
returns-clause-ok c =
    let there = MatchOption-at_none _ _ c.in_default.is c.first_missing.ensures in
    let texts = map (λ t. t.items) c.in_ok-texts.texts.items in
    IfOk-weaker c.join_rests.result _ _ (λ bytes found.
    (found.0, all-unpack _ texts found.0 there c.in_ok-texts.ensures.ok (subst (λ xs. AreRests (map (λ t. t.items) xs) found.0) c.deref.ensures.value found.1), found.2))
    c.join_rests.ensures.ok

pub returns-clause-unpacks : goal.returns-clause-unpacks
returns-clause-unpacks c = λ rests all.
    let texts = map (λ t. t.items) c.in_ok-texts.texts.items in
    MatchResult-from_both c.join_rests.result _ _
    (IfOk-weaker c.join_rests.result _ _ (λ bytes found.
    found.2 ∙ ap concat (unpacks-same c.one_head_begins_bytes.ensures _ texts found.0 rests c.in_ok-texts.ensures.ok (subst (λ xs. AreRests (map (λ t. t.items) xs) found.0) c.deref.ensures.value found.1) all))
    c.join_rests.ensures.ok)
    (IfErr-weaker c.join_rests.result _ _ (λ fault told.
    unpacks-begins _ texts rests fault c.in_ok-texts.ensures.ok all (subst (λ xs. IsNoRest (map (λ t. t.items) xs) fault) c.deref.ensures.value told))
    c.join_rests.ensures.err)

pub returns-clause-err : goal.returns-clause-err
returns-clause-err c =
    let there = MatchOption-at_none _ _ c.in_default.is c.first_missing.ensures in
    let texts = map (λ t. t.items) c.in_ok-texts.texts.items in
    IfErr-weaker c.join_rests.result _ _ (λ fault told.
    no-rest-told _ texts fault there c.in_ok-texts.ensures.ok (subst (λ xs. IsNoRest (map (λ t. t.items) xs) fault) c.deref.ensures.value told))
    c.join_rests.ensures.err
