use Rattle.std.proofs.Common.{sym, ap, ◌∙◌, ◌++◌}
use Rattle.std.proofs.lemmas.Bool.Decides.{Decides-eqb}
use Rattle.std.proofs.lemmas.Option.{MatchOption-at_some, MatchOption-at_none}
use Rattle.std.proofs.lemmas.Slice.Eq.{strip_prefix_is}
use Rattle.media_reading.proofs.InLines.{index-is, index-unbegun, index-unnamed}
use Rattle.media_reading.proofs.spelled.key_index.Goals as goal

pub returns-in_err-uri : goal.returns-in_err-uri
returns-in_err-uri c =
    let none = MatchOption-at_none _ _ c.in_err-uri.was (strip_prefix_is Decides-eqb c.args.line.now c.as_bytes.result.now c.strip_prefix.result c.strip_prefix.ensures.cases) in
    rw c.from_residual.ensures (index-unbegun c.args.line.now c.args.name.now c.args.salt c.args.number (λ x same. none x (same ∙ ap (λ l. l ++ x) (sym c.as_bytes.ensures.value))))

pub returns-in_err-strip_name : goal.returns-in_err-strip_name
returns-in_err-strip_name c =
    let begun = MatchOption-at_some _ _ _ c.in_ok-uri.was (strip_prefix_is Decides-eqb c.args.line.now c.as_bytes.result.now c.strip_prefix.result c.strip_prefix.ensures.cases) in
    let none = MatchOption-at_none _ _ c.in_err-strip_name.was c.strip_name.ensures in
    rw c.from_residual-in_err-strip_name.ensures (index-unnamed c.args.line.now c.args.name.now c.in_ok-uri.uri.now c.args.salt c.args.number
    (begun ∙ ap (λ l. l ++ c.in_ok-uri.uri.now) c.as_bytes.ensures.value) none)

pub returns : goal.returns
returns c =
    let begun = MatchOption-at_some _ _ _ c.in_ok-uri.was (strip_prefix_is Decides-eqb c.args.line.now c.as_bytes.result.now c.strip_prefix.result c.strip_prefix.ensures.cases) in
    let named = MatchOption-at_some _ _ _ c.in_ok-strip_name.was c.strip_name.ensures in
    index-is c.args.line.now c.args.name.now c.in_ok-uri.uri.now c.in_ok-strip_name.field-0.now c.args.salt c.args.number c.strip_vector.result
    (begun ∙ ap (λ l. l ++ c.in_ok-uri.uri.now) c.as_bytes.ensures.value) named c.strip_vector.ensures
