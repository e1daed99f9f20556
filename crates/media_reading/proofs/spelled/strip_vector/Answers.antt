use Rattle.std.proofs.Common.{sym, ap, ◌∙◌, arith}
use Rattle.std.specs.Prelude.{codes}
use Rattle.std.proofs.lemmas.Bool.{false≢true}
use Rattle.std.proofs.lemmas.Bool.Decides.{Decides-eqb}
use Rattle.std.proofs.lemmas.Option.{MatchOption-at_some, MatchOption-at_none}
use Rattle.std.proofs.lemmas.Slice.Eq.{bytes_eq-Decides, strip_suffix_is}
use Rattle.hex.specs.Hex.{encode_upper}
use Rattle.media_reading.proofs.InLines.{ends-in, vector-stripped}
use Rattle.media_reading.proofs.spelled.strip_vector.Goals as goal

pub returns-in_err-front : goal.returns-in_err-front
returns-in_err-front c =
    let short = MatchOption-at_none _ _ c.in_err-front.was c.split_last_chunk.ensures.cases in
    rw c.from_residual.ensures (λ x same. omega (arith, short, (ends-in c.args.text.now x c.args.salt c.in-Some.salt c.args.number c.in-Some.is same).long))

pub returns-then-not-is_vector : goal.returns-then-not-is_vector
returns-then-not-is_vector c = λ x same.
    let parts = MatchOption-at_some _ _ _ c.in_ok-front.was c.split_last_chunk.ensures.cases in
    let ends = ends-in c.args.text.now x c.args.salt c.in-Some.salt c.args.number c.in-Some.is same in
    let digits = parts.1 ∙ ends.digits ∙ ap encode_upper (sym c.salted_vector.ensures) in
    false≢true (sym c.if-not-is_vector.true ∙ c.is_vector.ensures ∙ (bytes_eq-Decides _ _).1 digits)

pub returns : goal.returns
returns c =
    let parts = MatchOption-at_some _ _ _ c.in_ok-front.was c.split_last_chunk.ensures.cases in
    let digits = (bytes_eq-Decides _ _).0 (sym c.is_vector.ensures ∙ c.if-not-is_vector.false) ∙ ap encode_upper c.salted_vector.ensures in
    vector-stripped c.args.text.now c.in_ok-front.front.now c.in_ok-front.digits.now c.args.salt c.in-Some.salt c.args.number c.strip_suffix.result c.in-Some.is parts.0 parts.1 digits
    (strip_suffix_is Decides-eqb c.in_ok-front.front.now (codes ",IV=0x") c.strip_suffix.result c.strip_suffix.ensures.cases)
