use Rattle.std.proofs.Common.{arith, sym, ap, ◌++◌, ◌∙◌}
use Rattle.std.proofs.lemmas.Bool.Decides.{Decides-eqb}
use Rattle.std.proofs.lemmas.Option.{MatchOption-at_some, MatchOption-at_none}
use Rattle.std.proofs.lemmas.Slice.Eq.{strip_prefix_is}
use Rattle.media_reading.proofs.Fronts.{front-more, front-none, front-whole, digits-from, digits-none}
use Rattle.media_reading.proofs.spelled.strip_digits.Goals as goal

pub returns-in_err-rest : goal.returns-in_err-rest
returns-in_err-rest c =
    let none = MatchOption-at_none _ _ c.in_err-rest.was (strip_prefix_is Decides-eqb c.loop-byte.rest.now c.digits_of.result c.strip_prefix.result c.strip_prefix.ensures.cases) in
    let split = digits-from c.args.bytes.now c.loop-byte.byte-index c.loop-byte-test.true in
    rw c.from_residual.ensures (front-none _ _ _ _ _ _ c.loop-byte.invariant split (λ x same. none x (same ∙ ap (λ l. l ++ x) (sym c.digits_of.ensures))))

pub loop-byte-preserved : goal.loop-byte-preserved
loop-byte-preserved c =
    let some = MatchOption-at_some _ _ _ c.in_ok-rest.was (strip_prefix_is Decides-eqb c.loop-byte.rest.now c.digits_of.result c.strip_prefix.result c.strip_prefix.ensures.cases) in
    let split = digits-from c.args.bytes.now c.loop-byte.byte-index c.loop-byte-test.true in
    front-more _ _ _ _ _ _ _ c.loop-byte.invariant split (some ∙ ap (λ l. l ++ c.in_ok-rest.rest.now) c.digits_of.ensures)

pub returns : goal.returns
returns c =
    front-whole _ _ _ _ c.loop-byte.invariant (digits-none c.args.bytes.now c.loop-byte.byte-index (omega (arith, c.loop-byte-test.false)))
