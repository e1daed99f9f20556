use Rattle.std.proofs.Common.{◌≡◌, Some, sym, ap, ◌∙◌, subst, rules, arith}
use Rattle.std.specs.Fmt.{decimal}
use Rattle.std.specs.Str.{IsUtf8}
use Rattle.std.proofs.lemmas.Str.{IsUtf8-from_ascii}
use Rattle.std.proofs.lemmas.Fmt.{IsAscii-decimal, parse-decimal}
use Rattle.std.proofs.lemmas.Bool.{false≢true}
use Rattle.std.proofs.lemmas.Bool.Decides.{Decides-eqb}
use Rattle.std.proofs.lemmas.Slice.Eq.{slice_eq-Decides}
use Rattle.media_reading.proofs.Found.{ok-none, ok-some}
use Rattle.channel_folder.proofs.numbers.read_decimal.Goals as goal

pub returns-in_err-digits-clause-only : goal.returns-in_err-digits-clause-only
returns-in_err-digits-clause-only c = λ n small is.
    absurd ((ok-none _ _ _ (sym c.ok.ensures.value ∙ c.in_err-digits.was) c.from_utf8.ensures.cases).1.0 (subst IsUtf8 (sym is) (IsUtf8-from_ascii (decimal n) (IsAscii-decimal n small))))

pub returns-in_err-number-clause-only : goal.returns-in_err-number-clause-only
returns-in_err-number-clause-only c = λ n small is.
    let parsed = parse-decimal 64 n c.in_ok-digits.digits.now c.parse.result small small ((ok-some _ _ _ _ (sym c.ok.ensures.value ∙ c.in_ok-digits.was) c.from_utf8.ensures.cases).0 ∙ is) c.parse.ensures.value.0 in
    absurd (search (rules, parsed, c.ok-2.ensures.value, c.in_err-number.was))

pub returns-then-eq-clause-only : goal.returns-then-eq-clause-only
returns-then-eq-clause-only c = λ n small is.
    let parsed = parse-decimal 64 n c.in_ok-digits.digits.now c.parse.result small small ((ok-some _ _ _ _ (sym c.ok.ensures.value ∙ c.in_ok-digits.was) c.from_utf8.ensures.cases).0 ∙ is) c.parse.ensures.value.0 in
    let read : c.in_ok-number.number ≡ n = grind (arith, parsed, c.ok-2.ensures.value, c.in_ok-number.was) in
    ap Some read

pub returns-clause-only : goal.returns-clause-only
returns-clause-only c = λ n small is.
    let parsed = parse-decimal 64 n c.in_ok-digits.digits.now c.parse.result small small ((ok-some _ _ _ _ (sym c.ok.ensures.value ∙ c.in_ok-digits.was) c.from_utf8.ensures.cases).0 ∙ is) c.parse.ensures.value.0 in
    let read : c.in_ok-number.number ≡ n = grind (arith, parsed, c.ok-2.ensures.value, c.in_ok-number.was) in
    let printed : c.as_bytes.result.now ≡ c.args.text.now = c.as_bytes.ensures.value ∙ c.format.ensures.text ∙ ap decimal read ∙ sym is in
    absurd (false≢true (sym c.if-eq.false ∙ (slice_eq-Decides Decides-eqb _ _ _ c.eq.ensures).1 printed))
