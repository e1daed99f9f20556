use Rattle.std.proofs.Common.{◌-◌, ◌++◌, ◌/◌, ◌%◌, length, drop, Some, sym, ap, ◌∙◌, arith}
use Rattle.std.proofs.lemmas.List.{take-append-drop}
use Rattle.std.proofs.lemmas.Option.{MatchOption-at_some, MatchOption-at_none, same_Some, none-some}
use Rattle.playlist_text.specs.Numbers.{seconds}
use Rattle.media_reading.proofs.Spellings.{seconds-of, seconds-long, seconds-split, seconds-joined, duration-between, parts-sum}
use Rattle.media_reading.proofs.numbers.read_seconds.Goals as goal

pub returns-in_err-seconds-clause-only : goal.returns-in_err-seconds-clause-only
returns-in_err-seconds-clause-only c = λ micros small is.
    absurd (MatchOption-at_none _ _ c.in_err-seconds.was c.between.ensures (seconds micros) (duration-between c.args.line.now micros is))

pub returns-in_err-front-clause-only : goal.returns-in_err-front-clause-only
returns-in_err-front-clause-only c = λ micros small is.
    let s = seconds-of c.args.line.now c.in_ok-seconds.seconds.now micros (MatchOption-at_some _ _ _ c.in_ok-seconds.was c.between.ensures) is in
    let short = MatchOption-at_none _ _ c.in_err-front.was c.split_last_chunk.ensures.cases in
    absurd (omega (arith, short, ap length s, seconds-long micros))

pub returns-in_err-whole-clause-only : goal.returns-in_err-whole-clause-only
returns-in_err-whole-clause-only c = λ micros small is.
    let s = seconds-of c.args.line.now c.in_ok-seconds.seconds.now micros (MatchOption-at_some _ _ _ c.in_ok-seconds.was c.between.ensures) is in
    let parts = MatchOption-at_some _ _ _ c.in_ok-front.was c.split_last_chunk.ensures.cases in
    let split = seconds-split c.in_ok-seconds.seconds.now c.in_ok-front.front.now c.in_ok-front.digits.now micros s parts.0 parts.1 in
    absurd (none-some _ (sym c.in_err-whole.was ∙ c.read_between.ensures.only (micros / 1_000_000) (omega arith) split.whole))

pub returns-in_err-rest-clause-only : goal.returns-in_err-rest-clause-only
returns-in_err-rest-clause-only c = λ micros small is.
    let s = seconds-of c.args.line.now c.in_ok-seconds.seconds.now micros (MatchOption-at_some _ _ _ c.in_ok-seconds.was c.between.ensures) is in
    let parts = MatchOption-at_some _ _ _ c.in_ok-front.was c.split_last_chunk.ensures.cases in
    let split = seconds-split c.in_ok-seconds.seconds.now c.in_ok-front.front.now c.in_ok-front.digits.now micros s parts.0 parts.1 in
    absurd (none-some _ (sym c.in_err-rest.was ∙ c.read_six_digits.ensures.only (micros % 1_000_000) (omega arith) split.rest))

pub returns-then-micros-from-clause-only : goal.returns-then-micros-from-clause-only
returns-then-micros-from-clause-only c = λ micros small is.
    let s = seconds-of c.args.line.now c.in_ok-seconds.seconds.now micros (MatchOption-at_some _ _ _ c.in_ok-seconds.was c.between.ensures) is in
    let parts = MatchOption-at_some _ _ _ c.in_ok-front.was c.split_last_chunk.ensures.cases in
    let split = seconds-split c.in_ok-seconds.seconds.now c.in_ok-front.front.now c.in_ok-front.digits.now micros s parts.0 parts.1 in
    let high = same_Some _ _ (sym c.in_ok-whole.was ∙ c.read_between.ensures.only (micros / 1_000_000) (omega arith) split.whole) in
    let low = same_Some _ _ (sym c.in_ok-rest.was ∙ c.read_six_digits.ensures.only (micros % 1_000_000) (omega arith) split.rest) in
    absurd (omega (arith, c.if-micros-from.true, c.from.ensures, c.from-2.ensures, c.from-3.ensures, small, parts-sum micros _ _ high low))

pub returns-clause-found : goal.returns-clause-found
returns-clause-found c =
    let parts = MatchOption-at_some _ _ _ c.in_ok-front.was c.split_last_chunk.ensures.cases in (
      omega (arith, c.if-micros-from.false, c.from.ensures, c.from-2.ensures, c.from-3.ensures),
      seconds-joined c.args.line.now c.in_ok-seconds.seconds.now c.in_ok-front.front.now c.in_ok-front.digits.now c.in_ok-whole.whole c.in_ok-rest.rest _
          (MatchOption-at_some _ _ _ c.in_ok-seconds.was c.between.ensures)
          (sym (take-append-drop (length c.in_ok-seconds.seconds.now - 6) c.in_ok-seconds.seconds.now) ∙ ap (λ x. x ++ drop (length c.in_ok-seconds.seconds.now - 6) c.in_ok-seconds.seconds.now) (sym parts.0)
          ∙ ap (λ x. c.in_ok-front.front.now ++ x) (sym parts.1)) c.in_ok-whole.ensures.found c.in_ok-rest.ensures.found.1 c.in_ok-rest.ensures.found.0 (omega (arith, c.from.ensures, c.from-2.ensures)),
    )

pub returns-clause-only : goal.returns-clause-only
returns-clause-only c = λ micros small is.
    let s = seconds-of c.args.line.now c.in_ok-seconds.seconds.now micros (MatchOption-at_some _ _ _ c.in_ok-seconds.was c.between.ensures) is in
    let parts = MatchOption-at_some _ _ _ c.in_ok-front.was c.split_last_chunk.ensures.cases in
    let split = seconds-split c.in_ok-seconds.seconds.now c.in_ok-front.front.now c.in_ok-front.digits.now micros s parts.0 parts.1 in
    let high = same_Some _ _ (sym c.in_ok-whole.was ∙ c.read_between.ensures.only (micros / 1_000_000) (omega arith) split.whole) in
    let low = same_Some _ _ (sym c.in_ok-rest.was ∙ c.read_six_digits.ensures.only (micros % 1_000_000) (omega arith) split.rest) in
    ap Some (omega (arith, c.from.ensures, c.from-2.ensures, parts-sum micros _ _ high low))
