use Rattle.std.proofs.Common.{◌≡◌, ℕ, ◌+◌, ◌%◌, [], ◌∷◌, subst, arith, string_bytes}
use Rattle.playlist_text.specs.Appended.{AppendsPart}
use Rattle.std.proofs.lemmas.Result.{err_from_is_err_and}
use Rattle.playlist_text.specs.Numbers.{digit, six_digits}
use Rattle.playlist_text.proofs.Appending.{on-err, part-front, part-then}
use Rattle.playlist_text.proofs.number.push_six_digits.Goals as goal

pub returns-in_err-push_digit-clause-part : goal.returns-in_err-push_digit-clause-part
unfolding six_digits
returns-in_err-push_digit-clause-part c =
    let told = err_from_is_err_and c.from_residual.result c.from_residual.ensures.1 in
    rw told.1 (part-front _ _ _ _ c.in_err-push_digit.ensures.part)

pub returns-in_err-push_digit-2-clause-part : goal.returns-in_err-push_digit-2-clause-part
unfolding six_digits
returns-in_err-push_digit-2-clause-part c =
    let told = err_from_is_err_and c.from_residual-in_err-push_digit-2.result c.from_residual-in_err-push_digit-2.ensures.1 in
    rw told.1 (part-then _ _ _ _ _ c.in_ok-push_digit.ensures.ok (part-front _ _ _ _ c.in_err-push_digit-2.ensures.part))

pub returns-in_err-push_digit-3-clause-part : goal.returns-in_err-push_digit-3-clause-part
unfolding six_digits
returns-in_err-push_digit-3-clause-part c =
    let told = err_from_is_err_and c.from_residual-in_err-push_digit-3.result c.from_residual-in_err-push_digit-3.ensures.1 in
    rw told.1 (part-then _ _ _ _ _ c.in_ok-push_digit.ensures.ok (part-then _ _ _ _ _ c.in_ok-push_digit-2.ensures.ok (part-front _ _ _ _ c.in_err-push_digit-3.ensures.part)))

pub returns-in_err-push_digit-4-clause-part : goal.returns-in_err-push_digit-4-clause-part
unfolding six_digits
returns-in_err-push_digit-4-clause-part c =
    let told = err_from_is_err_and c.from_residual-in_err-push_digit-4.result c.from_residual-in_err-push_digit-4.ensures.1 in
    rw told.1 (part-then _ _ _ _ _ c.in_ok-push_digit.ensures.ok (part-then _ _ _ _ _ c.in_ok-push_digit-2.ensures.ok (part-then _ _ _ _ _ c.in_ok-push_digit-3.ensures.ok (part-front _ _ _ _ c.in_err-push_digit-4.ensures.part))))

pub returns-in_err-push_digit-5-clause-part : goal.returns-in_err-push_digit-5-clause-part
unfolding six_digits
returns-in_err-push_digit-5-clause-part c =
    let told = err_from_is_err_and c.from_residual-in_err-push_digit-5.result c.from_residual-in_err-push_digit-5.ensures.1 in
    rw told.1 (part-then _ _ _ _ _ c.in_ok-push_digit.ensures.ok (part-then _ _ _ _ _ c.in_ok-push_digit-2.ensures.ok (part-then _ _ _ _ _ c.in_ok-push_digit-3.ensures.ok (part-then _ _ _ _ _ c.in_ok-push_digit-4.ensures.ok (part-front _ _ _ _ c.in_err-push_digit-5.ensures.part)))))

pub returns-clause-part : goal.returns-clause-part
unfolding six_digits
returns-clause-part c =
    let last : 48 + c.args.number % 10 ≡ digit c.args.number 0 = omega arith in
    on-err c.push_digit-6.result c.push_digit-6.ensures.part (λ p. part-then _ _ _ _ _ c.in_ok-push_digit.ensures.ok (part-then _ _ _ _ _ c.in_ok-push_digit-2.ensures.ok (part-then _ _ _ _ _ c.in_ok-push_digit-3.ensures.ok (part-then _ _ _ _ _ c.in_ok-push_digit-4.ensures.ok (part-then _ _ _ _ _ c.in_ok-push_digit-5.ensures.ok (subst (λ (d : ℕ). AppendsPart (string_bytes c.push_digit-5.new.out) (d ∷ []) (string_bytes c.push_digit-6.new.out)) last p))))))
