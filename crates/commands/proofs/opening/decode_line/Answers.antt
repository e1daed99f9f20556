use Rattle.std.proofs.Common.{rules}
use Rattle.commands.specs.Hex.{without_end}
use Rattle.commands.proofs.Decoding.{none-decoded, other-digits, whole-digits}
use Rattle.commands.proofs.opening.decode_line.Goals as goal

pub returns-then-is_empty-clause-ok : goal.returns-then-is_empty-clause-ok
returns-then-is_empty-clause-ok c = none-decoded (without_end c.args.line.now) c.new.result.items (search rules) c.new.ensures.items

pub returns-then-are_digits-clause-digits : goal.returns-then-are_digits-clause-digits
returns-then-are_digits-clause-digits c = λ _.
    whole-digits (without_end c.args.line.now) (λ odd. absurd (cc (c.in-Err-OutOfMemory.ensures.odd (rw (← c.without_end-digits.ensures) at odd)))) (search rules)

pub returns-else-are_digits-clause-bad : goal.returns-else-are_digits-clause-bad
returns-else-are_digits-clause-bad c = λ _. other-digits (without_end c.args.line.now) (search rules)
