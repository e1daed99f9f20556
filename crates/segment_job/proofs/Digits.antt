-- What is written round two numbers.
use Rattle.std.proofs.Common.{ℕ, List, subst}
use Rattle.std.proofs.Output.{has_written_styled_append}
use Rattle.std.specs.Prelude.{codes}
use Rattle.std.specs.Fmt.{HasWrittenStyled, formatter_spec, styled_decimal}
use Rattle.std.specs.declared.fmt.Formatter.{Formatter}
use Rattle.segment_job.specs.Printed.{printed}

module _ {W : Type 0} (took : W → List ℕ → W → Type 0) where
  -- two numbers and the texts round them
  pub numbers-written : (f a b d e g : Formatter W) (name between : List ℕ) (first second : ℕ)
      → HasWrittenStyled took f name a → HasWrittenStyled took a (styled_decimal (formatter_spec a) first) b
      → HasWrittenStyled took b between d → HasWrittenStyled took d (styled_decimal (formatter_spec d) second) e
      → HasWrittenStyled took e (codes ", .. }") g
      → HasWrittenStyled took f (printed name (styled_decimal (formatter_spec f) first) between (styled_decimal (formatter_spec f) second)) g
  numbers-written f a b d e g name between first second one two three four five =
      let number = subst (λ s. HasWrittenStyled took a (styled_decimal s first) b) one.spec two in
      let so_far = has_written_styled_append took _ _ _ _ _ (has_written_styled_append took _ _ _ _ _ one number) three in
      let other = subst (λ s. HasWrittenStyled took d (styled_decimal s second) e) so_far.spec four in
      has_written_styled_append took _ _ _ _ _ (has_written_styled_append took _ _ _ _ _ so_far other) five
