use Rattle.std.proofs.Common.{lit<, refl}
use Rattle.std.specs.Prelude.{Some}
use Rattle.std.proofs.lemmas.Str.Pattern.{split_once_first}
use Rattle.commands.proofs.frame_size.size.Goals as goal

pub returns-in_err-width-clause-none : goal.returns-in_err-width-clause-none
returns-in_err-width-clause-none c = λ none width height is.
    let parts = split_once_first 120 c.args.text.now (Some (c.in_ok-left.left, c.in_ok-left.right)) c.in_ok-left.ensures.cases (lit< tt) in
    c.in_err-width.ensures.none refl width (rw (← parts.1) at is.width_is)

pub returns-in_err-height-clause-none : goal.returns-in_err-height-clause-none
returns-in_err-height-clause-none c = λ none width height is.
    let parts = split_once_first 120 c.args.text.now (Some (c.in_ok-left.left, c.in_ok-left.right)) c.in_ok-left.ensures.cases (lit< tt) in
    c.in_err-height.ensures.none refl height (rw (← parts.2) at is.height_is)
