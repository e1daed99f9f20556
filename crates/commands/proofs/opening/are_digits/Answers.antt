use Rattle.std.proofs.Common.{rules, tests}
use Rattle.std.proofs.lemmas.Iterator.{YieldsList-from_slice}
use Rattle.std.proofs.lemmas.Iterator.Search.{all_from_yields_List}
use Rattle.hex.specs.Hex.{is_hex_digit}
use Rattle.commands.proofs.opening.are_digits.Goals as goal

pub returns : goal.returns
returns c =
    all_from_yields_List is_hex_digit _ _ _ c.all.ensures.ran (YieldsList-from_slice c.args.text.now cc) (λ x b q k. search (rules, tests))
