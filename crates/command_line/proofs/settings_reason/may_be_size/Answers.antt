use Rattle.std.proofs.Common.{lit<, rules, subst, sym, Some}
use Rattle.std.proofs.lemmas.Str.Pattern.{split_once_first}
use Rattle.command_line.specs.Explanations.{MayBeSide}
use Rattle.command_line.proofs.Numbers.{size-decided}
use Rattle.command_line.proofs.settings_reason.may_be_size.Goals as goal

pub returns-then-is_side-clause-ok : goal.returns-then-is_side-clause-ok
returns-then-is_side-clause-ok c =
    let parts = split_once_first 120 c.args.text.now (Some (c.in-Some.width, c.in-Some.height)) c.in-Some.ensures.cases (lit< tt) in (
      λ yes. record {
        parted = parts.0;
        width = subst MayBeSide parts.1 (c.is_side.ensures.0 c.if-is_side.true);
        height = subst MayBeSide parts.2 (c.is_side-then-is_side.ensures.0 yes);
      },
      λ may. c.is_side-then-is_side.ensures.1 (subst MayBeSide (sym parts.2) may.height),
    )

pub returns-else-is_side-clause-ok : goal.returns-else-is_side-clause-ok
returns-else-is_side-clause-ok c =
    let parts = split_once_first 120 c.args.text.now (Some (c.in-Some.width, c.in-Some.height)) c.in-Some.ensures.cases (lit< tt) in (
      λ yes. absurd (cc (yes, c.if-is_side.false)),
      λ may. c.is_side.ensures.1 (subst MayBeSide (sym parts.1) may.width),
    )

pub returns-then-is_side-clause-same : goal.returns-then-is_side-clause-same
returns-then-is_side-clause-same c = size-decided _ _ (returns-then-is_side-clause-ok c)

pub returns-else-is_side-clause-same : goal.returns-else-is_side-clause-same
returns-else-is_side-clause-same c = size-decided _ _ (returns-else-is_side-clause-ok c)

pub returns-in_default-clause-same : goal.returns-in_default-clause-same
returns-in_default-clause-same c = size-decided c.args.text.now _ (search rules)
