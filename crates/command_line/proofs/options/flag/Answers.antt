use Rattle.std.proofs.Common.{◌∙◌, Some, ap}
use Rattle.command_line.proofs.Adding.{none-of-zero}
use Rattle.clap.specs.declared.builder.action.ArgAction.TheVariants.{SetTrue}
use Rattle.clap.specs.declared.builder.arg.Arg.{Arg}
use Rattle.clap.specs.Words.{Rule, items_of, rule_of}
use Rattle.command_line.proofs.options.flag.Goals as goal

pub returns-clause-rule : goal.returns-clause-rule
returns-clause-rule c =
    ap rule_of c.help.ensures ∙ ap rule_of c.action.ensures
    ∙ ap (λ (r : Rule). record r { action = Some SetTrue }) (ap rule_of c.long.ensures ∙ ap (λ (r : Rule). record r { long = Some c.args.name.now }) c.new.ensures.rule)

pub returns-clause-alone : goal.returns-clause-alone
returns-clause-alone c =
    ap (λ (a : Arg). a.global) c.help.ensures ∙ ap (λ (a : Arg). a.global) c.action.ensures ∙ ap (λ (a : Arg). a.global) c.long.ensures ∙ c.new.ensures.optional.1

pub returns-clause-help : goal.returns-clause-help
returns-clause-help c = ap (λ (a : Arg). a.help) c.help.ensures

pub returns-clause-bare : goal.returns-clause-bare
returns-clause-bare c =
    ap (λ (a : Arg). items_of a.val_names) c.help.ensures ∙ ap (λ (a : Arg). items_of a.val_names) c.action.ensures ∙ ap (λ (a : Arg). items_of a.val_names) c.long.ensures
    ∙ none-of-zero (items_of c.new.result.val_names) (ap (λ (r : Rule). r.value_names) c.new.ensures.rule)
