use Rattle.std.proofs.Common.{◌∙◌, Some, ap}
use Rattle.clap.specs.declared.builder.arg.Arg.{Arg}
use Rattle.clap.specs.Words.{Rule, items_of, rule_of}
use Rattle.command_line.proofs.options.text.Goals as goal

pub returns-clause-rule : goal.returns-clause-rule
returns-clause-rule c =
    ap rule_of c.help.ensures ∙ ap rule_of c.value_name.ensures
    ∙ ap (λ (r : Rule). record r { value_names = 1 }) (ap rule_of c.long.ensures ∙ ap (λ (r : Rule). record r { long = Some c.args.name.now }) c.new.ensures.rule)

pub returns-clause-alone : goal.returns-clause-alone
returns-clause-alone c =
    ap (λ (a : Arg). a.global) c.help.ensures ∙ ap (λ (a : Arg). a.global) c.value_name.ensures ∙ ap (λ (a : Arg). a.global) c.long.ensures ∙ c.new.ensures.optional.1

pub returns-clause-value : goal.returns-clause-value
returns-clause-value c = ap (λ (a : Arg). items_of a.val_names) c.help.ensures ∙ ap (λ (a : Arg). items_of a.val_names) c.value_name.ensures

pub returns-clause-help : goal.returns-clause-help
returns-clause-help c = ap (λ (a : Arg). a.help) c.help.ensures
