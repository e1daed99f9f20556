use Rattle.std.proofs.Common.{◌∙◌, ap}
use Rattle.clap.specs.declared.builder.arg.Arg.{Arg}
use Rattle.clap.specs.Words.{items_of, rule_of}
use Rattle.command_line.specs.Options.{needed}
use Rattle.command_line.proofs.options.needed.Goals as goal

pub returns-clause-rule : goal.returns-clause-rule
returns-clause-rule c = ap rule_of c.required.ensures ∙ ap needed c.text.ensures.rule

pub returns-clause-alone : goal.returns-clause-alone
returns-clause-alone c = ap (λ (a : Arg). a.global) c.required.ensures ∙ c.text.ensures.alone

pub returns-clause-value : goal.returns-clause-value
returns-clause-value c = ap (λ (a : Arg). items_of a.val_names) c.required.ensures ∙ c.text.ensures.value

pub returns-clause-help : goal.returns-clause-help
returns-clause-help c = ap (λ (a : Arg). a.help) c.required.ensures ∙ c.text.ensures.help
