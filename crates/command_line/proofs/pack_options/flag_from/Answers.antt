use Rattle.command_line.proofs.pack_options.flag_from.Goals as goal

pub returns-clause-rule : goal.returns-clause-rule
returns-clause-rule c = c.flag.ensures.rule

pub returns-clause-alone : goal.returns-clause-alone
returns-clause-alone c = c.flag.ensures.alone

pub returns-clause-help : goal.returns-clause-help
returns-clause-help c = c.flag.ensures.help

pub returns-clause-bare : goal.returns-clause-bare
returns-clause-bare c = c.flag.ensures.bare
