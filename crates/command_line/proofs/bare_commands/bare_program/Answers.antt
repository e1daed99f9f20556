use Rattle.std.proofs.Common.{◌≡◌, ◌∙◌, ap, option_map, true}
use Rattle.clap.specs.Simple.{app_of_fields}
use Rattle.clap.specs.Words.{App}
use Rattle.command_line.proofs.bare_commands.bare_program.Goals as goal

pub returns : goal.returns
returns c = record {
  app =
      ap app_of_fields c.arg_required_else_help.ensures
      ∙ ap (λ f. app_of_fields (record f { arg_required_else_help = true })) c.subcommand_required.ensures
      ∙ ap (λ (app : App). record { top = record app.top { subcommand_required = true; arg_required_else_help = true }; subs = app.subs }) (ap app_of_fields c.about.ensures ∙ c.new.ensures.app);
  local = ap (λ f. f.has_globals) c.arg_required_else_help.ensures ∙ ap (λ f. f.has_globals) c.subcommand_required.ensures ∙ ap (λ f. f.has_globals) c.about.ensures ∙ c.new.ensures.local;
  about = ap (λ f. option_map (λ t. t.now) f.about) c.arg_required_else_help.ensures ∙ ap (λ f. option_map (λ t. t.now) f.about) c.subcommand_required.ensures ∙ ap (λ f. option_map (λ t. t.now) f.about) c.about.ensures;
}
