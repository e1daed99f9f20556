use Rattle.std.proofs.Common.{◌∙◌, ap, option_map}
use Rattle.clap.specs.Simple.{app_of_fields}
use Rattle.command_line.proofs.bare_commands.bare_pack.Goals as goal

pub returns : goal.returns
returns c = record {
  app = ap app_of_fields c.after_help.ensures ∙ ap app_of_fields c.about.ensures ∙ c.new.ensures.app;
  local = ap (λ f. f.has_globals) c.after_help.ensures ∙ ap (λ f. f.has_globals) c.about.ensures ∙ c.new.ensures.local;
  about = ap (λ f. option_map (λ t. t.now) f.about) c.after_help.ensures ∙ ap (λ f. option_map (λ t. t.now) f.about) c.about.ensures;
  faults = ap (λ f. option_map (λ t. t.now) f.after_help) c.after_help.ensures;
}
