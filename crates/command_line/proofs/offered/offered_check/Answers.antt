use Rattle.std.proofs.Common.{◌∙◌, ◌++◌, [], map, ap, refl}
use Rattle.command_line.specs.Offered.{offered, check_offered}
use Rattle.command_line.proofs.offered.offered_check.Goals as goal

pub returns : goal.returns
returns c = record {
  app = c.bare_check-bare.ensures.app;
  local = c.bare_check-bare.ensures.local;
  about_is = c.bare_check-bare.ensures.about;
  faults_are = c.bare_check-bare.ensures.faults;
  options_are = c.in_ok-options.ensures.all ∙ ap (λ options. map offered options ++ check_offered) c.new.ensures.items;
  alone = refl;
}
