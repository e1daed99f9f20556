use Rattle.std.proofs.Common.{◌∙◌, ◌++◌, [], map, ap, refl}
use Rattle.command_line.specs.Offered.{offered, ladder_offered}
use Rattle.command_line.proofs.offered.offered_pack.Goals as goal

pub returns : goal.returns
returns c = record {
  app = c.bare_pack-bare.ensures.app;
  local = c.bare_pack-bare.ensures.local;
  about_is = c.bare_pack-bare.ensures.about;
  faults_are = c.bare_pack-bare.ensures.faults;
  options_are = c.in_ok-options.ensures.all ∙ ap (λ options. map offered options ++ ladder_offered) c.new.ensures.items;
  alone = refl;
}
