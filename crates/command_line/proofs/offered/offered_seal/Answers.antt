use Rattle.std.proofs.Common.{◌∙◌, ◌++◌, [], map, ap, refl}
use Rattle.command_line.specs.Offered.{offered, cipher_offered}
use Rattle.command_line.proofs.offered.offered_seal.Goals as goal

pub returns : goal.returns
returns c = record {
  app = c.bare_seal-bare.ensures.app;
  local = c.bare_seal-bare.ensures.local;
  about_is = c.bare_seal-bare.ensures.about;
  faults_are = c.bare_seal-bare.ensures.faults;
  options_are = c.in_ok-options.ensures.all ∙ ap (λ options. map offered options ++ cipher_offered) c.new.ensures.items;
  alone = refl;
}
