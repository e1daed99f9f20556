use Rattle.std.proofs.Common.{ap}
use Rattle.clap.specs.Simple.{app_of_fields}
use Rattle.command_line.proofs.program.Program.with_version.Goals as goal

pub returns : goal.returns
returns c = record {
  app = ap app_of_fields c.version.ensures;
  globals = ap (λ f. f.has_globals) c.version.ensures;
  version_is = ap (λ f. f.version) c.version.ensures;
}
