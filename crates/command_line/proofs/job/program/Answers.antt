use Rattle.std.proofs.Common.{◌≡◌, ◌∙◌, ap, codes, true}
use Rattle.clap.specs.Words.{App, with_subcommand}
use Rattle.command_line.specs.Options.{check_options, cipher_options, command_of, ladder_options, stream_options}
use Rattle.command_line.proofs.job.program.Goals as goal

pub returns : goal.returns
returns c =
    let one = c.in_ok-program.ensures _ _ _ _ c.in_ok-command.ensures in
    let two = c.in_ok-program-2.ensures _ _ _ _ c.in_ok-command-2.ensures in
    let three = c.in_ok-program-3.ensures _ _ _ _ c.in_ok-command-3.ensures in
    let four = c.in_ok-program-4.ensures _ _ _ _ c.in_ok-command-4.ensures in
    let five = c.in_ok-program-5.ensures _ _ _ _ c.in_ok-command-5.ensures in
    record {
      app =
          c.with_version.ensures.app
          ∙ ap (λ (app : App). record { top = record app.top { has_version = true }; subs = app.subs })
          (five.app ∙ ap (λ (a : App). with_subcommand a (command_of (codes "check") check_options)) (four.app
          ∙ ap (λ (a : App). with_subcommand a (command_of (codes "pack") ladder_options)) (three.app
          ∙ ap (λ (a : App). with_subcommand a (command_of (codes "one") stream_options)) (two.app
          ∙ ap (λ (a : App). with_subcommand a (command_of (codes "open") cipher_options)) (one.app
          ∙ ap (λ (a : App). with_subcommand a (command_of (codes "seal") cipher_options)) c.new-program.ensures.app)))));
      globals = c.with_version.ensures.globals ∙ five.globals ∙ four.globals ∙ three.globals ∙ two.globals ∙ one.globals ∙ c.new-program.ensures.local;
      version = c.with_version.ensures.version_is;
    }
