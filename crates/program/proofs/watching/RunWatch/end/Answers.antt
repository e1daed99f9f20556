use Rattle.std.proofs.Common.{◌≡◌, option_map, refl, subst}
use Rattle.program.specs.Faulted.{last_fault}
use Rattle.program.specs.Metered.{IsLastLook}
use Rattle.program.specs.declared.watching.Watching.{Watching}
use Rattle.program.proofs.watching.RunWatch.end.Goals as goal

pub returns-in-Runs-clause-runs : goal.returns-in-Runs-clause-runs
returns-in-Runs-clause-runs g c = λ watching runs.
    let same : c.in-Runs.watching ≡ watching = cc (c.in-Runs.is, runs) in (
      c.end.result,
      refl,
      subst
          (λ (w : Watching). IsLastLook w.thread.promise.writer.value c.args.board.now.list (last_fault (option_map (λ f. f.now) c.args.fault)) c.end.result)
          same
          (record { stays = c.end.ensures.kept; put = c.end.ensures.put; untold = c.end.ensures.untold }),
    )
