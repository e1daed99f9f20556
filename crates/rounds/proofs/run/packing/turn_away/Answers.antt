use Rattle.ingest.proofs.Ordered.{closed_of-none}
use Rattle.rounds.specs.Shown.{start_at}
use Rattle.rounds.proofs.Ending.{unbegun-said, turned-away}
use Rattle.rounds.proofs.Gates.{unbegun-unheld}
use Rattle.rounds.proofs.run.packing.turn_away.Goals as goal

pub returns-clause-fault : goal.returns-clause-fault
returns-clause-fault g c =
    unbegun-said _ _ _ _ c.args.settings.now (start_at c.args.endpoints) c.args.workers c.args.endpoints.reads
    (λ k. closed_of-none k c.args.settings.now.cut) c.args.fault c.requires.fault

pub returns-clause-breach : goal.returns-clause-breach
returns-clause-breach g c =
    turned-away _ _ g.S.Source.input g.O.Outlet.output c.args.settings.now (start_at c.args.endpoints) c.args.workers c.args.endpoints.reads
    c.args.fault c.requires.fault

pub returns-clause-unheld : goal.returns-clause-unheld
returns-clause-unheld g c = unbegun-unheld _ _ _ _ c.args.fault c.requires.fault
