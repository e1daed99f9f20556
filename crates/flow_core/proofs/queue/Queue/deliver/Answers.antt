use Rattle.flow_core.proofs.queue.Queue.deliver.Goals as goal

pub returns-clause-yes : goal.returns-clause-yes
returns-clause-yes c = λ d. d.finish.ensures.yes
