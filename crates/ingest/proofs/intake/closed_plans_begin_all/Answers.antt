use Rattle.ingest.proofs.Ordered.{closed_of-none, closed_of-begin, closed_of-grow}
use Rattle.ingest.proofs.intake.closed_plans_begin_all.Goals as goal

pub returns-clause-none : goal.returns-clause-none
returns-clause-none c = closed_of-none

pub returns-clause-begin : goal.returns-clause-begin
returns-clause-begin c = closed_of-begin

pub returns-clause-grow : goal.returns-clause-grow
returns-clause-grow c = closed_of-grow
