use Rattle.segment_job.proofs.Running.{no-vector-twice}
use Rattle.segment_job.proofs.laws.no_vector_comes_twice_in_all_runs.Goals as goal

pub returns : goal.returns
returns c = no-vector-twice
