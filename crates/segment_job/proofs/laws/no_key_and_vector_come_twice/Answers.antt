use Rattle.std.proofs.Common.{◌≡◌, arith}
use Rattle.playlist_text.proofs.SaltedVectors.{same_vectors}
use Rattle.segment_job.specs.Rotation.{number_of}
use Rattle.segment_job.proofs.laws.no_key_and_vector_come_twice.Goals as goal

pub returns : goal.returns
returns c = λ r m n small_m small_n apart same.
    let one : number_of r m ≡ number_of r n = same_vectors r.salt (number_of r m) (number_of r n) small_m small_n same.1 in
    apart (omega (arith, one))
