-- Where the bytes of a sealed segment are.
use Rattle.std.specs.Prelude.{ℕ, List}
use Rattle.segment_job.specs.declared.sealed_bytes.SealedBytes.{SealedBytes}
use Rattle.segment_job.specs.declared.sealed_bytes.SealedBytes.TheVariants.{InMemory, InFile}

-- the bytes themselves
abbrev pub bytes_of : SealedBytes → List ℕ
bytes_of (InMemory bytes) = bytes.items
bytes_of (InFile file) = file.bytes
