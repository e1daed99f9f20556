-- Segments that are sealed into files.
use Rattle.std.proofs.Common.{◌≡◌, List, ℕ, Option, ◌++◌, ◌<◌, subst, ap, refl}
use Rattle.std.proofs.lemmas.List.Elements.{All-append}
use Rattle.ghost_list.specs.Bytes.{AreBytes}
use Rattle.segment_job.specs.Segments.{UnsealedSegment, IsSealed, sealed_from}
use Rattle.segment_job.specs.IntoFiles.{IsOutgoing}

-- one opens once it is sealed
pub outgoing_seals : (s : UnsealedSegment) (held : List ℕ) (old : Option (List ℕ)) → IsOutgoing s held old → IsSealed (sealed_from s)
outgoing_seals s held old is = record {
  key = is.key;
  vector = is.vector;
  opens = record {
    tables = is.tables;
    text = record { bytes = subst AreBytes (ap (λ h. h ++ s.plan.body) is.head) (All-append (λ x. x < 256) held s.plan.body is.bytes is.body); sealed = refl };
  };
}
