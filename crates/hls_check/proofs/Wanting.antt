-- Where memory is wanted.
use Rattle.std.proofs.Common.{◌≡◌, sym, subst, IfErr, IsErrAnd, Result}
use Rattle.std.proofs.lemmas.Result.{err_from_is_err_and}
use Rattle.hls_check.specs.declared.fault.UnpackFault.{UnpackFault}
use Rattle.hls_check.specs.declared.fault.UnpackFault.TheVariants.{NoMemory}

-- what is told of a lack of memory
pub memory-told : {T : Type 0} (r : Result T UnpackFault) (Told : UnpackFault → Type 0) → IsErrAnd r (λ fault. fault ≡ NoMemory) → Told NoMemory → IfErr r Told
memory-told r Told is told =
    let found = err_from_is_err_and r is in
    rw found.1 (subst Told (sym found.2) told)
