use Rattle.std.proofs.Common.{◌≡◌, ap, Err, inl, inr}
use Rattle.std.proofs.lemmas.Result.{err_from_is_err_and}
use Rattle.commands.specs.Told.{sealing_of}
use Rattle.commands.specs.declared.sealing.SealingFault.TheVariants.{NoMemory}
use Rattle.commands.proofs.SealedTexts.{sealing_of-NoMemory}
use Rattle.commands.proofs.sealing.sealed_packets.Goals as goal

pub returns-in_err-packets-clause-scarce : goal.returns-in_err-packets-clause-scarce
returns-in_err-packets-clause-scarce g c = λ told.
    let p = err_from_is_err_and c.from_residual.result c.from_residual.ensures.1 in
    let same : sealing_of c.in_err-packets.field-0.0 ≡ NoMemory = cc (told, p.1, p.2) in
    inl (c.in_err-packets.ensures.scarce (ap Err (sealing_of-NoMemory _ same)))

pub returns-in_err-sealed-clause-scarce : goal.returns-in_err-sealed-clause-scarce
returns-in_err-sealed-clause-scarce g c = λ _. inr (c.in_ok-packets.ensures.packets.0, c.in_ok-packets.ensures.packets.1)
