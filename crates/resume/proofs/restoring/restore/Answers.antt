use Rattle.resume.proofs.Complete.{not-refused}
use Rattle.resume.proofs.restoring.restore.Goals as goal

pub returns-in_err-look-clause-whole : goal.returns-in_err-look-clause-whole
returns-in_err-look-clause-whole c = λ r is.
    absurd (not-refused c.args.name.now c.args.wanted c.args.listing.now c.args.frames.now c.args.sizes.now r c.in_err-look.field-0.0 is c.in_err-look.ensures.err)
