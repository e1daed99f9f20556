use Rattle.std.proofs.Common.{map, sym, subst}
use Rattle.std.proofs.lemmas.Result.{err_from_is_err_and}
use Rattle.hls_check.specs.Unpacking.{packed}
use Rattle.hls_check.specs.Checks.{AreUnpacked}
use Rattle.hls_check.proofs.checking.check.Goals as goal

pub returns-in_err-check_listing-clause-whole : goal.returns-in_err-check_listing-clause-whole
returns-in_err-check_listing-clause-whole c = λ d whole.
    let same = c.in_ok-listing.ensures.reads whole.listing whole.sound whole.is_text in
    let unpacked = subst (λ l. AreUnpacked (packed l.salt l.entries (map (λ s. s.items) c.args.segments.now) c.args.keys.now) d) (sym same) whole.unpacked in
    let none = c.in_err-check_listing.ensures.unpacks d unpacked in
    let p = err_from_is_err_and c.from_residual-in_err-check_listing.result c.from_residual-in_err-check_listing.ensures.1 in
    rw (p.1, p.2) none

pub returns-clause-whole : goal.returns-clause-whole
returns-clause-whole c = λ d whole.
    let same = c.in_ok-listing.ensures.reads whole.listing whole.sound whole.is_text in
    let unpacked = subst (λ l. AreUnpacked (packed l.salt l.entries (map (λ s. s.items) c.args.segments.now) c.args.keys.now) d) (sym same) whole.unpacked in
    c.in_ok-check_listing.ensures.unpacks d unpacked
