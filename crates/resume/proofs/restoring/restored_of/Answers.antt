use Rattle.std.proofs.Common.{refl, ap}
use Rattle.std.proofs.lemmas.Bool.{false≢true}
use Rattle.playlist_text.specs.MediaLines.{Listing}
use Rattle.resume.proofs.Reading.{may-go-on, is-restored}
use Rattle.resume.proofs.Complete.{listed}
use Rattle.resume.proofs.restoring.restored_of.Goals as goal

pub shows-requires-clause-may_go_on : goal.shows-requires-clause-may_go_on
shows-requires-clause-may_go_on c =
    let read = rw c.in-Some.is at c.in_ok-restored.ensures in
    may-go-on c.args.wanted c.args.listing.now c.args.sizes.now c.in-Some.restored c.requires.listing c.requires.wanted read.read

pub returns-then-not-is_named-clause-whole : goal.returns-then-not-is_named-clause-whole
returns-then-not-is_named-clause-whole c = λ r is.
    let named = ap (λ (m : Listing). m.name) (listed c.args.name.now c.args.wanted c.args.listing.now c.args.frames.now c.args.sizes.now r is) in
    absurd (false≢true (c.if-not-is_named.ensures.1 named))

pub returns-in-Ok-clause-restored : goal.returns-in-Ok-clause-restored
returns-in-Ok-clause-restored c =
    let read = rw c.in-Some.is at c.in_ok-restored.ensures in
    let same = rw c.in-Ok.is at c.in_ok-shows.ensures in
    is-restored c.args.name.now c.args.wanted c.args.listing.now c.args.frames.now c.args.sizes.now c.in-Some.restored c.requires.listing c.requires.wanted
    read.read (c.if-not-is_named.ensures.0 refl) same.0
