use Rattle.std.proofs.Common.{◌≡◌, ◌+◌, ap, ◌∙◌, arith, inr}
use Rattle.std.proofs.lemmas.Result.{err_from_is_err_and}
use Rattle.playlist_text.specs.MediaLines.{Listing}
use Rattle.resume.specs.Picked.{picks_of}
use Rattle.resume.specs.Picking.{Picks}
use Rattle.resume.proofs.Complete.{are-picked, rows-of, read-same}
use Rattle.resume.proofs.reading_back.read_back.Goals as goal

pub returns-then-picked-clause-whole : goal.returns-then-picked-clause-whole
returns-then-picked-clause-whole c = λ name wanted r is.
    let are = are-picked name wanted c.args.listing.now c.args.frames.now c.args.sizes.now r (picks_of c.in_ok-picked.picked) c.requires.listing is c.in_ok-picked.ensures.picked in
    omega (arith, are.first_is, is.may_go_on.frames, c.if-picked.true)

pub returns-in_default-clause-whole : goal.returns-in_default-clause-whole
returns-in_default-clause-whole c = λ name wanted r is.
    let are = are-picked name wanted c.args.listing.now c.args.frames.now c.args.sizes.now r (picks_of c.in_ok-picked.picked) c.requires.listing is c.in_ok-picked.ensures.picked in
    let rows = rows-of name wanted c.args.listing.now c.args.frames.now c.args.sizes.now r is in
    rw c.in_default.is at (c.in_ok-earlier.ensures.whole r.gone.frames r.earlier rows are)

pub returns-clause-whole : goal.returns-clause-whole
returns-clause-whole c = λ name wanted r is.
    let are = are-picked name wanted c.args.listing.now c.args.frames.now c.args.sizes.now r (picks_of c.in_ok-picked.picked) c.requires.listing is c.in_ok-picked.ensures.picked in
    let rows = rows-of name wanted c.args.listing.now c.args.frames.now c.args.sizes.now r is in
    let earlier : c.in-Some.earlier.items ≡ r.earlier = rw c.in-Some.is at (c.in_ok-earlier.ensures.whole r.gone.frames r.earlier rows are) in
    let sequence : c.listing.inside.sequence ≡ c.args.listing.now.sequence = ap (λ (m : Listing). m.sequence) c.listing.view_is in
    read-same name wanted c.args.listing.now c.args.frames.now c.args.sizes.now r
    (record {
      gone = record { rows = c.listing.inside.sequence; frames = c.from.result; discontinuities = c.listing.inside.discontinuity_sequence };
      earlier = c.in-Some.earlier.items;
      next = c.listing.inside.sequence + c.len.result;
    })
    is sequence (c.from.ensures ∙ are.first_is) (ap (λ (m : Listing). m.discontinuity_sequence) c.listing.view_is) earlier (omega (arith, sequence, c.len.ensures))

pub returns-in_err-earlier-clause-scarce : goal.returns-in_err-earlier-clause-scarce
returns-in_err-earlier-clause-scarce c =
    let told = err_from_is_err_and c.from_residual-in_err-earlier.result c.from_residual-in_err-earlier.ensures.1 in
    rw told.1 (inr (record {
      each = c.in_err-earlier.ensures.scarce;
      first = c.in_ok-picked.picked.first;
      is_first = record { told = λ lines each is. ap (λ (p : Picks). p.first) (c.in_ok-picked.ensures.picked lines each is) };
      small = omega (arith, c.if-picked.false);
    }))

pub returns-in_err-earlier-clause-begun : goal.returns-in_err-earlier-clause-begun
returns-in_err-earlier-clause-begun c =
    let told = err_from_is_err_and c.from_residual-in_err-earlier.result c.from_residual-in_err-earlier.ensures.1 in
    rw told.1 (inr (record { picks = picks_of c.in_ok-picked.picked; are_of = c.in_ok-picked.ensures.picked; begin = c.in_err-earlier.ensures.begun }))
