use Rattle.std.proofs.Common.{map, sym, subst, ap, Err}
use Rattle.std.specs.Path.{path_buf_bytes}
use Rattle.commands.specs.Checking.{AllGive}
use Rattle.commands.proofs.Checked.{segments-told}
use Rattle.commands.proofs.checking.check_segments.Goals as goal

pub returns-in_err-check_listing-clause-err : goal.returns-in_err-check_listing-clause-err
returns-in_err-check_listing-clause-err g c =
    let files = c.args.files.now in
    let paths = map path_buf_bytes c.args.room.paths.items in
    let given = subst (λ xs. AllGive (g.F.FileReader.gives files) paths (map (λ s. s.items) xs)) (sym c.deref.ensures.value) c.in_ok-segments.ensures.ok in
    segments-told (g.F.FileReader.gives files) (g.F.FileReader.refuses files) (g.F.FileReader.wants files) c.args.keys.now c.args.listing.now paths
    (map (λ s. s.items) c.deref.result.now) c.in_err-check_listing.field-0.0 c.from_residual-in_err-check_listing.result
    c.from_residual-in_err-check_listing.ensures.1 given c.in_err-check_listing.ensures.err (λ none. c.in_err-check_listing.ensures.scarce (ap Err none))
