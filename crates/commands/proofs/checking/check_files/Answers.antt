use Rattle.std.proofs.Common.{map, ap, Err}
use Rattle.std.specs.Path.{path_buf_bytes}
use Rattle.std.specs.String.{string_bytes}
use Rattle.commands.proofs.Checked.{listing-told, text-told}
use Rattle.commands.proofs.checking.check_files.Goals as goal

pub returns-in_err-listing-clause-err : goal.returns-in_err-listing-clause-err
returns-in_err-listing-clause-err g c =
    let files = c.args.files.now in
    text-told (g.F.FileReader.gives files) (g.F.FileReader.refuses files) (g.F.FileReader.wants files) c.args.keys.now c.args.playlist.now
    (string_bytes c.in_ok-text.text) c.deref.result.now c.in_err-listing.field-0.0 c.from_residual-in_err-listing.result c.from_residual-in_err-listing.ensures.1
    c.in_ok-text.ensures.ok c.deref.ensures c.in_err-listing.ensures.err (λ none. c.in_err-listing.ensures.scarce (ap Err none))

pub returns-clause-err : goal.returns-clause-err
returns-clause-err g c =
    let files = c.args.files.now in
    listing-told (g.F.FileReader.gives files) (g.F.FileReader.refuses files) (g.F.FileReader.wants files) c.args.keys.now c.args.playlist.now
    (string_bytes c.in_ok-text.text) c.deref.result.now c.in_ok-listing.listing (map path_buf_bytes c.in_ok-room.room.paths.items)
    c.check_segments.result c.in_ok-text.ensures.ok c.deref.ensures c.in_ok-listing.ensures.ok.0 c.in_ok-listing.ensures.ok.1
    c.in_ok-room.ensures.paths c.check_segments.ensures.err
