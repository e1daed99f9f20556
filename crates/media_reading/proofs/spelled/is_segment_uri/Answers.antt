use Rattle.std.proofs.lemmas.Option.{MatchOption-at_some}
use Rattle.media_reading.proofs.Found.{MatchOption-none}
use Rattle.media_reading.proofs.InLines.{segment-unnamed, segment-unread, segment-read}
use Rattle.media_reading.proofs.spelled.is_segment_uri.Goals as goal

pub returns-in_default : goal.returns-in_default
returns-in_default c = segment-unnamed c.args.line.now c.args.name.now c.args.number (MatchOption-none _ _ _ c.in_default.not-Some c.strip_name.ensures)

pub returns-in-None : goal.returns-in-None
returns-in-None c =
    segment-unread c.args.line.now c.args.name.now c.in-Some.rest.now c.args.number c.read_between.result (MatchOption-at_some _ _ _ c.in-Some.is c.strip_name.ensures) c.in-None.is
    (c.read_between.ensures.only c.args.number c.ranges.number.fits)

pub returns-in-Some-read_between : goal.returns-in-Some-read_between
returns-in-Some-read_between c =
    segment-read c.args.line.now c.args.name.now c.in-Some.rest.now c.args.number c.in-Some-read_between.found c.read_between.result (MatchOption-at_some _ _ _ c.in-Some.is c.strip_name.ensures)
    c.in-Some-read_between.is c.in-Some-read_between.ensures.found (c.read_between.ensures.only c.args.number c.ranges.number.fits)
