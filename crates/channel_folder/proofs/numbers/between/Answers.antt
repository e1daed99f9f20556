use Rattle.std.proofs.lemmas.Bool.Decides.{Decides-eqb}
use Rattle.std.proofs.lemmas.Option.{MatchOption-at_some, MatchOption-at_none}
use Rattle.std.proofs.lemmas.Slice.Eq.{strip_prefix_is, strip_suffix_is}
use Rattle.media_reading.proofs.Spellings.{between-parts, between-none}
use Rattle.channel_folder.proofs.numbers.between.Goals as goal

pub returns : goal.returns
returns c =
    let stripped = MatchOption-at_some _ _ _ c.in_ok-strip_prefix.was (strip_prefix_is Decides-eqb c.args.line.now c.args.front.now c.strip_prefix.result c.strip_prefix.ensures.cases) in
    between-parts c.args.line.now c.args.front.now c.args.back.now c.in_ok-strip_prefix.field-0.now c.strip_suffix.result stripped
    (strip_suffix_is Decides-eqb c.in_ok-strip_prefix.field-0.now c.args.back.now c.strip_suffix.result c.strip_suffix.ensures.cases)

pub returns-in_err-strip_prefix : goal.returns-in_err-strip_prefix
returns-in_err-strip_prefix c =
    rw c.from_residual.ensures (between-none c.args.line.now c.args.front.now c.args.back.now
    (MatchOption-at_none _ _ c.in_err-strip_prefix.was (strip_prefix_is Decides-eqb c.args.line.now c.args.front.now c.strip_prefix.result c.strip_prefix.ensures.cases)))
