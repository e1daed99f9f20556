use Rattle.std.proofs.Common.{[], ◌∷◌, ◌++◌, ap, ◌∙◌}
use Rattle.std.proofs.lemmas.List.Elements.{All-nil, All-cons, All-append}
use Rattle.std.proofs.lemmas.Option.{MatchOption-at_some, MatchOption-at_none}
use Rattle.playlist_text.proofs.TextLines.{text_of-nil}
use Rattle.media_reading.specs.MediaTexts.{IsLine}
use Rattle.media_reading.proofs.Splitting.{text-more, lines-same}
use Rattle.channel_folder.specs.ReadTexts.{untold, tell_lines}
use Rattle.channel_folder.proofs.Telling.{told-more, told-nil}
use Rattle.channel_folder.proofs.last_lines.last_lines.Goals as goal

pub line-init : goal.line-init
line-init c = record {
  lines = [];
  whole = ap (λ x. x ++ c.args.text.now) text_of-nil;
  each = All-nil IsLine;
  told = λ name is. told-nil name;
}

pub line-preserved : goal.line-preserved
line-preserved c =
    let held = c.line.invariant in
    let parts = MatchOption-at_some _ _ _ c.in-Some.is c.split_line.ensures in
    record {
      lines = held.lines ++ c.in-Some.line.now ∷ [];
      whole = text-more held.lines c.in-Some.line.now c.in-Some.behind.now c.line.rest.now c.args.text.now held.whole parts.1;
      each = All-append IsLine held.lines (c.in-Some.line.now ∷ []) held.each (All-cons IsLine c.in-Some.line.now [] parts.0 (All-nil IsLine));
      told = λ name is. c.with_line-told.ensures name is ∙ told-more name held.lines c.in-Some.line.now _ (held.told name is);
    }

pub returns : goal.returns
returns c = λ name is lines last split.
    let held = c.line.invariant in
    let open_end : IsLine c.line.rest.now = MatchOption-at_none _ _ c.in_default.is c.split_line.ensures in
    let same = lines-same held.lines lines c.line.rest.now last held.each split.lines_end open_end split.last_is_open (held.whole ∙ split.whole) in
    held.told name is ∙ ap (tell_lines name untold) same.0
