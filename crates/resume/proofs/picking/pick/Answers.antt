use Rattle.std.proofs.Common.{◌≡◌, ◌≢◌, true, [], ◌∷◌, ◌++◌, sym, ap, subst, ◌∙◌, append-nil}
use Rattle.std.proofs.lemmas.List.Elements.{All-nil, All-cons, All-append}
use Rattle.std.proofs.lemmas.Result.{err_from_is_err_and}
use Rattle.std.proofs.lemmas.Option.{MatchOption-at_some, MatchOption-at_none}
use Rattle.playlist_text.specs.Lines.{text_of}
use Rattle.playlist_text.proofs.TextLines.{text_of-nil}
use Rattle.media_reading.specs.MediaTexts.{IsLine}
use Rattle.media_reading.proofs.Splitting.{text-more, lines-same}
use Rattle.resume.specs.Picking.{Picks, may_want, no_picks, pick_lines}
use Rattle.resume.specs.Picked.{picks_of}
use Rattle.resume.proofs.PickedLines.{picks-more}
use Rattle.resume.proofs.picking.pick.Goals as goal

pub line-init : goal.line-init
unfolding pick_lines
line-init c = record {
  lines = [];
  whole = ap (λ x. x ++ c.as_bytes-rest.result.now) text_of-nil ∙ c.as_bytes-rest.ensures.value;
  each = All-nil IsLine;
  picked = c.new-picked.ensures;
}

pub line-preserved : goal.line-preserved
line-preserved c =
    let held = c.line.invariant in
    let parts = MatchOption-at_some _ _ _ c.in-Some.is c.split_line.ensures in
    record {
      lines = held.lines ++ c.in-Some.line.now ∷ [];
      whole = text-more held.lines c.in-Some.line.now c.in-Some.behind.now c.line.rest.now c.args.text.now held.whole parts.1;
      each = All-append IsLine held.lines (c.in-Some.line.now ∷ []) held.each (All-cons IsLine c.in-Some.line.now [] parts.0 (All-nil IsLine));
      picked = c.in_ok-take.ensures.taken ∙ picks-more no_picks (picks_of c.line.picked) held.lines c.in-Some.line.now held.picked;
    }

pub returns-clause-picked : goal.returns-clause-picked
returns-clause-picked c = λ lines each is.
    let held = c.line.invariant in
    let open_end : IsLine c.line.rest.now = MatchOption-at_none _ _ c.in_default.is c.split_line.ensures in
    let same = lines-same held.lines lines c.line.rest.now [] held.each each open_end (All-nil (λ b. b ≢ 10)) (held.whole ∙ is ∙ sym (append-nil (text_of lines))) in
    held.picked ∙ ap (pick_lines no_picks) same.0

pub returns-in_err-take-clause-scarce : goal.returns-in_err-take-clause-scarce
returns-in_err-take-clause-scarce c =
    let held = c.line.invariant in
    let parts = MatchOption-at_some _ _ _ c.in-Some.is c.split_line.ensures in
    let told = err_from_is_err_and c.from_residual.result c.from_residual.ensures.1 in
    rw told.1 (record {
      before = held.lines;
      each = held.each;
      line = c.in-Some.line.now;
      whole_line = parts.0;
      behind = c.in-Some.behind.now;
      whole = sym held.whole ∙ ap (λ x. text_of held.lines ++ x) parts.1;
      wants = subst (λ (p : Picks). may_want p c.in-Some.line.now ≡ true) held.picked c.in_err-take.ensures.scarce;
    })

pub returns-clause-begun : goal.returns-clause-begun
returns-clause-begun c = λ lines rest each behind is.
    let held = c.line.invariant in
    let open_end : IsLine c.line.rest.now = MatchOption-at_none _ _ c.in_default.is c.split_line.ensures in
    let same = lines-same held.lines lines c.line.rest.now rest held.each each open_end behind (held.whole ∙ is) in
    held.picked ∙ ap (pick_lines no_picks) same.0
