use Rattle.std.proofs.lemmas.Bool.{false≢true, eqb-true}
use Rattle.std.proofs.Common.{refl, ◌==◌, ◌≡◌, ◌∙◌, ◌++◌, ◌∷◌, ℕ, List, [], length, Some, Ok, Err, sym, ap, subst, arith, append-nil}
use Rattle.std.specs.Prelude.{Result, IfErr, IsErrAnd}
use Rattle.std.proofs.lemmas.List.{length-append}
use Rattle.std.proofs.lemmas.List.Elements.{All-nil, All-cons, All-append}
use Rattle.std.proofs.lemmas.Option.{MatchOption-at_some, same_Some, none-some}
use Rattle.playlist_text.specs.Lines.{text_of}
use Rattle.playlist_text.proofs.TextLines.{text_of-nil}
use Rattle.media_reading.specs.declared.list_fault.ListFault.{ListFault}
use Rattle.media_reading.specs.declared.list_fault.ListFault.TheVariants.{NoMemory}
use Rattle.media_reading.specs.MediaTexts.{IsLine, IsUnread, MayWantMemory}
use Rattle.media_reading.specs.State.{fresh, steps, progress_of}
use Rattle.media_reading.proofs.Found.{MatchOption-none}
use Rattle.media_reading.proofs.Splitting.{text-more, steps-more}
use Rattle.media_reading.proofs.Taking.{wrong-line, wrong-end, wants-memory, wants-line, text-lines, told-listing, wrong-not-listing, Tells-false, Tells-true, length-text, steps-listing}
use Rattle.media_reading.proofs.media_text.read_media.Goals as goal

pub line-init : goal.line-init
unfolding steps
line-init c = record {
  lines = [];
  whole = ap (λ x. x ++ c.as_bytes-rest.result.now) text_of-nil ∙ c.as_bytes-rest.ensures.value;
  each = All-nil IsLine;
  taken = ap Some (sym c.new-reading.ensures);
  number = omega arith;
}

pub line-preserved : goal.line-preserved
line-preserved c =
    let held = c.line.invariant in
    let parts = MatchOption-at_some _ _ _ c.in-Some.is c.split_line.ensures in
    record {
      lines = held.lines ++ c.in-Some.line.now ∷ [];
      whole = text-more held.lines c.in-Some.line.now c.in-Some.behind.now c.line.rest.now c.args.text.now held.whole parts.1;
      each = All-append IsLine held.lines (c.in-Some.line.now ∷ []) held.each (All-cons IsLine c.in-Some.line.now [] parts.0 (All-nil IsLine));
      taken = steps-more fresh (progress_of c.line.reading) held.lines c.in-Some.line.now _ held.taken (Tells-true _ _ _ c.if-not-branch.false c.in_ok-take.ensures.taken);
      number = omega (arith, length-append held.lines (c.in-Some.line.now ∷ []), held.number);
    }

pub returns-then-not-branch-clause-err : goal.returns-then-not-branch-clause-err
returns-then-not-branch-clause-err c =
    let held = c.line.invariant in
    let parts = MatchOption-at_some _ _ _ c.in-Some.is c.split_line.ensures in
    wrong-line c.args.text.now c.line.rest.now c.in-Some.line.now c.in-Some.behind.now held.lines (progress_of c.line.reading) c.line.number held.whole held.each held.taken held.number
    parts.0 parts.1 (Tells-false _ _ _ c.if-not-branch.true c.in_ok-take.ensures.taken)

pub returns-then-not-branch-clause-reads : goal.returns-then-not-branch-clause-reads
returns-then-not-branch-clause-reads c = λ l sound same.
    absurd (wrong-not-listing c.args.text.now c.line.number (returns-then-not-branch-clause-err c) l sound same)

pub overflow_add-number : goal.overflow_add-number
overflow_add-number c =
    let held = c.line.invariant in
    record { fits = omega (arith, held.number, length-text held.lines, ap length held.whole, length-append (text_of held.lines) c.line.rest.now, c.as_bytes-rest.ensures.len) }

-- no bytes
nothing : (xs : List ℕ) → length xs ≡ 0 → xs ≡ []
nothing [] none = refl
nothing (x ∷ xs) none = absurd (omega (arith, none))

pub returns-then-not-is_empty-clause-err : goal.returns-then-not-is_empty-clause-err
returns-then-not-is_empty-clause-err c =
    let held = c.line.invariant in
    let open_line = MatchOption-none _ _ _ c.in_default.not-Some c.split_line.ensures in
    wrong-end c.args.text.now c.line.rest.now held.lines (progress_of c.line.reading) c.line.number held.whole held.each held.taken held.number open_line (λ l sound same.
    let lines = text-lines c.args.text.now c.line.rest.now held.lines l held.whole held.each open_line sound same in
    false≢true (sym c.if-not-is_empty.true ∙ c.is_empty.ensures ∙ ap (λ x. length x == 0) lines.1))

pub returns-then-not-is_empty-clause-reads : goal.returns-then-not-is_empty-clause-reads
returns-then-not-is_empty-clause-reads c = λ l sound same.
    absurd (wrong-not-listing c.args.text.now c.line.number (returns-then-not-is_empty-clause-err c) l sound same)

pub returns-in-Some-finish-clause-ok : goal.returns-in-Some-finish-clause-ok
returns-in-Some-finish-clause-ok c =
    let held = c.line.invariant in
    let none = nothing c.line.rest.now (eqb-true (length c.line.rest.now) 0 (sym c.is_empty.ensures ∙ c.if-not-is_empty.false)) in
    let told = steps-listing held.lines (progress_of c.line.reading) c.in-Some-finish.listing held.taken (sym c.finish.ensures ∙ c.in-Some-finish.is) in
    (told.0, sym held.whole ∙ ap (λ x. text_of held.lines ++ x) none ∙ append-nil (text_of held.lines) ∙ ap text_of (sym told.1))

pub returns-in-Some-finish-clause-reads : goal.returns-in-Some-finish-clause-reads
returns-in-Some-finish-clause-reads c = λ l sound same.
    let held = c.line.invariant in
    let open_line = MatchOption-none _ _ _ c.in_default.not-Some c.split_line.ensures in
    let lines = text-lines c.args.text.now c.line.rest.now held.lines l held.whole held.each open_line sound same in
    same_Some _ _ (sym (sym c.finish.ensures ∙ c.in-Some-finish.is) ∙ told-listing held.lines l (progress_of c.line.reading) lines.0 sound held.taken)

pub returns-in-None-clause-err : goal.returns-in-None-clause-err
returns-in-None-clause-err c =
    let held = c.line.invariant in
    let open_line = MatchOption-none _ _ _ c.in_default.not-Some c.split_line.ensures in
    wrong-end c.args.text.now c.line.rest.now held.lines (progress_of c.line.reading) c.line.number held.whole held.each held.taken held.number open_line (λ l sound same.
    let lines = text-lines c.args.text.now c.line.rest.now held.lines l held.whole held.each open_line sound same in
    none-some l (sym (sym c.finish.ensures ∙ c.in-None.is) ∙ told-listing held.lines l (progress_of c.line.reading) lines.0 sound held.taken))

pub returns-in-None-clause-reads : goal.returns-in-None-clause-reads
returns-in-None-clause-reads c = λ l sound same.
    absurd (wrong-not-listing c.args.text.now c.line.number (returns-in-None-clause-err c) l sound same)

-- the fault is want of memory
scarce-told : {A : Type 0} (text : List ℕ) (r : Result A ListFault) → IsErrAnd r (λ fault. fault ≡ NoMemory) → MayWantMemory text → IfErr r (IsUnread text)
scarce-told text (Ok a) is may = absurd is
scarce-told text (Err fault) is may = subst (IsUnread text) (sym is) may

pub returns-in_err-take-clause-err : goal.returns-in_err-take-clause-err
returns-in_err-take-clause-err c =
    let held = c.line.invariant in
    let parts = MatchOption-at_some _ _ _ c.in-Some.is c.split_line.ensures in
    scarce-told c.args.text.now c.from_residual.result c.from_residual.ensures.1
    (wants-memory c.args.text.now c.line.rest.now c.in-Some.line.now c.in-Some.behind.now held.lines (progress_of c.line.reading) held.whole held.each held.taken
    parts.0 parts.1 c.in_err-take.ensures.scarce)

pub returns-in_err-take-clause-scarce : goal.returns-in_err-take-clause-scarce
returns-in_err-take-clause-scarce c = λ _.
    let held = c.line.invariant in
    let parts = MatchOption-at_some _ _ _ c.in-Some.is c.split_line.ensures in
    wants-line c.args.text.now c.line.rest.now c.in-Some.line.now c.in-Some.behind.now held.lines (progress_of c.line.reading) held.whole held.each held.taken
    parts.0 parts.1 c.in_err-take.ensures.scarce c.in_err-take.ensures.kept
