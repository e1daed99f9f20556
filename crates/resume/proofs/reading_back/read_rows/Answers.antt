use Rattle.std.proofs.Common.{◌≡◌, ◌<◌, inl, inr, List, ◌∷◌, [], length, get_or, refl, ap, ◌∙◌, arith, length-append}
use Rattle.playlist_text.specs.MediaLines.{Entry, Listing}
use Rattle.media_playlist.specs.Rows.{SegmentRow}
use Rattle.media_playlist.specs.Lines.{entry_of}
use Rattle.std.proofs.lemmas.Bool.{false≢true, cases_lt}
use Rattle.std.proofs.lemmas.List.{length-map}
use Rattle.resume.specs.Picked.{picks_of}
use Rattle.resume.specs.Reading.{MayBegin}
use Rattle.resume.proofs.Growing.{OnErr-fact, may-begin, told-more, follow-more, lie-more, whole-more, whole-end, row-at, may-follow, no_row}
use Rattle.resume.proofs.reading_back.read_rows.Goals as goal

pub loop-place-preserved : goal.loop-place-preserved
loop-place-preserved c =
    let held = c.loop-place.invariant in
    let pushed = c.in_ok-push.ensures.items in
    let new = c.push.new.self.items in
    let row = c.in_ok-row.row in
    let i = c.loop-place.place in
    let same : c.deref-entry-items.result.now ≡ c.args.listing.now.entries = c.deref-entry-items.ensures.value ∙ ap (λ (l : Listing). l.entries) c.listing.view_is in
    let at : c.entry-item.result ≡ get_or c.args.listing.now.entries c.loop-place.place c.entry-item.result =
    c.entry-item.is ∙ ap (λ (es : List Entry). get_or es c.loop-place.place c.entry-item.result) same in
    let within : c.loop-place.place < length c.args.listing.now.entries = omega (arith, ap length same, c.deref-entry-items.ensures.len) in
    let sized : c.loop-place.place < length c.args.sizes.now = omega arith in
    let fits = c.if-not-may_follow.ensures.0 refl in
    let target : c.listing.inside.target ≡ c.args.listing.now.target = ap (λ (l : Listing). l.target) c.listing.view_is in
    let sequence : c.listing.inside.sequence ≡ c.args.listing.now.sequence = ap (λ (l : Listing). l.sequence) c.listing.view_is in
    record {
      begun = λ _. elim (cases_lt 0 i) [
        | inl later ↦ held.begun later
        | inr first ↦ may-begin c.args.listing.now c.args.sizes.now (picks_of c.args.picked.now) row i c.entry-item.result (omega (arith, first)) within sized
            (c.in_ok-row.ensures.entry ∙ at) c.in_ok-row.ensures.size (c.in_ok-row.ensures.frames ∙ c.in-Some.ensures.picked) (inr (rw (target, sequence) at fits))
      ];
      count = omega (arith, held.count, ap length pushed, length-append c.loop-place.rows.items (row ∷ []));
      entries = told-more entry_of c.loop-place.rows.items new row c.args.listing.now.entries i c.entry-item.result pushed held.entries within (c.in_ok-row.ensures.entry ∙ at);
      sizes = told-more (λ (r : SegmentRow). r.size) c.loop-place.rows.items new row c.args.sizes.now i 0 pushed held.sizes sized c.in_ok-row.ensures.size;
      follow = follow-more c.args.listing.now.target c.args.listing.now.sequence c.listing.inside.target c.listing.inside.sequence i c.loop-place.rows.items new row
          (ap (λ (l : Listing). l.target) c.listing.view_is) (ap (λ (l : Listing). l.sequence) c.listing.view_is) pushed held.count held.follow fits.0;
      lie_within = lie-more c.loop-place.rows.items new row pushed held.lie_within fits.1;
      whole = λ first rows are picked.
          let lt : i < length rows = omega (arith, within, ap length are.entries_are, length-map rows entry_of) in
          let frames : c.in-Some.frames.now ≡ (get_or rows i no_row).frames = c.in-Some.ensures.ok first rows no_row picked lt in
          whole-more c.loop-place.rows.items rows new row i pushed (held.whole first rows are picked) lt
          (row-at c.args.listing.now c.args.sizes.now rows row i c.entry-item.result are lt c.in_ok-row.ensures.entry at c.in_ok-row.ensures.size (c.in_ok-row.ensures.frames ∙ frames));
    }

pub returns-in_default-clause-whole : goal.returns-in_default-clause-whole
returns-in_default-clause-whole c = λ first rows are picked.
    let same : c.deref-entry-items.result.now ≡ c.args.listing.now.entries = c.deref-entry-items.ensures.value ∙ ap (λ (l : Listing). l.entries) c.listing.view_is in
    let lt : c.loop-place.place < length rows = omega (arith, ap length same, c.deref-entry-items.ensures.len, ap length are.entries_are, length-map rows entry_of) in
    c.in_default.ensures.ok first rows no_row picked lt

pub returns-then-not-may_follow-clause-whole : goal.returns-then-not-may_follow-clause-whole
returns-then-not-may_follow-clause-whole c = λ first rows are picked.
    let i = c.loop-place.place in
    let same : c.deref-entry-items.result.now ≡ c.args.listing.now.entries = c.deref-entry-items.ensures.value ∙ ap (λ (l : Listing). l.entries) c.listing.view_is in
    let at : c.entry-item.result ≡ get_or c.args.listing.now.entries i c.entry-item.result =
    c.entry-item.is ∙ ap (λ (es : List Entry). get_or es i c.entry-item.result) same in
    let lt : i < length rows = omega (arith, ap length same, c.deref-entry-items.ensures.len, ap length are.entries_are, length-map rows entry_of) in
    let frames : c.in-Some.frames.now ≡ (get_or rows i no_row).frames = c.in-Some.ensures.ok first rows no_row picked lt in
    let is = row-at c.args.listing.now c.args.sizes.now rows c.in_ok-row.row i c.entry-item.result are lt c.in_ok-row.ensures.entry at c.in_ok-row.ensures.size (c.in_ok-row.ensures.frames ∙ frames) in
    let follows = may-follow c.args.listing.now c.args.sizes.now rows c.in_ok-row.row c.listing.inside.target c.listing.inside.sequence i are lt is
    (ap (λ (l : Listing). l.target) c.listing.view_is) (ap (λ (l : Listing). l.sequence) c.listing.view_is) in
    absurd (false≢true (c.if-not-may_follow.ensures.1 follows))

pub returns-clause-whole : goal.returns-clause-whole
returns-clause-whole c = λ first rows are picked.
    let same : c.deref-entry-items.result.now ≡ c.args.listing.now.entries = c.deref-entry-items.ensures.value ∙ ap (λ (l : Listing). l.entries) c.listing.view_is in
    whole-end c.loop-place.rows.items rows c.loop-place.place (c.loop-place.invariant.whole first rows are picked)
    (omega (arith, ap length same, c.deref-entry-items.ensures.len, ap length are.entries_are, length-map rows entry_of, c.loop-place-test.false))

pub returns-in_err-push-clause-begun : goal.returns-in_err-push-clause-begun
returns-in_err-push-clause-begun c =
    let row = c.in_ok-row.row in
    let i = c.loop-place.place in
    let same : c.deref-entry-items.result.now ≡ c.args.listing.now.entries = c.deref-entry-items.ensures.value ∙ ap (λ (l : Listing). l.entries) c.listing.view_is in
    let at : c.entry-item.result ≡ get_or c.args.listing.now.entries i c.entry-item.result =
    c.entry-item.is ∙ ap (λ (es : List Entry). get_or es i c.entry-item.result) same in
    let within : i < length c.args.listing.now.entries = omega (arith, ap length same, c.deref-entry-items.ensures.len) in
    let sized : i < length c.args.sizes.now = omega arith in
    let fits = c.if-not-may_follow.ensures.0 refl in
    let target : c.listing.inside.target ≡ c.args.listing.now.target = ap (λ (l : Listing). l.target) c.listing.view_is in
    let sequence : c.listing.inside.sequence ≡ c.args.listing.now.sequence = ap (λ (l : Listing). l.sequence) c.listing.view_is in
    let begun : MayBegin c.args.listing.now c.args.sizes.now (picks_of c.args.picked.now) = elim (cases_lt 0 i) [
      | inl later ↦ c.loop-place.invariant.begun later
      | inr first ↦ may-begin c.args.listing.now c.args.sizes.now (picks_of c.args.picked.now) row i c.entry-item.result (omega (arith, first)) within sized
          (c.in_ok-row.ensures.entry ∙ at) c.in_ok-row.ensures.size (c.in_ok-row.ensures.frames ∙ c.in-Some.ensures.picked) (inr (rw (target, sequence) at fits))
    ] in
    OnErr-fact _ begun

pub returns-in_err-row-clause-begun : goal.returns-in_err-row-clause-begun
returns-in_err-row-clause-begun c =
    let e = c.entry-item.result in
    let i = c.loop-place.place in
    let same : c.deref-entry-items.result.now ≡ c.args.listing.now.entries = c.deref-entry-items.ensures.value ∙ ap (λ (l : Listing). l.entries) c.listing.view_is in
    let at : e ≡ get_or c.args.listing.now.entries i e = c.entry-item.is ∙ ap (λ (es : List Entry). get_or es i e) same in
    let within : i < length c.args.listing.now.entries = omega (arith, ap length same, c.deref-entry-items.ensures.len) in
    let sized : i < length c.args.sizes.now = omega arith in
    let row : SegmentRow = record { number = e.number; size = get_or c.args.sizes.now i 0; micros = e.micros; key = e.key; discontinuity = e.discontinuity; frames = c.in-Some.frames.now } in
    let begun : MayBegin c.args.listing.now c.args.sizes.now (picks_of c.args.picked.now) = elim (cases_lt 0 i) [
      | inl later ↦ c.loop-place.invariant.begun later
      | inr first ↦ may-begin c.args.listing.now c.args.sizes.now (picks_of c.args.picked.now) row i e (omega (arith, first)) within sized at refl c.in-Some.ensures.picked
          (inl c.in_err-row.ensures.scarce)
    ] in
    OnErr-fact _ begun
