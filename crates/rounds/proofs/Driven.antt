-- A round from its beginning to its end.
use Rattle.std.proofs.Common.{◌≡◌, ◌∙◌, ℕ, zero, suc, ◌+◌, ◌<◌, List, [], ◌∷◌, ◌++◌, length, map, drop, refl, ap, sym, subst, arith}
use Rattle.std.specs.Prelude.{sum}
use Rattle.std.specs.List.{slice_index_or}
use Rattle.std.proofs.Math.Seq.{drop-cons}
use Rattle.std.proofs.lemmas.List.{length-map, get_or-map, drop_all, nil_from_length}
use Rattle.std.proofs.lemmas.List.Sums.{sum_by-cons}
use Rattle.cutter.specs.Plans.{SegmentPlan}
use Rattle.segment_job.specs.Rotation.{KeyRotation}
use Rattle.flow_core.specs.Sequences.{SequenceValue, first_sequence}
use Rattle.flow_core.specs.Gatherings.{Gathering, no_sequence, awaited, sequences_from}
use Rattle.flow_core.proofs.Gathering.{sequences-count}
use Rattle.live_board.specs.Snapshots.{Known}
use Rattle.item_io.specs.Views.{OutletView, SourceView}
use Rattle.ladder_items.specs.Ladder.{Ladder, RenditionValue, no_rendition, rendition_at}
use Rattle.ladder_items.specs.Shown.{Shown}
use Rattle.ladder_items.proofs.Blocks.{shown-each}
use Rattle.ladder_items.proofs.Worlds.{parts-of, parts-length}
use Rattle.rounds.specs.declared.run.course.Course.{Course}
use Rattle.rounds.specs.Begun.{keys_of}
use Rattle.rounds.specs.Showing.{counts_of}
use Rattle.rounds.specs.Courses.{Start, IsOn}
use Rattle.rounds.specs.Rounds.{InRound, expected, unfed_of, segments_in, gathered}

-- a rendition of a new collector
sequences-at : (r : ℕ) (keys : List KeyRotation) (starts : List ℕ) (k : ℕ) (d : KeyRotation) → k < length keys
    → (n : ℕ) → n ≡ r + k → slice_index_or (sequences_from r keys starts) k no_sequence ≡ first_sequence n (slice_index_or keys k d) (slice_index_or starts n 0)
sequences-at r [] starts k d below n is = absurd (omega (arith, below))
sequences-at r (x ∷ keys) starts zero d below n is = let same : r ≡ n = omega (arith, is) in ap (λ (m : ℕ). first_sequence m x (slice_index_or starts m 0)) same
sequences-at r (x ∷ keys) starts (suc k) d below n is = sequences-at (r + 1) keys starts k d (omega (arith, below)) n (omega (arith, is))

-- it expects nothing
expects-none : (r : ℕ) (keys : List KeyRotation) (starts : List ℕ) (k : ℕ) → expected (slice_index_or (sequences_from r keys starts) k no_sequence) ≡ []
expects-none r [] starts k = refl
expects-none r (x ∷ keys) starts zero = refl
expects-none r (x ∷ keys) starts (suc k) = expects-none (r + 1) keys starts k

-- and has gathered what was given before it
gathered-from : (r : ℕ) (keys : List KeyRotation) (starts : List ℕ) → r + length keys ≡ length starts → gathered (sequences_from r keys starts) ≡ sum (drop r starts)
gathered-from r [] starts each = sym (ap sum (drop_all r starts (omega (arith, each))))
gathered-from r (x ∷ keys) starts each =
    let more : suc r ≡ r + 1 = omega arith in
    let rest = gathered-from (r + 1) keys starts (omega (arith, each)) in
    let here = ap sum (drop-cons starts r 0 (omega (arith, each))) ∙ sum_by-cons (λ n. n) (slice_index_or starts r 0) (drop (suc r) starts) in
    let same = ap (λ (n : ℕ). sum (drop n starts)) more in
    omega (arith, rest, here, same)

-- nothing is awaited
awaits-none : (sequences : List SequenceValue) (k : ℕ) → awaited sequences ≡ 0 → expected (slice_index_or sequences k no_sequence) ≡ []
awaits-none [] k none = refl
awaits-none (l ∷ sequences) zero none = ap (map (λ slot. slot.plan)) (nil_from_length l.slots (omega (arith, none)))
awaits-none (l ∷ sequences) (suc k) none = awaits-none sequences k (omega (arith, none))

gathered-none : (sequences : List SequenceValue) (counts : List ℕ) → length sequences ≡ length counts → awaited sequences ≡ 0
    → ((k : ℕ) → k < length sequences → (slice_index_or sequences k no_sequence).next ≡ slice_index_or counts k 0) → gathered sequences ≡ sum counts
gathered-none [] [] each none nexts = refl
gathered-none [] (n ∷ counts) each none nexts = absurd (omega (arith, each))
gathered-none (l ∷ sequences) [] each none nexts = absurd (omega (arith, each))
gathered-none (l ∷ sequences) (n ∷ counts) each none nexts =
    let rest = gathered-none sequences counts (omega (arith, each)) (omega (arith, none)) (λ k below. nexts (suc k) (omega (arith, below))) in
    let first : l.next ≡ n = nexts zero (omega arith) in
    let segments : segments_in l.slots ≡ 0 = ap segments_in (nil_from_length l.slots (omega (arith, none))) in
    let all = sum_by-cons (λ n. n) n counts in
    omega (arith, rest, first, segments, all)

module _ (X Y : Type 0) (input : SourceView X) (out : OutletView Y) (ladder : Ladder) (start : Start X Y) where
  -- how many renditions show something
  counts-each : (course : Course X Y) (shows : Known) (waiting : ℕ → List SegmentPlan) → IsOn input out ladder start course shows waiting
      → length (counts_of course.playlists.items) ≡ length ladder.renditions
  counts-each course shows waiting on =
      let parts = parts-of ladder on.world.events in
      let each = parts-length ladder on.world.events in
      length-map course.playlists.items (λ (s : Shown). length s.rows) ∙ shown-each ladder parts course.playlists.items each on.world.shown_are

  -- a round begins
  pub in-first : (spools : List (List SegmentPlan)) (course : Course X Y) (shows : Known) (g : Gathering) → length spools ≡ length ladder.renditions
      → g.sequences ≡ sequences_from 0 (keys_of ladder) (counts_of course.playlists.items)
      → IsOn input out ladder start course shows (unfed_of spools) → InRound input out ladder start spools course shows g
  in-first spools course shows g each is on =
      let counts = counts_of course.playlists.items in
      let keys = keys_of ladder in
      let size : length g.sequences ≡ length ladder.renditions = ap length is ∙ (sequences-count 0 keys counts ∙ length-map ladder.renditions (λ (r : RenditionValue). r.keys)) in
      record {
        waiting = unfed_of spools;
        on = on;
        waits = λ k. ap (λ (l : List SegmentPlan). l ++ unfed_of spools k) (sym (ap (λ (ls : List SequenceValue). expected (slice_index_or ls k no_sequence)) is ∙ expects-none 0 keys counts k));
        each = size;
        all = each;
        nexts = λ k below.
            ap (λ (ls : List SequenceValue). (slice_index_or ls k no_sequence).next) is
            ∙ ap (λ (l : SequenceValue). l.next) (sequences-at 0 keys counts k (rendition_at ladder k).keys (omega (arith, below, size, length-map ladder.renditions (λ (r : RenditionValue). r.keys))) k (omega arith));
        keys = λ k below.
            ap (λ (ls : List SequenceValue). (slice_index_or ls k no_sequence).keys) is
            ∙ (ap (λ (l : SequenceValue). l.keys) (sequences-at 0 keys counts k (rendition_at ladder k).keys (omega (arith, below, size, length-map ladder.renditions (λ (r : RenditionValue). r.keys))) k (omega arith))
            ∙ get_or-map (λ (r : RenditionValue). r.keys) ladder.renditions k no_rendition (rendition_at ladder k).keys (omega (arith, below, size)));
      }

  pub in-begun : (course : Course X Y) (shows : Known) (waiting : ℕ → List SegmentPlan) (g : Gathering) → g.sequences ≡ sequences_from 0 (keys_of ladder) (counts_of course.playlists.items)
      → IsOn input out ladder start course shows waiting → gathered g.sequences ≡ sum (counts_of course.playlists.items)
  in-begun course shows waiting g is on =
      let counts = counts_of course.playlists.items in
      let keys = keys_of ladder in
      ap gathered is ∙ gathered-from 0 keys counts (omega (arith, length-map ladder.renditions (λ (r : RenditionValue). r.keys), counts-each course shows waiting on))

  -- renditions had their turns
  pub in-read : (unfed : List (List SegmentPlan)) (course now : Course X Y) (shows : Known) (g : Gathering)
      → ((waiting : ℕ → List SegmentPlan) → IsOn input out ladder start course shows waiting → IsOn input out ladder start now shows waiting) → now.playlists ≡ course.playlists
      → InRound input out ladder start unfed course shows g → InRound input out ladder start unfed now shows g
  in-read unfed course now shows g moves same i = record {
    waiting = i.waiting;
    on = moves i.waiting i.on;
    waits = i.waits;
    each = i.each;
    all = i.all;
    nexts = λ k below. i.nexts k below ∙ ap (λ p. slice_index_or (counts_of p.items) k 0) (sym same);
    keys = i.keys;
  }

  -- it ends
  pub in-last : (left : List (List SegmentPlan)) (course : Course X Y) (shows : Known) (g : Gathering) → awaited g.sequences ≡ 0 → ((k : ℕ) → unfed_of left k ≡ [])
      → InRound input out ladder start left course shows g → IsOn input out ladder start course shows (λ k. [])
  in-last left course shows g none fed i =
      let all : (k : ℕ) → i.waiting k ≡ [] = λ k. i.waits k ∙ (ap (λ (l : List SegmentPlan). l ++ unfed_of left k) (awaits-none g.sequences k none) ∙ fed k) in
      let path : i.waiting ≡ (λ k. []) = λ j k. all k j in
      subst (λ (w : ℕ → List SegmentPlan). IsOn input out ladder start course shows w) path i.on

  pub in-given : (left : List (List SegmentPlan)) (course : Course X Y) (shows : Known) (g : Gathering) → awaited g.sequences ≡ 0
      → InRound input out ladder start left course shows g → gathered g.sequences ≡ sum (counts_of course.playlists.items)
  in-given left course shows g none i =
      gathered-none g.sequences (counts_of course.playlists.items) (i.each ∙ sym (counts-each course shows i.waiting i.on)) none (λ k below. i.nexts k below)
