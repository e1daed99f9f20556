-- The I-frames of a segment among those of all.
use Rattle.std.proofs.Common.{◌≡◌, ℕ, zero, suc, ◌+◌, ◌<◌, ◌≤◌, List, [], ◌∷◌, ◌++◌, length, take, drop, get_or, refl, ap, ◌∙◌, arith, append_assoc, length-append}
use Rattle.std.proofs.Math.Seq.{take-append_seam, drop-append_seam}
use Rattle.media_playlist.specs.declared.row.FrameRow.{FrameRow}
use Rattle.media_playlist.specs.Rows.{SegmentRow}
use Rattle.media_playlist.specs.Sequences.{frames_of}
use Rattle.resume.specs.Starts.{starts_from}

-- they begin at a start, end at the next, and are what stands between
pub record AreBetween (n : ℕ) (rows : List SegmentRow) (frames : List FrameRow) (total start end : ℕ) : Type 0 where
  pub behind : n ≤ start
  pub end_is : end ≡ start + length frames
  pub up_to : end ≤ total
  pub are : (front : List FrameRow) → length front ≡ n → take (length frames) (drop start (front ++ frames_of rows)) ≡ frames

drop-front : (n : ℕ) (xs ys : List FrameRow) → length xs ≡ n → drop n (xs ++ ys) ≡ ys
drop-front n xs ys count = rw (← count) (drop-append_seam xs ys)

next-start : (n : ℕ) (rows : List SegmentRow) (total : ℕ) → total ≡ n + length (frames_of rows) → get_or (starts_from n rows) 0 total ≡ n
next-start n [] total is = omega (arith, is)
next-start n (row ∷ rows) total is = refl

pub between : (n : ℕ) (rows : List SegmentRow) (place : ℕ) (d : SegmentRow) (total : ℕ) → total ≡ n + length (frames_of rows) → place < length rows →
    AreBetween n rows (get_or rows place d).frames total (get_or (starts_from n rows) place total) (get_or (starts_from n rows) (suc place) total)
between n [] place d total is lt = absurd (omega (arith, lt))
between n (row ∷ rows) zero d total is lt =
    let count : length (row.frames ++ frames_of rows) ≡ length row.frames + length (frames_of rows) = length-append row.frames (frames_of rows) in
    let next : get_or (starts_from (n + length row.frames) rows) 0 total ≡ n + length row.frames = next-start (n + length row.frames) rows total (omega (arith, is, count)) in
    record {
      behind = omega arith;
      end_is = next;
      up_to = omega (arith, next, is, count);
      are = λ front long. ap (take (length row.frames)) (drop-front n front (row.frames ++ frames_of rows) long) ∙ take-append_seam row.frames (frames_of rows);
    }
between n (row ∷ rows) (suc place) d total is lt =
    let count : length (row.frames ++ frames_of rows) ≡ length row.frames + length (frames_of rows) = length-append row.frames (frames_of rows) in
    let rest = between (n + length row.frames) rows place d total (omega (arith, is, count)) (omega (arith, lt)) in
    record {
      behind = omega (arith, rest.behind);
      end_is = rest.end_is;
      up_to = rest.up_to;
      are = λ front long.
          rw (← append_assoc front row.frames (frames_of rows)) (rest.are (front ++ row.frames) (omega (arith, long, length-append front row.frames)));
    }
