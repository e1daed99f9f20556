-- Rows of earlier runs in a listing.
use Rattle.std.proofs.Common.{◌≡◌, ℕ, zero, suc, ◌+◌, ◌-◌, ◌<◌, ◌≤◌, false, List, [], ◌∷◌, ◌++◌, map, length, drop, refl, subst, arith}
use Rattle.std.specs.List.{All}
use Rattle.std.proofs.lemmas.Bool.Decides.{nat_tests}
use Rattle.std.proofs.lemmas.List.{length-drop}
use Rattle.std.proofs.lemmas.List.Elements.{All-head, All-tail, All-drop}
use Rattle.playlist_text.specs.Numbers.{rounded_seconds}
use Rattle.playlist_text.specs.MediaLines.{Entry}
use Rattle.media_playlist.specs.Rows.{SegmentRow, is_long}
use Rattle.media_playlist.specs.Lines.{entry_of}
use Rattle.ladder_items.specs.Shown.{IsNextRow, AreNextRows}
use Rattle.media_reading.specs.MediaTexts.{AreListed}
use Rattle.round_trip.proofs.Places.{at-drop}

-- the rest of a list, of which the rest of a first part is left
pub drop-both : {A : Type 0} (n : ℕ) (xs ys : List A) → drop n (xs ++ ys) ≡ drop n xs ++ drop (n - length xs) ys
drop-both zero [] ys = refl
drop-both zero (x ∷ xs) ys = let none : 0 - length (x ∷ xs) ≡ 0 = omega arith in rw none refl
drop-both (suc n) [] ys = let all : suc n - 0 ≡ suc n = omega arith in rw all refl
drop-both (suc n) (x ∷ xs) ys = let less : suc n - length (x ∷ xs) ≡ n - length xs = omega arith in rw less (drop-both n xs ys)

pub listed-append : (target n : ℕ) (xs ys : List Entry) → AreListed target n xs → AreListed target (n + length xs) ys → AreListed target n (xs ++ ys)
listed-append target n [] ys one other = let same : n + 0 ≡ n = omega arith in subst (λ k. AreListed target k ys) same other
listed-append target n (x ∷ xs) ys one other =
    let same : n + length (x ∷ xs) ≡ n + 1 + length xs = omega arith in
    (one.0, listed-append target (n + 1) xs ys one.1 (subst (λ k. AreListed target k ys) same other))

short-of : (target : ℕ) (row : SegmentRow) → is_long target row ≡ false → rounded_seconds row.micros ≤ target
unfolding is_long
short-of target row e = grind (arith, nat_tests, e)

-- rows that may come next can be listed
rows-listed : (target n : ℕ) (rows : List SegmentRow) → AreNextRows target n rows → All (λ row. row.key < 4096) rows → n + length rows ≤ 0x200000000
    → AreListed target n (map entry_of rows)
rows-listed target n [] follow keys few = tt
rows-listed target n (row ∷ rows) follow keys few =
    let next = follow 0 row refl in (
      record {
        number = omega (arith, next.number);
        below = omega (arith, few);
        key = All-head (λ (r : SegmentRow). r.key < 4096) row rows keys;
        lasts = next.lasts;
        short = short-of target row next.short;
      },
      rows-listed target (n + 1) rows
          (λ k r at. let up : n + suc k ≡ n + 1 + k = omega arith in subst (λ m. IsNextRow target m r) up (follow (suc k) r at))
          (All-tail (λ (r : SegmentRow). r.key < 4096) row rows keys) (omega (arith, few)),
    )

-- .. also without some in front
pub earlier-listed : (target first j : ℕ) (rows : List SegmentRow) → AreNextRows target first rows → All (λ row. row.key < 4096) rows → first + length rows ≤ 0x100000000 → first + j ≤ 0x200000000
    → AreListed target (first + j) (map entry_of (drop j rows))
earlier-listed target first j rows follow keys few small =
    rows-listed target (first + j) (drop j rows)
    (λ k row at. let up : first + (j + k) ≡ first + j + k = omega arith in subst (λ m. IsNextRow target m row) up (follow (j + k) row (at-drop j k rows row at)))
    (All-drop (λ (row : SegmentRow). row.key < 4096) j rows keys) (omega (arith, few, small, length-drop j rows))
