-- Numbers that stay at the greatest one.
use Rattle.std.proofs.Common.{◌≡◌, ℕ, zero, suc, ◌+◌, ◌-◌, ◌*◌, ◌^◌, ◌<◌, ◌≤◌, inl, inr, List, length, drop, refl, sym, ap, ◌∙◌, arith}
use Rattle.std.specs.Prelude.{All, max, min}
use Rattle.std.proofs.lemmas.Bool.{cases_lt}
use Rattle.std.proofs.lemmas.List.Sums.{sum_by-le}
use Rattle.std.proofs.Math.Nat.{mul-le-mul_right}
use Rattle.playlist_text.specs.Numbers.{rounded_seconds}
use Rattle.media_playlist.specs.Rows.{SegmentRow}
use Rattle.media_playlist.specs.Listed.{duration, first_listed}
use Rattle.media_playlist.specs.Lengths.{least_behind, longest_row}
use Rattle.media_playlist.proofs.Lasting.{listed-lasts}

-- a product of one that stayed there stays there
min_mul : (a b most : ℕ) → min (a * min b most) most ≡ min (a * b) most
min_mul a b most = elim (cases_lt most b) [
  | inr small ↦
      let same : min b most ≡ b = omega (arith, small) in
      ap (λ (n : ℕ). min (a * n) most) same
  | inl great ↦
      let same : min b most ≡ most = omega (arith, great) in
      elim (cases_lt a 1) [
        | inl none ↦
            let zero_a : a ≡ 0 = omega (arith, none) in
            rw zero_a (omega arith)
        | inr some ↦
            let first : 1 * most ≤ a * most = mul-le-mul_right most some in
            let second : 1 * b ≤ a * b = mul-le-mul_right b some in
            let stays : min (a * most) most ≡ min (a * b) most = omega (arith, first, second, great) in
            ap (λ (n : ℕ). min (a * n) most) same ∙ stays
      ]
]

pub least_is : (target window listed row rows sliding three least longer last : ℕ) → row ≡ min (longest_row target) (2 ^ 64 - 1) → rows ≡ max window listed →
    sliding ≡ min (rows * row) (2 ^ 64 - 1) → three ≡ min (target * 3_000_000) (2 ^ 64 - 1) → least ≡ min (three + row) (2 ^ 64 - 1) → longer ≡ max sliding least →
    last ≡ min (longer + row) (2 ^ 64 - 1) → last ≡ min (least_behind target window listed) (2 ^ 64 - 1)
least_is target window listed row rows sliding three least longer last row_is rows_is sliding_is three_is least_is_ longer_is last_is =
    let product : min (rows * row) (2 ^ 64 - 1) ≡ min (max window listed * longest_row target) (2 ^ 64 - 1) =
    ap (λ (n : ℕ). min (rows * n) (2 ^ 64 - 1)) row_is ∙ min_mul rows (longest_row target) (2 ^ 64 - 1) ∙ ap (λ (n : ℕ). min (n * longest_row target) (2 ^ 64 - 1)) rows_is in
    omega (arith, row_is, sliding_is, product, three_is, least_is_, longer_is, last_is)

short-row : (target micros : ℕ) → rounded_seconds micros ≤ target → micros ≤ longest_row target
short-row target micros short = omega (arith, short)

-- of a run before
pub sliding-short : (target window listed w : ℕ) (rows : List SegmentRow) → All (λ row. rounded_seconds row.micros ≤ target) rows → w ≤ max window listed →
    duration (drop (first_listed target w rows) rows) + longest_row target ≤ least_behind target window listed
sliding-short target window listed w rows short le =
    let all_short : All (λ row. row.micros ≤ longest_row target) rows = λ i other within. short-row target _ (short i other within) in
    let lasts = listed-lasts target w (longest_row target) rows all_short in
    let more : w * longest_row target ≤ max window listed * longest_row target = mul-le-mul_right (longest_row target) le in
    omega (arith, lasts, more)

pub whole-short : (target window listed : ℕ) (rows : List SegmentRow) → All (λ row. rounded_seconds row.micros ≤ target) rows → length rows ≤ max window listed →
    duration rows + longest_row target ≤ least_behind target window listed
whole-short target window listed rows short le =
    let all_short : All (λ row. row.micros ≤ longest_row target) rows = λ i other within. short-row target _ (short i other within) in
    let lasts : duration rows ≤ length rows * longest_row target = sum_by-le (λ (row : SegmentRow). row.micros) (longest_row target) rows all_short in
    let more : length rows * longest_row target ≤ max window listed * longest_row target = mul-le-mul_right (longest_row target) le in
    omega (arith, lasts, more)
