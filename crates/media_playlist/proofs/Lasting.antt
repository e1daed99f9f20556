-- How long a playlist lasts at most.
use Rattle.std.proofs.Common.{◌≡◌, ℕ, ◌+◌, ◌-◌, ◌*◌, ◌≤◌, inl, inr, true, false, List, [], length, drop, ap, arith}
use Rattle.std.specs.Prelude.{All, max, get_or}
use Rattle.std.proofs.lemmas.Bool.{cases_lt}
use Rattle.std.proofs.lemmas.List.{length-drop, drop_all}
use Rattle.std.proofs.Math.Nat.{mul-le-mul_right}
use Rattle.std.proofs.lemmas.List.Elements.{All-drop}
use Rattle.std.proofs.lemmas.List.Sums.{sum_by-drop_more, sum_by-le}
use Rattle.media_playlist.specs.Rows.{SegmentRow}
use Rattle.media_playlist.specs.Listed.{suffices, first_listed, duration}
use Rattle.media_playlist.proofs.Sufficing.{suffices-AreEnough}
use Rattle.media_playlist.proofs.Greatest.{first_listed-IsFirstListed}

abbrev no_row : SegmentRow
no_row = record { number = 0; size = 0; micros = 0; key = 0; discontinuity = false; frames = [] }

pub listed-lasts : (target window cap : ℕ) (rows : List SegmentRow) → All (λ row. row.micros ≤ cap) rows →
    duration (drop (first_listed target window rows) rows) ≤ max (window * cap) (3 * target * 1_000_000 + cap)
listed-lasts target window cap rows short =
    let f = first_listed target window rows in
    let is = first_listed-IsFirstListed target window rows in
    let left_short : All (λ row. row.micros ≤ cap) (drop f rows) = All-drop (λ (row : SegmentRow). row.micros ≤ cap) f rows short in
    let few : duration (drop f rows) ≤ length (drop f rows) * cap = sum_by-le (λ (row : SegmentRow). row.micros) cap (drop f rows) left_short in
    let len : length (drop f rows) ≡ length rows - f = length-drop f rows in
    elim (cases_lt f (length rows)) [
      | inr past ↦
          let none : drop f rows ≡ [] = drop_all f rows past in
          let zero_time : duration (drop f rows) ≡ 0 = ap duration none in
          omega (arith, zero_time)
      | inl within ↦
          let next_len : length (drop (f + 1) rows) ≡ length rows - (f + 1) = length-drop (f + 1) rows in
          let one : duration (drop f rows) ≡ (get_or rows f no_row).micros + duration (drop (f + 1) rows) = sum_by-drop_more (λ (row : SegmentRow). row.micros) rows f no_row within in
          let row_short : (get_or rows f no_row).micros ≤ cap = short f no_row within in
          elim (cases_lt (length (drop (f + 1) rows)) window) [
            | inl fewer ↦
                let n : length (drop f rows) ≤ window = omega (arith, len, next_len, fewer, within) in
                let more : length (drop f rows) * cap ≤ window * cap = mul-le-mul_right cap n in
                omega (arith, few, more)
            | inr many ↦ elim (cases_lt (duration (drop (f + 1) rows)) (3 * target * 1_000_000)) [
              | inl shorter ↦ omega (arith, one, row_short, shorter)
              | inr long ↦
                  let passed : suffices target window (drop (f + 1) rows) ≡ true = suffices-AreEnough target window (drop (f + 1) rows) (record { many = many; long = long }) in
                  absurd (omega (arith, is.greatest (f + 1) (omega (arith, within)) passed))
            ]
          ]
    ]
