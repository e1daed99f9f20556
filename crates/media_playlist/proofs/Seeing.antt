-- What a player sees that reloads a playlist.
use Rattle.std.proofs.Common.{◌≡◌, ℕ, zero, suc, ◌+◌, ◌-◌, ◌≤◌, ◌<◌, cond, Some, List, [], ◌∷◌, ◌++◌, length, take, drop, refl, sym, ap, ◌∙◌, arith, length-append, take-add}
use Rattle.std.proofs.lemmas.List.Sums.{sum_by-append}
use Rattle.std.specs.Prelude.{count_by, slice_get}
use Rattle.std.proofs.lemmas.List.{take-append-le, length-drop}
use Rattle.std.proofs.lemmas.Option.{slice_get_within}
use Rattle.playlist_text.specs.MediaLines.{Entry, Listing}
use Rattle.media_playlist.specs.Seen.{discontinuity_number, GoesOn}

-- an element behind a place
slice_get-behind : {A : Type 0} (xs : List A) (first i : ℕ) → slice_get (drop first xs) i ≡ slice_get xs (first + i)
slice_get-behind xs zero i = let e : i ≡ 0 + i = omega arith in ap (slice_get xs) e
slice_get-behind [] (suc first) i = refl
slice_get-behind {A} (x ∷ xs) (suc first) i =
    let e : suc (first + i) ≡ suc first + i = omega arith in
    slice_get-behind xs first i ∙ ap (slice_get (x ∷ xs)) e

-- an element stays with more behind
slice_get-stays : {A : Type 0} (xs more : List A) (i : ℕ) (x : A) → slice_get xs i ≡ Some x → slice_get (xs ++ more) i ≡ Some x
slice_get-stays [] more i x there = cc
slice_get-stays (y ∷ xs) more zero x there = there
slice_get-stays (y ∷ xs) more (suc i) x there = slice_get-stays xs more i x there

-- how many are discontinuities
abbrev breaks : List Entry → ℕ
breaks entries = count_by (λ e. e.discontinuity) entries

breaks-append : (xs ys : List Entry) → breaks (xs ++ ys) ≡ breaks xs + breaks ys
breaks-append xs ys = sum_by-append (λ e. cond e.discontinuity 1 0) xs ys

-- those up to a place, in two parts
breaks-parts : (xs : List Entry) (first n : ℕ) → breaks (take first xs) + breaks (take n (drop first xs)) ≡ breaks (take (first + n) xs)
breaks-parts xs first n =
    sym (breaks-append (take first xs) (take n (drop first xs))) ∙ ap breaks (sym (take-add first n xs))

-- those up to an earlier place are no more
breaks-rise : (xs : List Entry) (f g : ℕ) → f ≤ g → breaks (take f xs) ≤ breaks (take g xs)
breaks-rise xs f g le =
    let parts : breaks (take f xs) + breaks (take (g - f) (drop f xs)) ≡ breaks (take (f + (g - f)) xs) = breaks-parts xs f (g - f) in
    let sum : f + (g - f) ≡ g = omega (arith, le) in
    let same : breaks (take (f + (g - f)) xs) ≡ breaks (take g xs) = ap (λ (n : ℕ). breaks (take n xs)) sum in
    omega (arith, parts, same)

-- a listing of some entries from a place on, behind others
pub record IsPart (l : Listing) (before breaks_before : ℕ) (entries : List Entry) (first : ℕ) : Type 0 where
  pub up_to : first ≤ length entries
  pub sequence : l.sequence ≡ before + first
  pub discontinuities : l.discontinuity_sequence ≡ breaks_before + breaks (take first entries)
  pub lists : l.entries ≡ drop first entries

-- its end
end_of : (l : Listing) (before breaks_before : ℕ) (entries : List Entry) (first : ℕ) → IsPart l before breaks_before entries first →
    l.sequence + length l.entries ≡ before + length entries
end_of l before breaks_before entries first is =
    let len : length l.entries ≡ length entries - first = ap length is.lists ∙ length-drop first entries in
    omega (arith, len, is.sequence, is.up_to)

-- what it lists at a place
at_place : (l : Listing) (before breaks_before : ℕ) (entries : List Entry) (first i : ℕ) (e : Entry) → IsPart l before breaks_before entries first →
    slice_get l.entries i ≡ Some e → slice_get entries (first + i) ≡ Some e
at_place l before breaks_before entries first i e is there =
    sym (slice_get-behind entries first i) ∙ ap (λ (xs : List Entry). slice_get xs i) (sym is.lists) ∙ there

number_at : (l : Listing) (before breaks_before : ℕ) (entries : List Entry) (first i : ℕ) → IsPart l before breaks_before entries first →
    discontinuity_number l i ≡ breaks_before + breaks (take (first + i + 1) entries)
number_at l before breaks_before entries first i is =
    let listed : breaks (take (i + 1) l.entries) ≡ breaks (take (i + 1) (drop first entries)) = ap (λ (xs : List Entry). breaks (take (i + 1) xs)) is.lists in
    let parts : breaks (take first entries) + breaks (take (i + 1) (drop first entries)) ≡ breaks (take (first + (i + 1)) entries) = breaks-parts entries first (i + 1) in
    let sum : first + (i + 1) ≡ first + i + 1 = omega arith in
    let same : breaks (take (first + (i + 1)) entries) ≡ breaks (take (first + i + 1) entries) = ap (λ (n : ℕ). breaks (take n entries)) sum in
    omega (arith, listed, parts, same, is.discontinuities)

pub IsPart-goes_on : (old new : Listing) (before breaks_before : ℕ) (entries more : List Entry) (f g : ℕ) →
    IsPart old before breaks_before entries f → IsPart new before breaks_before (entries ++ more) g → f ≤ g → GoesOn old new
IsPart-goes_on old new before breaks_before entries more f g a b le =
    let kept : breaks (take f (entries ++ more)) ≡ breaks (take f entries) = ap breaks (take-append-le f entries more a.up_to) in
    record {
      sequence = omega (arith, a.sequence, b.sequence, le);
      discontinuities = omega (arith, a.discontinuities, b.discontinuities, kept, breaks-rise (entries ++ more) f g le);
      end = omega (arith, end_of old before breaks_before entries f a, end_of new before breaks_before (entries ++ more) g b, length-append entries more);
      stays = λ i j e h here there same.
          let place : f + i ≡ g + j = omega (arith, a.sequence, b.sequence, same) in
          let e_at : slice_get entries (f + i) ≡ Some e = at_place old before breaks_before entries f i e a here in
          let h_at : slice_get (entries ++ more) (g + j) ≡ Some h = at_place new before breaks_before (entries ++ more) g j h b there in
          let e_on : slice_get (entries ++ more) (g + j) ≡ Some e = ap (slice_get (entries ++ more)) (sym place) ∙ slice_get-stays entries more (f + i) e e_at in
          let within : f + i < length entries = slice_get_within entries (f + i) e e_at in
          let up_to : f + i + 1 ≤ length entries = omega (arith, within) in
          let front : breaks (take (f + i + 1) (entries ++ more)) ≡ breaks (take (f + i + 1) entries) = ap breaks (take-append-le (f + i + 1) entries more up_to) in
          let places : f + i + 1 ≡ g + j + 1 = omega (arith, place) in
          let moved : breaks (take (f + i + 1) (entries ++ more)) ≡ breaks (take (g + j + 1) (entries ++ more)) = ap (λ (n : ℕ). breaks (take n (entries ++ more))) places in
          let both : Some e ≡ Some h = sym e_on ∙ h_at in (
            cc,
            omega (arith, number_at old before breaks_before entries f i a, number_at new before breaks_before (entries ++ more) g j b, front, moved),
          );
    }
