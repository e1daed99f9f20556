-- Older segments, rendition after rendition.
use Rattle.std.proofs.Common.{arith, ◌≡◌, ◌+◌, ◌<◌, refl, sym, ap, ◌∙◌, ℕ, zero, suc, List, [], ◌∷◌, ◌++◌, length, take, Option, Some}
use Rattle.std.specs.Prelude.{slice_get}
use Rattle.std.proofs.lemmas.List.{take_more}
use Rattle.std.proofs.lemmas.Option.{get_or_from_slice_get, slice_get_within}
use Rattle.resume.specs.Restoring.{RestoredValue}
use Rattle.channel_folder.specs.Scans.{ScanValue}
use Rattle.channel.specs.Resuming.{older_at, older_from}

-- one rendition more
pub older-more : (scan : ScanValue) (most : Option ℕ) (r : ℕ) (found : List (Option RestoredValue)) (one : Option RestoredValue) →
    older_from scan most r (found ++ one ∷ []) ≡ older_from scan most r found ++ older_at scan most (r + length found) one ∷ []
older-more scan most r [] one = let same : r ≡ r + 0 = omega arith in ap (λ (n : ℕ). older_at scan most n one ∷ []) same
older-more scan most r (f ∷ found) one =
    let next : r + 1 + length found ≡ r + suc (length found) = omega arith in
    ap (λ (l : List (List ℕ)). older_at scan most r f ∷ l)
    (older-more scan most (r + 1) found one ∙ ap (λ (n : ℕ). older_from scan most (r + 1) found ++ older_at scan most n one ∷ []) next)

length_take_within : {A : Type 0} (r : ℕ) (xs : List A) → r < length xs → length (take r xs) ≡ r
length_take_within r [] lt = absurd (omega (arith, lt))
length_take_within zero (x ∷ xs) lt = refl
length_take_within (suc r) (x ∷ xs) lt = ap suc (length_take_within r xs (omega (arith, lt)))

-- the same, by what was made
pub older-on : (scan : ScanValue) (most : Option ℕ) (found : List (Option RestoredValue)) (r : ℕ) (one : Option RestoredValue) (before now : List (List ℕ)) (last : List ℕ) → slice_get found r ≡ Some one →
    before ≡ older_from scan most 0 (take r found) → now ≡ before ++ last ∷ [] → last ≡ older_at scan most r one → now ≡ older_from scan most 0 (take (r + 1) found)
older-on scan most found r one before now last at so_far next is =
    let within = slice_get_within found r one at in
    let front : length (take r found) ≡ r = length_take_within r found within in
    let start : 0 + length (take r found) ≡ r = omega (arith, front) in
    let more : take (r + 1) found ≡ take r found ++ one ∷ [] =
    take_more found r one within ∙ ap (λ (o : Option RestoredValue). take r found ++ o ∷ []) (get_or_from_slice_get found r one one at) in
    next
    ∙ ap (λ (l : List (List ℕ)). l ++ last ∷ []) so_far
    ∙ ap (λ (l : List ℕ). older_from scan most 0 (take r found) ++ l ∷ []) is
    ∙ ap (λ (n : ℕ). older_from scan most 0 (take r found) ++ older_at scan most n one ∷ []) (sym start)
    ∙ sym (older-more scan most 0 (take r found) one)
    ∙ ap (λ (l : List (Option RestoredValue)). older_from scan most 0 l) (sym more)
