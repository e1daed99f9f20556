-- Files that are removed one after another.
use Rattle.std.proofs.Common.{◌≡◌, ℕ, zero, suc, ◌+◌, ◌<◌, List, [], ◌∷◌, ◌++◌, map, length, take, drop, get_or, refl, sym, ap, ◌∙◌, arith, append_assoc}
use Rattle.std.specs.String.{string_bytes}
use Rattle.folder.specs.Moves.{Move, Remove}
use Rattle.channel_folder.specs.LetGo.{removing, IsRemovedInPart}
use Rattle.channel_folder.proofs.Listing.{Text, map-more, texts-more}

-- one more
pub removed-more : (made mid now : List Move) (files : List Text) (i : ℕ) (file : Text) → i < length files → file ≡ get_or files i file →
    mid ≡ made ++ removing (map string_bytes (take i files)) → now ≡ mid ++ Remove (string_bytes file) ∷ [] →
    now ≡ made ++ removing (map string_bytes (take (i + 1) files))
removed-more made mid now files i file lt is so_far next =
    next ∙ ap (λ (l : List Move). l ++ Remove (string_bytes file) ∷ []) so_far
    ∙ append_assoc made (removing (map string_bytes (take i files))) (Remove (string_bytes file) ∷ [])
    ∙ ap (λ (l : List Move). made ++ l) (sym (map-more Remove (map string_bytes (take i files)) (string_bytes file)))
    ∙ ap (λ (l : List (List ℕ)). made ++ removing l) (sym (texts-more files i file lt is))

split : (files : List Text) (i : ℕ) (file : Text) → i < length files →
    map string_bytes files ≡ map string_bytes (take i files) ++ string_bytes (get_or files i file) ∷ map string_bytes (drop (suc i) files)
split [] i file lt = absurd (omega (arith, lt))
split (f ∷ files) zero file lt = refl
split (f ∷ files) (suc i) file lt = ap (λ (l : List (List ℕ)). string_bytes f ∷ l) (split files i file (omega (arith, lt)))

-- one couldn't be removed
pub removed-in-part : (made mid now : List Move) (files : List Text) (i : ℕ) (file : Text) → i < length files → file ≡ get_or files i file →
    mid ≡ made ++ removing (map string_bytes (take i files)) → now ≡ mid → IsRemovedInPart made now (map string_bytes files)
removed-in-part made mid now files i file lt is so_far kept = record {
  removed = map string_bytes (take i files);
  next = string_bytes (get_or files i file);
  rest = map string_bytes (drop (suc i) files);
  all = split files i file lt;
  made = kept ∙ so_far;
}
