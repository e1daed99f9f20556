-- Files that are looked at one after another.
use Rattle.std.proofs.Common.{◌≡◌, ℕ, ◌+◌, ◌<◌, Bool, true, false, Option, Some, None, List, [], ◌∷◌, ◌++◌, map, length, take, get_or, refl, sym, ap, ◌∙◌, String, Global, append-nil}
use Rattle.std.specs.Prelude.{◌^◌, codes, filter, filter_map}
use Rattle.std.specs.String.{string_bytes}
use Rattle.std.specs.Fmt.{decimal}
use Rattle.media_reading.specs.State.{number_in}
use Rattle.channel_folder.specs.Files.{segment_in}
use Rattle.std.proofs.lemmas.List.{take_more}
use Rattle.std.proofs.lemmas.List.Elements.{filter-append, filter_map-append}

-- a text that owns its bytes
abbrev pub Text : Type 0
Text = String Global

pub map-more : {X Y : Type 0} (f : X → Y) (xs : List X) (x : X) → map f (xs ++ x ∷ []) ≡ map f xs ++ f x ∷ []
map-more f [] x = refl
map-more f (y ∷ xs) x = ap (λ l. f y ∷ l) (map-more f xs x)

-- one file more
pub texts-more : (files : List Text) (i : ℕ) (file : Text) → i < length files → file ≡ get_or files i file →
    map string_bytes (take (i + 1) files) ≡ map string_bytes (take i files) ++ string_bytes file ∷ []
texts-more files i file lt is =
    ap (λ (l : List Text). map string_bytes l) (take_more files i file lt ∙ ap (λ (x : Text). take i files ++ x ∷ []) (sym is))
    ∙ map-more string_bytes (take i files) file

one-some : {X : Type 0} (h : List ℕ → Option X) (file : List ℕ) (x : X) → h file ≡ Some x → filter_map h (file ∷ []) ≡ x ∷ []
one-some h file x is = rw is refl

one-none : {X : Type 0} (h : List ℕ → Option X) (file : List ℕ) → h file ≡ None → filter_map h (file ∷ []) ≡ []
one-none h file is = rw is refl

pub found-more : {X : Type 0} (h : List ℕ → Option X) (files : List Text) (i : ℕ) (file : Text) (x : X) (before now : List X) → i < length files →
    file ≡ get_or files i file → before ≡ filter_map h (map string_bytes (take i files)) → h (string_bytes file) ≡ Some x → now ≡ before ++ x ∷ [] →
    now ≡ filter_map h (map string_bytes (take (i + 1) files))
found-more h files i file x before now lt is so_far found next =
    next ∙ ap (λ l. l ++ x ∷ []) so_far
    ∙ ap (λ l. filter_map h (map string_bytes (take i files)) ++ l) (sym (one-some h (string_bytes file) x found))
    ∙ sym (filter_map-append h (map string_bytes (take i files)) (string_bytes file ∷ []))
    ∙ ap (filter_map h) (sym (texts-more files i file lt is))

pub none-more : {X : Type 0} (h : List ℕ → Option X) (files : List Text) (i : ℕ) (file : Text) (before : List X) → i < length files →
    file ≡ get_or files i file → before ≡ filter_map h (map string_bytes (take i files)) → h (string_bytes file) ≡ None →
    before ≡ filter_map h (map string_bytes (take (i + 1) files))
none-more h files i file before lt is so_far none =
    so_far ∙ sym (append-nil (filter_map h (map string_bytes (take i files))))
    ∙ ap (λ l. filter_map h (map string_bytes (take i files)) ++ l) (sym (one-none h (string_bytes file) none))
    ∙ sym (filter_map-append h (map string_bytes (take i files)) (string_bytes file ∷ []))
    ∙ ap (filter_map h) (sym (texts-more files i file lt is))

one-kept : (p : List ℕ → Bool) (file : List ℕ) → p file ≡ true → filter p (file ∷ []) ≡ file ∷ []
one-kept p file is = rw is refl

one-passed : (p : List ℕ → Bool) (file : List ℕ) → p file ≡ false → filter p (file ∷ []) ≡ []
one-passed p file is = rw is refl

pub kept-more : (p : List ℕ → Bool) (files : List Text) (i : ℕ) (file : Text) (before now : List (List ℕ)) → i < length files →
    file ≡ get_or files i file → before ≡ filter p (map string_bytes (take i files)) → p (string_bytes file) ≡ true → now ≡ before ++ string_bytes file ∷ [] →
    now ≡ filter p (map string_bytes (take (i + 1) files))
kept-more p files i file before now lt is so_far passes next =
    next ∙ ap (λ l. l ++ string_bytes file ∷ []) so_far
    ∙ ap (λ l. filter p (map string_bytes (take i files)) ++ l) (sym (one-kept p (string_bytes file) passes))
    ∙ sym (filter-append p (map string_bytes (take i files)) (string_bytes file ∷ []))
    ∙ ap (filter p) (sym (texts-more files i file lt is))

pub passed-more : (p : List ℕ → Bool) (files : List Text) (i : ℕ) (file : Text) (before : List (List ℕ)) → i < length files →
    file ≡ get_or files i file → before ≡ filter p (map string_bytes (take i files)) → p (string_bytes file) ≡ false →
    before ≡ filter p (map string_bytes (take (i + 1) files))
passed-more p files i file before lt is so_far fails =
    so_far ∙ sym (append-nil (filter p (map string_bytes (take i files))))
    ∙ ap (λ l. filter p (map string_bytes (take i files)) ++ l) (sym (one-passed p (string_bytes file) fails))
    ∙ sym (filter-append p (map string_bytes (take i files)) (string_bytes file ∷ []))
    ∙ ap (filter p) (sym (texts-more files i file lt is))

-- the number that was read between two texts is that of a segment
pub number-at : (line front name file : List ℕ) (r : Option ℕ) → r ≡ number_in (λ n. front ++ decimal n ++ codes ".ts") (2 ^ 64) line → line ≡ file →
    front ≡ name ++ codes "." → segment_in name file ≡ r
number-at line front name file r read is_file is_front =
    sym (read ∙ ap (λ (l : List ℕ). number_in (λ n. front ++ decimal n ++ codes ".ts") (2 ^ 64) l) is_file
    ∙ ap (λ (f : List ℕ). number_in (λ n. f ++ decimal n ++ codes ".ts") (2 ^ 64) file) is_front)
