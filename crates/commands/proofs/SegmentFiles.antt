-- Files that give the segments of a playlist, one behind another.
use Rattle.std.proofs.Common.{◌≡◌, Vec, Global, ℕ, ◌+◌, ◌<◌, List, [], ◌∷◌, ◌++◌, map, length, take, set, get_or, ap, sym, subst, ◌∙◌, arith}
use Rattle.std.proofs.lemmas.List.{map-append, get_or-map, length-map, take_more, take_more_set}
use Rattle.std.specs.Path.{path_buf_bytes}
use Rattle.std.specs.declared.path.buf.PathBuf.{PathBuf}
use Rattle.playlist_text.specs.MediaLines.{Entry, Listing}
use Rattle.commands.specs.Checking.{AllGive, RefusesOne, segment_path, segment_paths}

-- the path of a place
pub path-at : (playlist : List ℕ) (listing : Listing) (i : ℕ) (e : Entry) → i < length listing.entries
    → get_or (segment_paths playlist listing) i [] ≡ segment_path playlist listing.name (get_or listing.entries i e).number
path-at playlist listing i e below = get_or-map (λ x. segment_path playlist listing.name x.number) listing.entries i e [] below

give-more : (gives : List ℕ → List ℕ → Type 0) (paths all : List (List ℕ)) (path bytes : List ℕ) → AllGive gives paths all → gives path bytes
    → AllGive gives (paths ++ path ∷ []) (all ++ bytes ∷ [])
give-more gives [] [] path bytes each last = (last, each)
give-more gives [] (b ∷ all) path bytes each last = absurd each
give-more gives (p ∷ paths) [] path bytes each last = absurd each
give-more gives (p ∷ paths) (b ∷ all) path bytes each last = (each.0, give-more gives paths all path bytes each.1 last)

-- one file more
pub segment-given : (gives : List ℕ → List ℕ → Type 0) (paths : List (List ℕ)) (segments : List (Vec ℕ Global)) (i : ℕ) (x : Vec ℕ Global)
    → i < length paths → i < length segments → AllGive gives (take i paths) (map (λ s. s.items) (take i segments)) → gives (get_or paths i []) x.items
    → AllGive gives (take (i + 1) paths) (map (λ s. s.items) (take (i + 1) (set segments i x)))
segment-given gives paths segments i x below within each last =
    let items = λ (v : Vec ℕ Global). v.items in
    rw (take_more paths i [] below, take_more_set segments i x within, map-append items (take i segments) (x ∷ []))
    (give-more gives (take i paths) (map items (take i segments)) (get_or paths i []) x.items each last)

-- the file at a path was refused, behind those that gave their bytes
pub refused-at : (gives : List ℕ → List ℕ → Type 0) (refuses : List ℕ → Type 0) (paths : List (List ℕ)) (segments : List (List ℕ)) (i : ℕ) (path : List ℕ) → i < length paths
    → AllGive gives (take i paths) segments → path ≡ get_or paths i [] → refuses path → RefusesOne gives refuses paths
refused-at gives refuses paths segments i path below before is refused =
    record { place = i; within = below; segments = segments; before = before; refused = subst refuses is refused }

-- one path more
pub path-more : (playlist : List ℕ) (listing : Listing) (i : ℕ) (e : Entry) (old new : List (PathBuf Global)) (path : PathBuf Global) → i < length listing.entries
    → map path_buf_bytes old ≡ take i (segment_paths playlist listing) → new ≡ old ++ path ∷ []
    → path_buf_bytes path ≡ segment_path playlist listing.name (get_or listing.entries i e).number
    → map path_buf_bytes new ≡ take (i + 1) (segment_paths playlist listing)
path-more playlist listing i e old new path below so_far pushed is =
    let paths = segment_paths playlist listing in
    let inside : i < length paths = omega (arith, below, length-map listing.entries (λ x. segment_path playlist listing.name x.number)) in
    ap (map path_buf_bytes) pushed ∙ map-append path_buf_bytes old (path ∷ []) ∙ ap (λ ps. ps ++ path_buf_bytes path ∷ []) so_far
    ∙ ap (λ p. take i paths ++ p ∷ []) (is ∙ sym (path-at playlist listing i e below)) ∙ sym (take_more paths i [] inside)
