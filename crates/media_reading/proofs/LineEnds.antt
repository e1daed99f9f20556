-- No line of a playlist has an LF within.
use Rattle.std.proofs.Common.{◌≡◌, ◌≢◌, ℕ, ◌+◌, ◌/◌, ◌%◌, ◌<◌, ◌≤◌, ◌^◌, ◌==◌, ◌&&◌, Bool, true, false, not, Option, Some, None, List, [], ◌∷◌, ◌++◌, length, refl, sym, ◌∙◌, subst, arith}
use Rattle.std.specs.Prelude.{All, codes, if◌then◌else◌}
use Rattle.std.specs.Fmt.{decimal}
use Rattle.std.proofs.lemmas.Bool.{false≢true, eq-eqb}
use Rattle.std.proofs.lemmas.Fmt.{decimal_by_steps}
use Rattle.std.proofs.lemmas.List.Elements.{All-nil, All-cons, All-append, All-map}
use Rattle.hex.specs.Hex.{encode_upper}
use Rattle.playlist_text.specs.Attributes.{hexadecimal}
use Rattle.playlist_text.specs.Vectors.{salted_vector}
use Rattle.playlist_text.proofs.SaltedVectors.{salted-small}
use Rattle.playlist_text.specs.Numbers.{digit, six_digits, seconds}
use Rattle.playlist_text.specs.Uris.{escaped, segment_uri}
use Rattle.playlist_text.specs.MediaLines.{Entry, Listing, head_lines, type_lines, discontinuity_lines, key_line, vector_key_line, key_lines, entry_key_lines, duration_line, entry_lines, entries_lines, end_lines, listing_lines, key_line_under}
use Rattle.media_reading.specs.MediaTexts.{IsListed, AreListed, IsListing, IsLine}
use Rattle.media_reading.specs.State.{key_begin, key_end, target_line, sequence_line, discontinuity_sequence_line}
use Rattle.media_reading.proofs.KeyLines.{key_front, key_line_under-parts}
use Rattle.media_reading.proofs.Salts.{upper-without}
use Rattle.media_reading.proofs.EscapedBytes.{escaped-in}
use Rattle.media_reading.proofs.Stepping.{both}

-- lines behind others
pub joined : (xs ys : List ℕ) → IsLine xs → IsLine ys → IsLine (xs ++ ys)
joined xs ys = All-append (λ b. b ≢ 10) xs ys

-- a byte that is no LF, in front
behind : (b : ℕ) (xs : List ℕ) → b ≢ 10 → IsLine xs → IsLine (b ∷ xs)
behind b xs = All-cons (λ c. c ≢ 10) b xs

-- a text that is written out
written-by : (b : ℕ) (same : Bool) (xs : List ℕ) → b == 10 ≡ same → not same ≡ true → IsLine xs → IsLine (b ∷ xs)
written-by b true xs test is rest = absurd (false≢true is)
written-by b false xs test is rest = behind b xs (λ one. false≢true (sym test ∙ eq-eqb b 10 one)) rest

abbrev pub all_written : List ℕ → Bool
all_written [] = true
all_written (b ∷ xs) = not (b == 10) && all_written xs

pub written : (xs : List ℕ) → all_written xs ≡ true → IsLine xs
written [] is = All-nil (λ b. b ≢ 10)
written (b ∷ xs) is =
    let parts = both (not (b == 10)) (all_written xs) is in
    written-by b (b == 10) xs refl parts.0 (written xs parts.1)

-- numbers
pub decimal-line : (n : ℕ) → n < 2 ^ 64 → IsLine (decimal n)
decimal-line n small =
    decimal_by_steps (λ _ ds. IsLine ds) (λ m _. behind (48 + m) [] (λ same. omega (arith, same)) (All-nil (λ b. b ≢ 10)))
    (λ m ds _ front. joined ds ((48 + m % 10) ∷ []) front (behind (48 + m % 10) [] (λ same. omega (arith, same)) (All-nil (λ b. b ≢ 10)))) n small

six-line : (n : ℕ) → IsLine (six_digits n)
unfolding six_digits
six-line n = All-map (λ b. b ≢ 10) (digit n) (5 ∷ 4 ∷ 3 ∷ 2 ∷ 1 ∷ 0 ∷ []) (λ k d lt same. omega (arith, same))

pub duration-line : (micros : ℕ) → micros < 2 ^ 64 → IsLine (duration_line micros)
unfolding duration_line seconds
duration-line micros small =
    joined (codes "#EXTINF:" ++ (decimal (micros / 1_000_000) ++ 46 ∷ six_digits (micros % 1_000_000))) (codes ",")
    (joined (codes "#EXTINF:") (decimal (micros / 1_000_000) ++ 46 ∷ six_digits (micros % 1_000_000)) (written (codes "#EXTINF:") refl)
    (joined (decimal (micros / 1_000_000)) (46 ∷ six_digits (micros % 1_000_000)) (decimal-line (micros / 1_000_000) (omega (arith, small)))
    (behind 46 (six_digits (micros % 1_000_000)) (λ same. omega (arith, same)) (six-line (micros % 1_000_000)))))
    (written (codes ",") refl)

-- names
pub escaped-line : (name : List ℕ) → IsLine (escaped name)
escaped-line name = λ k d lt. (escaped-in name k d lt).0

end-line : (salt : Option (List ℕ)) (n : ℕ) → IsLine (key_end salt n)
unfolding hexadecimal
end-line None n = written (codes ".key\"") refl
end-line (Some salt) n =
    let digits = encode_upper (salted_vector (Some salt) n) in
    joined (codes ".key\",IV=0x") digits (written (codes ".key\",IV=0x") refl) (upper-without 10 refl (salted_vector (Some salt) n) (salted-small salt n))

key-line : (name : List ℕ) (salt : Option (List ℕ)) (n key : ℕ) → key < 4096 → IsLine (key_line_under name salt n key)
key-line name salt n key small =
    subst IsLine (sym (key_line_under-parts name salt n key))
    (joined (key_front name ++ decimal key) (key_end salt n)
    (joined (key_front name) (decimal key)
    (joined (key_begin ++ escaped name) (codes ".") (joined key_begin (escaped name) (written key_begin refl) (escaped-line name)) (written (codes ".") refl))
    (decimal-line key (omega (arith, small))))
    (end-line salt n))

pub segment-line : (name : List ℕ) (n : ℕ) → n < 2 ^ 33 → IsLine (segment_uri name n)
unfolding segment_uri
segment-line name n small =
    joined (escaped name ++ codes "." ++ decimal n) (codes ".ts")
    (joined (escaped name ++ codes ".") (decimal n) (joined (escaped name) (codes ".") (escaped-line name) (written (codes ".") refl)) (decimal-line n (omega (arith, small))))
    (written (codes ".ts") refl)

-- lists of lines
pub no-lines : All IsLine []
no-lines = All-nil IsLine

pub and-line : (x : List ℕ) (xs : List (List ℕ)) → IsLine x → All IsLine xs → All IsLine (x ∷ xs)
and-line x xs = All-cons IsLine x xs

pub and-lines : (xs ys : List (List ℕ)) → All IsLine xs → All IsLine ys → All IsLine (xs ++ ys)
and-lines xs ys = All-append IsLine xs ys

-- the lines of the head
head-IsLine : (t s d : ℕ) → t ≤ 3600 → s < 2 ^ 33 → d < 2 ^ 33 → All IsLine (head_lines t s d)
unfolding head_lines
head-IsLine t s d one two three =
    let disc = discontinuity_sequence_line d ∷ [] in
    let sequence = sequence_line s ∷ disc in
    let target = target_line t ∷ sequence in
    and-line (codes "#EXTM3U") (codes "#EXT-X-VERSION:4" ∷ target) (written (codes "#EXTM3U") refl)
    (and-line (codes "#EXT-X-VERSION:4") target (written (codes "#EXT-X-VERSION:4") refl)
    (and-line (target_line t) sequence (joined (codes "#EXT-X-TARGETDURATION:") (decimal t) (written (codes "#EXT-X-TARGETDURATION:") refl) (decimal-line t (omega (arith, one))))
    (and-line (sequence_line s) disc (joined (codes "#EXT-X-MEDIA-SEQUENCE:") (decimal s) (written (codes "#EXT-X-MEDIA-SEQUENCE:") refl) (decimal-line s (omega (arith, two))))
    (and-line (discontinuity_sequence_line d) []
    (joined (codes "#EXT-X-DISCONTINUITY-SEQUENCE:") (decimal d) (written (codes "#EXT-X-DISCONTINUITY-SEQUENCE:") refl) (decimal-line d (omega (arith, three)))) no-lines))))

pub type-IsLine : (b : Bool) → All IsLine (type_lines b)
unfolding type_lines
type-IsLine true = and-line (codes "#EXT-X-PLAYLIST-TYPE:EVENT") [] (written (codes "#EXT-X-PLAYLIST-TYPE:EVENT") refl) no-lines
type-IsLine false = no-lines

-- the lines of an entry
pub discontinuity-IsLine : (b : Bool) → All IsLine (discontinuity_lines b)
unfolding discontinuity_lines
discontinuity-IsLine true = and-line (codes "#EXT-X-DISCONTINUITY") [] (written (codes "#EXT-X-DISCONTINUITY") refl) no-lines
discontinuity-IsLine false = no-lines

keys-by : (name : List ℕ) (key : ℕ) (b : Bool) → key < 4096 → All IsLine (if b then [] else key_line name key ∷ [])
keys-by name key true small = no-lines
keys-by name key false small = and-line (key_line name key) [] (key-line name None 0 key small) no-lines

keys-IsLine : (name : List ℕ) (before : Option ℕ) (key : ℕ) → key < 4096 → All IsLine (key_lines name before key)
unfolding key_lines
keys-IsLine name None key small = and-line (key_line name key) [] (key-line name None 0 key small) no-lines
keys-IsLine name (Some before) key small = keys-by name key (before == key) small

all-keys-IsLine : (name : List ℕ) (salt : Option (List ℕ)) (before : Option ℕ) (key n : ℕ) → key < 4096 → All IsLine (entry_key_lines name salt before key n)
unfolding entry_key_lines
all-keys-IsLine name None before key n small = keys-IsLine name before key small
all-keys-IsLine name (Some salt) before key n small =
    and-line (vector_key_line name (Some salt) key n) [] (key-line name (Some salt) n key small) no-lines

entry-IsLine : (name : List ℕ) (salt : Option (List ℕ)) (before : Option ℕ) (target n : ℕ) (entry : Entry) → target ≤ 3600 → IsListed target n entry
    → All IsLine (entry_lines name salt before entry)
unfolding entry_lines
entry-IsLine name salt before target n entry few listed =
    let keys = entry_key_lines name salt before entry.key entry.number in
    and-lines (discontinuity_lines entry.discontinuity ++ keys) (duration_line entry.micros ∷ segment_uri name entry.number ∷ [])
    (and-lines (discontinuity_lines entry.discontinuity) keys (discontinuity-IsLine entry.discontinuity) (all-keys-IsLine name salt before entry.key entry.number listed.key))
    (and-line (duration_line entry.micros) (segment_uri name entry.number ∷ []) (duration-line entry.micros (omega (arith, few, listed.short)))
    (and-line (segment_uri name entry.number) [] (segment-line name entry.number (omega (arith, listed.number, listed.below))) no-lines))

entries-IsLine : (name : List ℕ) (salt : Option (List ℕ)) (before : Option ℕ) (target n : ℕ) (entries : List Entry) → target ≤ 3600 → AreListed target n entries
    → All IsLine (entries_lines name salt before entries)
unfolding entries_lines
entries-IsLine name salt before target n [] few listed = no-lines
entries-IsLine name salt before target n (entry ∷ entries) few listed =
    and-lines (entry_lines name salt before entry) (entries_lines name salt (Some entry.key) entries) (entry-IsLine name salt before target n entry few listed.0)
    (entries-IsLine name salt (Some entry.key) target (n + 1) entries few listed.1)

end-IsLine : (b : Bool) → All IsLine (end_lines b)
unfolding end_lines
end-IsLine true = and-line (codes "#EXT-X-ENDLIST") [] (written (codes "#EXT-X-ENDLIST") refl) no-lines
end-IsLine false = no-lines

-- the first number is below 2^33
pub sequence-small : (target n : ℕ) (entries : List Entry) → 0 < length entries → AreListed target n entries → n < 2 ^ 33
sequence-small target n [] some listed = absurd (omega (arith, some))
sequence-small target n (entry ∷ entries) some listed = listed.0.below

pub listing-IsLine : (l : Listing) → IsListing l → All IsLine (listing_lines l)
unfolding listing_lines
listing-IsLine l sound =
    let first = sequence-small l.target l.sequence l.entries sound.some sound.entries in
    let head = head_lines l.target l.sequence l.discontinuity_sequence in
    let entries = entries_lines l.name l.salt None l.entries in
    and-lines (head ++ type_lines l.event ++ entries) (end_lines l.ended)
    (and-lines (head ++ type_lines l.event) entries
    (and-lines head (type_lines l.event) (head-IsLine l.target l.sequence l.discontinuity_sequence sound.target (omega (arith, first)) sound.discontinuity_sequence) (type-IsLine l.event))
    (entries-IsLine l.name l.salt None l.target l.sequence l.entries sound.target sound.entries))
    (end-IsLine l.ended)
