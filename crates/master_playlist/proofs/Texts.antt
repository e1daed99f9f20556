-- Texts of lines, one piece after another.
use Rattle.std.proofs.Common.{Bor, ◌≡◌, ℕ, ◌+◌, ◌<◌, List, [], ◌∷◌, ◌++◌, map, length, length-append, refl, ap, sym, subst, ◌∙◌, arith}
use Rattle.std.specs.Prelude.{Result, Ok, Err, OnErr, codes, false}
use Rattle.std.proofs.lemmas.List.Elements.{All-nil, All-cons}
use Rattle.playlist_text.specs.AttributeValues.{is_hexadecimal, HaveNoHexadecimal}
use Rattle.playlist_text.specs.declared.attribute.Attribute.{Attribute}
use Rattle.playlist_text.specs.declared.attribute.Value.TheVariants.{Decimal, Quoted, Resolution}
use Rattle.std.specs.List.{flat_map}
use Rattle.std.proofs.lemmas.List.{append-nil, append_assoc}
use Rattle.std.proofs.lemmas.List.Concat.{flat_map-append}
use Rattle.playlist_text.specs.Appended.{AppendsPart}
use Rattle.playlist_text.proofs.Appending.{part-front}
use Rattle.playlist_text.specs.Lines.{ended_line, text_of}
use Rattle.playlist_text.specs.Uris.{media_uri, frames_uri}
use Rattle.playlist_text.specs.Attributes.{quoted, attribute, attribute_list}
use Rattle.master_playlist.specs.Listed.{Listed}
use Rattle.master_playlist.specs.MasterLines.{attributes, stream_lines, frames_line, master_lines, master_text}

-- four texts
four : (s t u w : List ℕ) → s ++ (t ++ (u ++ w)) ≡ ((s ++ t) ++ u) ++ w
four s t u w = simp append_assoc refl

-- some lines and then others
text_of-append : (xs ys : List (List ℕ)) → text_of (xs ++ ys) ≡ text_of xs ++ text_of ys
unfolding text_of
text_of-append xs ys = flat_map-append ended_line xs ys

-- no lines
text_of-none : text_of [] ≡ []
unfolding text_of
text_of-none = refl

-- two lines, then some, then others
begun : (a b : List ℕ) (xs ys : List (List ℕ)) → text_of (a ∷ b ∷ (xs ++ ys)) ≡ ((text_of (a ∷ []) ++ text_of (b ∷ [])) ++ text_of xs) ++ text_of ys
begun a b xs ys =
    text_of-append (a ∷ []) (b ∷ (xs ++ ys))
    ∙ ap (λ (t : List ℕ). text_of (a ∷ []) ++ t) (text_of-append (b ∷ []) (xs ++ ys) ∙ ap (λ (t : List ℕ). text_of (b ∷ []) ++ t) (text_of-append xs ys))
    ∙ four (text_of (a ∷ [])) (text_of (b ∷ [])) (text_of xs) (text_of ys)

-- the text of the variants' lines
abbrev pub streams_text : List Listed → List ℕ
streams_text [] = []
streams_text (v ∷ vs) = text_of (stream_lines v) ++ streams_text vs

pub streams_text-is : (vs : List Listed) → text_of (flat_map stream_lines vs) ≡ streams_text vs
streams_text-is [] = text_of-none
streams_text-is (v ∷ vs) = text_of-append (stream_lines v) (flat_map stream_lines vs) ∙ ap (λ (t : List ℕ). text_of (stream_lines v) ++ t) (streams_text-is vs)

-- the text of their I-frame playlists' lines
abbrev pub frames_text : List Listed → List ℕ
frames_text [] = []
frames_text (v ∷ vs) = text_of (frames_line v ∷ []) ++ frames_text vs

pub frames_text-is : (vs : List Listed) → text_of (map frames_line vs) ≡ frames_text vs
frames_text-is [] = text_of-none
frames_text-is (v ∷ vs) = text_of-append (frames_line v ∷ []) (map frames_line vs) ∙ ap (λ (t : List ℕ). text_of (frames_line v ∷ []) ++ t) (frames_text-is vs)

-- what five pieces append as two lines
pub two_lines : (s t u w x y p a m n : List ℕ) → t ≡ s ++ p → u ≡ t ++ a → w ≡ u ++ n → x ≡ w ++ m → y ≡ x ++ n →
    y ≡ s ++ (((p ++ a) ++ n) ++ ((m ++ n) ++ []))
two_lines s t u w x y p a m n first second third fourth fifth = rw (fifth, fourth, third, second, first) (simp (append_assoc, append-nil) refl)

-- and as one line
pub one_line : (s t u w x y p a b c n : List ℕ) → t ≡ s ++ p → u ≡ t ++ a → w ≡ u ++ b → x ≡ w ++ c → y ≡ x ++ n →
    y ≡ s ++ (((p ++ ((a ++ b) ++ c)) ++ n) ++ [])
one_line s t u w x y p a b c n first second third fourth fifth = rw (fifth, fourth, third, second, first) (simp (append_assoc, append-nil) refl)

-- what four texts append to none
pub four_texts : (s t u w x a b c d : List ℕ) → s ≡ [] → t ≡ s ++ a → u ≡ t ++ b → w ≡ u ++ c → x ≡ w ++ d → x ≡ ((a ++ b) ++ c) ++ d
four_texts s t u w x a b c d none first second third fourth = rw (fourth, third, second, first, none) refl

-- the lines of a variant
pub stream-is : (v : Listed) →
    text_of (stream_lines v)
    ≡ ((codes "#EXT-X-STREAM-INF:" ++ attribute_list (attributes v v.peak v.average)) ++ codes "\n") ++ ((media_uri v.name ++ codes "\n") ++ [])
unfolding text_of stream_lines
stream-is v = refl

-- a fact that holds anyhow
pub OnErr-fact : {T E P : Type 0} (r : Result T E) → P → OnErr r P
OnErr-fact (Ok x) p = tt
OnErr-fact (Err e) p = p

-- two numbers, a quoted value and a resolution
pub plain-four : (a b x y text : Bor (List ℕ)) (peak average width height : ℕ) →
    HaveNoHexadecimal (record { name = a; value = Decimal peak } ∷ record { name = b; value = Decimal average } ∷ record { name = x; value = Quoted text } ∷ record { name = y; value = Resolution width height } ∷ [])
plain-four a b x y text peak average width height =
    let Plain = λ (each : Attribute). is_hexadecimal each.value ≡ false in
    let first : Attribute = record { name = a; value = Decimal peak } in
    let second : Attribute = record { name = b; value = Decimal average } in
    let third : Attribute = record { name = x; value = Quoted text } in
    let fourth : Attribute = record { name = y; value = Resolution width height } in
    All-cons Plain first (second ∷ third ∷ fourth ∷ []) refl (All-cons Plain second (third ∷ fourth ∷ []) refl
    (All-cons Plain third (fourth ∷ []) refl (All-cons Plain fourth [] refl (All-nil Plain))))

-- what was appended
pub grown : (old new more : List ℕ) → new ≡ old ++ more → length new ≡ length old + length more
grown old new more is = ap length is ∙ length-append old more

-- how long they are
pub stream-long : (v : Listed) →
    length (text_of (stream_lines v))
    ≡ length (codes "#EXT-X-STREAM-INF:") + length (attribute_list (attributes v v.peak v.average)) + 1 + length (media_uri v.name) + 1
stream-long v =
    let whole = simp length-append at (ap length (stream-is v)) in
    omega (arith, whole)

-- one attribute behind four
behind_four : (a b c d u : List ℕ) → attribute_list (a ∷ b ∷ c ∷ d ∷ u ∷ []) ≡ (attribute_list (a ∷ b ∷ c ∷ d ∷ []) ++ codes ",") ++ attribute_list (u ∷ [])
unfolding attribute_list
behind_four a b c d u = simp append_assoc refl

-- one attribute behind those of a variant
one_behind : (v : Listed) (peak average : ℕ) (u : List ℕ) →
    attribute_list (attributes v peak average ++ u ∷ []) ≡ (attribute_list (attributes v peak average) ++ codes ",") ++ attribute_list (u ∷ [])
unfolding attributes
one_behind v peak average u = behind_four _ _ _ _ u

-- the line of its I-frame playlist
pub frames-is : (v : Listed) →
    text_of (frames_line v ∷ [])
    ≡ ((codes "#EXT-X-I-FRAME-STREAM-INF:" ++ ((attribute_list (attributes v v.frame_peak v.frame_average) ++ codes ",") ++ attribute_list (attribute (codes "URI") (quoted (frames_uri v.name)) ∷ []))) ++ codes "\n") ++ []
unfolding text_of frames_line
frames-is v =
    ap (λ (t : List ℕ). ((codes "#EXT-X-I-FRAME-STREAM-INF:" ++ t) ++ codes "\n") ++ []) (one_behind v v.frame_peak v.frame_average (attribute (codes "URI") (quoted (frames_uri v.name))))

-- a beginning of that line was appended, before its end
pub frame-part : (v : Listed) (old new : List ℕ)
    → AppendsPart old (codes "#EXT-X-I-FRAME-STREAM-INF:" ++ ((attribute_list (attributes v v.frame_peak v.frame_average) ++ codes ",") ++ attribute_list (attribute (codes "URI") (quoted (frames_uri v.name)) ∷ []))) new
    → AppendsPart old (text_of (frames_line v ∷ [])) new
frame-part v old new p =
    subst (λ (all : List ℕ). AppendsPart old all new) (sym (frames-is v)) (part-front _ _ [] _ (part-front _ _ (codes "\n") _ p))

-- the whole text of some variants
pub master_text-some : (vs : List Listed) → 0 < length vs →
    master_text vs ≡ ((text_of (codes "#EXTM3U" ∷ []) ++ text_of (codes "#EXT-X-VERSION:4" ∷ [])) ++ text_of (flat_map stream_lines vs)) ++ text_of (map frames_line vs)
unfolding master_text master_lines
master_text-some [] some = absurd (omega (arith, some))
master_text-some (v ∷ vs) some = begun (codes "#EXTM3U") (codes "#EXT-X-VERSION:4") (flat_map stream_lines (v ∷ vs)) (map frames_line (v ∷ vs))

-- and of none
pub master_text-none : (vs : List Listed) → length vs ≡ 0 → [] ≡ master_text vs
unfolding master_text master_lines text_of
master_text-none [] none = refl
master_text-none (v ∷ vs) none = absurd (omega (arith, none))
