-- Memory may be wanted for each text of a media playlist.
use Rattle.std.proofs.Common.{◌≡◌, ◌≢◌, ◌∙◌, ℕ, ◌<◌, Option, Some, None, All, List, [], ◌∷◌, ◌++◌, length, drop, sym, ap, subst, refl, inl, inr, true, arith, append-nil, append_assoc}
use Rattle.std.specs.Prelude.{codes}
use Rattle.std.specs.Fmt.{decimal}
use Rattle.std.proofs.lemmas.Bool.Decides.{Decides-eqb}
use Rattle.std.proofs.lemmas.Slice.Eq.{ends_is}
use Rattle.std.proofs.lemmas.List.{length-append, take-append-drop}
use Rattle.std.proofs.lemmas.List.Elements.{All-nil}
use Rattle.playlist_text.specs.Lines.{text_of}
use Rattle.playlist_text.specs.MediaLines.{Entry, Listing, head_lines, type_lines, discontinuity_lines, entry_key_lines, duration_line, entry_lines, entries_lines, end_lines, listing_lines}
use Rattle.playlist_text.specs.Uris.{escaped, segment_uri}
use Rattle.media_reading.specs.State.{ends_segment}
use Rattle.media_reading.specs.MediaTexts.{IsLine, IsListing, MayWantMemory, WantsMemory, listing_text}
use Rattle.media_reading.proofs.LineEnds.{listing-IsLine}

-- entries have lines
entries-some : (name : List ℕ) (salt : Option (List ℕ)) (before : Option ℕ) (entries : List Entry) → 0 < length entries → 0 < length (entries_lines name salt before entries)
unfolding entries_lines entry_lines
entries-some name salt before [] some = absurd (omega (arith, some))
entries-some name salt before (e ∷ es) some =
    omega (
      arith,
      length-append (entry_lines name salt before e) (entries_lines name salt (Some e.key) es),
      length-append (discontinuity_lines e.discontinuity ++ entry_key_lines name salt before e.key e.number) (duration_line e.micros ∷ segment_uri name e.number ∷ []),
    )

-- more lines than those of the head
listing-long : (l : Listing) → IsListing l → 5 < length (listing_lines l)
unfolding listing_lines head_lines
listing-long l sound =
    let head = head_lines l.target l.sequence l.discontinuity_sequence in
    let entries = entries_lines l.name l.salt None l.entries in
    omega (
      arith,
      length-append (head ++ type_lines l.event ++ entries) (end_lines l.ended),
      length-append (head ++ type_lines l.event) entries,
      length-append head (type_lines l.event),
      entries-some l.name l.salt None l.entries sound.some,
    )

pub listing-wants : (l : Listing) → IsListing l → MayWantMemory (listing_text l)
listing-wants l sound = record {
  lines = listing_lines l;
  last = [];
  splits = record { whole = sym (append-nil (listing_text l)); lines_end = listing-IsLine l sound; last_is_open = All-nil (λ b. b ≢ 10) };
  place = 5;
  head = omega arith;
  within = listing-long l sound;
  before = record { listing = l; sound = sound; more = drop 5 (listing_lines l); begins = sym (take-append-drop 5 (listing_lines l)) };
}

-- two lines among others, with all that is before them joined first
place : (h f : List (List ℕ)) (d s : List ℕ) (rest end : List (List ℕ))
    → (h ++ ((f ++ d ∷ s ∷ []) ++ rest)) ++ end ≡ ((h ++ f) ++ d ∷ []) ++ s ∷ (rest ++ end)
place h f d s rest end =
    append_assoc h ((f ++ d ∷ s ∷ []) ++ rest) end
    ∙ ap (λ (l : List (List ℕ)). h ++ l) (append_assoc (f ++ d ∷ s ∷ []) rest end ∙ append_assoc f (d ∷ s ∷ []) (rest ++ end))
    ∙ sym (append_assoc (h ++ f) (d ∷ []) (s ∷ (rest ++ end)) ∙ append_assoc h f (d ∷ s ∷ (rest ++ end)))

-- the lines before that of the first entry's duration
abbrev before-first : Listing → Entry → List (List ℕ)
before-first l e =
    (head_lines l.target l.sequence l.discontinuity_sequence ++ type_lines l.event)
    ++ (discontinuity_lines e.discontinuity ++ entry_key_lines l.name l.salt None e.key e.number)

abbrev behind-first : Listing → Entry → List Entry → List (List ℕ)
behind-first l e es = entries_lines l.name l.salt (Some e.key) es ++ end_lines l.ended

-- the line of the first segment stands behind that of its duration
lines-at : (l : Listing) (e : Entry) (es : List Entry) → l.entries ≡ e ∷ es
    → listing_lines l ≡ (before-first l e ++ duration_line e.micros ∷ []) ++ segment_uri l.name e.number ∷ behind-first l e es
unfolding listing_lines entries_lines entry_lines
lines-at l e es is =
    let head = head_lines l.target l.sequence l.discontinuity_sequence ++ type_lines l.event in
    ap (λ (xs : List Entry). (head ++ entries_lines l.name l.salt None xs) ++ end_lines l.ended) is
    ∙ place head (discontinuity_lines e.discontinuity ++ entry_key_lines l.name l.salt None e.key e.number) (duration_line e.micros) (segment_uri l.name e.number) (entries_lines l.name l.salt (Some e.key) es) (end_lines l.ended)

-- the line of a segment ends as such lines do
segment-ends : (name : List ℕ) (n : ℕ) → ends_segment (segment_uri name n) ≡ true
unfolding segment_uri
segment-ends name n = (ends_is Decides-eqb (segment_uri name n) (codes ".ts") (ends_segment (segment_uri name n)) refl).1 (escaped name ++ codes "." ++ decimal n) refl

-- memory may be wanted at the line of the first segment
wants-at : (l : Listing) (e : Entry) (es : List Entry) → IsListing l → l.entries ≡ e ∷ es → WantsMemory (listing_text l)
wants-at l e es sound is =
    let lines = lines-at l e es is in
    let all = (before-first l e ++ duration_line e.micros ∷ []) ++ segment_uri l.name e.number ∷ behind-first l e es in record {
      before = before-first l e ++ duration_line e.micros ∷ [];
      line = segment_uri l.name e.number;
      behind = behind-first l e es;
      last = [];
      splits = record { whole = ap text_of lines ∙ sym (append-nil (text_of all)); lines_end = subst (λ (ls : List (List ℕ)). All IsLine ls) lines (listing-IsLine l sound); last_is_open = All-nil (λ b. b ≢ 10) };
      begins = record { listing = l; sound = sound; more = segment_uri l.name e.number ∷ behind-first l e es; begins = lines };
      wants = inr (record { front = before-first l e; micros = e.micros; is = refl }, segment-ends l.name e.number);
      kept = inl (record {
        listing = l;
        sound = sound;
        more = behind-first l e es;
        begins = lines ∙ sym (append_assoc (before-first l e ++ duration_line e.micros ∷ []) (segment_uri l.name e.number ∷ []) (behind-first l e es));
      });
    }

wants-among : (l : Listing) (entries : List Entry) → IsListing l → l.entries ≡ entries → WantsMemory (listing_text l)
wants-among l [] sound is = absurd (omega (arith, sound.some, ap length is))
wants-among l (e ∷ es) sound is = wants-at l e es sound is

pub listing-wants-so : (l : Listing) → IsListing l → WantsMemory (listing_text l)
listing-wants-so l sound = wants-among l l.entries sound refl
