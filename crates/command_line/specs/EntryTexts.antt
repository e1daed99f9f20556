-- What an explanation tells of the entries of a ladder, and of one of them by its name and its path. Keys aren't among that.
use Rattle.std.specs.Prelude.{◌≡◌, ℕ, zero, suc, ◌++◌, Bool, ◌&&◌, ◌==◌, nat_lt, cond, List, [], length, slice_index_or, Option, None, Some, codes, decimal}
use Rattle.std.specs.List.{position_or_len}
use Rattle.ladder_items.specs.declared.fault.PackFault.{PackFault}
use Rattle.ladder_items.specs.declared.fault.PackFault.TheVariants as packing
use Rattle.channel.specs.declared.fault.ResumingFault.{ResumingFault}
use Rattle.channel.specs.declared.fault.ResumingFault.TheVariants as resuming
use Rattle.commands.specs.Entries.{Entry, HasFourColons, behind_colon, behind_three, behind_two, entry_of}
use Rattle.command_line.specs.Reasons.{resuming_reason}

-- a text of four colons, of this name
pub record IsNamed (name text : List ℕ) : Type 0 where
  pub colons : HasFourColons text
  pub is : (entry_of text).name ≡ name

abbrev pub has_colon : List ℕ → Bool
has_colon text = nat_lt (position_or_len (λ b. b == 58) text) (length text)

abbrev pub has_four_colons : List ℕ → Bool
has_four_colons text = has_colon text && has_colon (behind_colon text) && has_colon (behind_two text) && has_colon (behind_three text)

-- the parts of a text; none of one with fewer than four colons
unfoldable pub parts_of : List ℕ → Option Entry
parts_of text = cond (has_four_colons text) (Some (entry_of text)) None

-- those of the text at a place; none where there is none
unfoldable pub entry_at : List (List ℕ) → ℕ → Option Entry
entry_at texts place = cond (nat_lt place (length texts)) (parts_of (slice_index_or texts place [])) None

-- those of the text of a number, counted from 1
abbrev pub entry_numbered : List (List ℕ) → ℕ → Option Entry
entry_numbered texts zero = None
entry_numbered texts (suc place) = entry_at texts place

-- what is wrong with the entry of this number
abbrev pub bad_entry_text : Option Entry → ℕ → List ℕ
bad_entry_text (Some entry) number =
    codes "entry " ++ decimal number ++ codes ", " ++ entry.name ++ codes ": its size is not WIDTHxHEIGHT, or a key is not 32 hex digits"
bad_entry_text None number =
    codes "entry " ++ decimal number ++ codes " has fewer than four colons: NAME:CODECS:WxH:KEY[+KEY..]:PATH"

-- a reason that speaks of the entry of this number
abbrev pub entry_text : Option Entry → ℕ → List ℕ → List ℕ
entry_text (Some entry) number why = codes "entry " ++ decimal number ++ codes ", " ++ entry.name ++ codes ": " ++ why
entry_text None number why = codes "entry " ++ decimal number ++ codes ": " ++ why

-- .. of one of its key files
abbrev pub bad_key_file_text : Option Entry → ℕ → List ℕ
bad_key_file_text entry number = entry_text entry number (codes "a key file is neither 16 bytes nor 32 hex digits with at most one line end")

-- a reason that speaks of segment n
abbrev pub segment_text : ℕ → List ℕ → List ℕ
segment_text n why = codes "segment " ++ decimal n ++ codes " " ++ why

-- which rendition is meant
abbrev pub rendition_text : Option Entry → List ℕ
rendition_text (Some entry) = entry.name ++ codes ", from " ++ entry.path ++ codes ": "
rendition_text None = []

-- why a ladder doesn't go on
abbrev pub resuming_words : List (List ℕ) → ResumingFault → List ℕ
resuming_words texts resuming.Unread = resuming_reason resuming.Unread
resuming_words texts resuming.Outlet = resuming_reason resuming.Outlet
resuming_words texts resuming.NoMemory = resuming_reason resuming.NoMemory
resuming_words texts (resuming.Not r fault) = rendition_text (entry_at texts r) ++ resuming_reason (resuming.Not r fault)
resuming_words texts (resuming.OtherKeys r i) = rendition_text (entry_at texts r) ++ resuming_reason (resuming.OtherKeys r i)

-- why a stream can't be read; one that may be silent only for so long may have been silent
abbrev pub read_reason : Bool → List ℕ
read_reason stalls = cond stalls (codes "a read failed, or nothing came for --stall seconds") (codes "a read failed")

-- why a run ended, where settings that aren't allowed are told by these words
abbrev pub packing_words : List (List ℕ) → Bool → List ℕ → PackFault → List ℕ
packing_words texts stalls settings packing.Settings = settings
packing_words texts stalls settings (packing.Read r) = rendition_text (entry_at texts r) ++ read_reason stalls
packing_words texts stalls settings (packing.ReadLimit r) = rendition_text (entry_at texts r) ++ codes "2^40 reads did not reach the end of the stream"
packing_words texts stalls settings (packing.NoProgram r) =
    rendition_text (entry_at texts r) ++ codes "no program: empty, not a transport stream, or its PAT or PMT is missing or damaged"
packing_words texts stalls settings (packing.NoStart r) =
    rendition_text (entry_at texts r) ++ codes "no key frame to begin at: one with random_access_indicator set, a PTS, and not scrambled"
packing_words texts stalls settings (packing.LongSegment r n) =
    rendition_text (entry_at texts r)
    ++ segment_text n (codes "would last longer than --target: if the GOP doesn't divide it, set --segment to the target minus one GOP")
packing_words texts stalls settings (packing.BigSegment r n) = rendition_text (entry_at texts r) ++ segment_text n (codes "has more packets than --most")
packing_words texts stalls settings (packing.Limit r) = rendition_text (entry_at texts r) ++ codes "the last segment number, or the range of time, is passed"
packing_words texts stalls settings packing.Outlet = codes "the output can't be written: missing, not writable, closed, or full"
packing_words texts stalls settings packing.NoMemory = codes "out of memory"
packing_words texts stalls settings (packing.Held r n) = rendition_text (entry_at texts r) ++ segment_text n (codes "was held back")
