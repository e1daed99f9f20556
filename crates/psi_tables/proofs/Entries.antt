-- The entries of a PAT and of a PMT, one behind another.
use Rattle.std.proofs.Common.{◌≡◌, ℕ, zero, suc, ◌+◌, ◌-◌, ◌*◌, ◌/◌, ◌%◌, ◌<◌, ◌≤◌, ◌≢◌, Bool, true, ◌==◌, List, [], ◌∷◌, ◌++◌, length, take, drop, get_or, refl, sym, ◌∙◌, ap, arith, append_assoc, Option, Some, None, is_some, IsSome, inl, inr}
use Rattle.ghost_list.proofs.Chunks.{chunk_at}
use Rattle.std.specs.Option.{option_map}
use Rattle.std.specs.Simd.{first_chunks}
use Rattle.std.proofs.lemmas.Bool.{eqb-true, cases_lt}
use Rattle.std.proofs.lemmas.Bool.Decides.{eqb_tells}
use Rattle.std.proofs.lemmas.List.{append-nil, drop-drop, length-drop, get_or-drop, drop_all}
use Rattle.psi_tables.specs.Section.{number_at, pid_at, length_at}
use Rattle.psi_tables.specs.declared.pat.ProgramEntry.{ProgramEntry}
use Rattle.psi_tables.specs.declared.pmt.StreamEntry.{StreamEntry}
use Rattle.psi_tables.specs.Association.{programs}
use Rattle.psi_tables.specs.ProgramMap.{streams}

-- these entries, and those that come behind them
abbrev pub behind : {A : Type 0} → List A → Option (List A) → Option (List A)
behind before after = option_map (λ entries. before ++ entries) after

-- no entries before
pub behind-start : {A : Type 0} (after : Option (List A)) → after ≡ behind [] after
behind-start None = refl
behind-start (Some entries) = refl

-- one entry more is known
behind-push : {A : Type 0} (before : List A) (entry : A) (after : Option (List A)) →
    behind before (option_map (λ entries. entry ∷ entries) after) ≡ behind (before ++ entry ∷ []) after
behind-push before entry None = refl
behind-push before entry (Some entries) = ap Some (sym (append_assoc before (entry ∷ []) entries))

-- nothing comes behind
behind-none : {A : Type 0} (all after : Option (List A)) (before : List A) → all ≡ behind before after → after ≡ Some [] → all ≡ Some before
behind-none all after before so_far rest = so_far ∙ ap (behind before) rest ∙ ap Some (append-nil before)

-- the two bytes at a place of what lies behind another place
number_there : (bytes : List ℕ) (at i : ℕ) → number_at (drop at bytes) i ≡ number_at bytes (at + i)
number_there bytes at i =
    let one : get_or (drop at bytes) i 0 ≡ get_or bytes (at + i) 0 = get_or-drop at bytes i 0 in
    let two : get_or (drop at bytes) (i + 1) 0 ≡ get_or bytes (at + (i + 1)) 0 = get_or-drop at bytes (i + 1) 0 in
    let place : get_or bytes (at + (i + 1)) 0 ≡ get_or bytes (at + i + 1) 0 = ap (λ (k : ℕ). get_or bytes k 0) (let e : at + (i + 1) ≡ at + i + 1 = omega arith in e) in
    omega arith

-- PAT

abbrev first_program : List ℕ → ProgramEntry
first_program s = record { program = number_at s 0; pid = pid_at s 2 }

one_program : (s : List ℕ) → 4 ≤ length s → programs s ≡ option_map (λ entries. first_program s ∷ entries) (programs (drop 4 s))
unfolding programs
one_program [] long = absurd (omega arith)
one_program (a ∷ []) long = absurd (omega arith)
one_program (a ∷ b ∷ []) long = absurd (omega arith)
one_program (a ∷ b ∷ c ∷ []) long = absurd (omega arith)
one_program (a ∷ b ∷ c ∷ d ∷ s) long = refl

is_some-map : {A B : Type 0} (f : A → B) (o : Option A) → is_some (option_map f o) ≡ is_some o
is_some-map f None = refl
is_some-map f (Some x) = refl

four_more : (n : ℕ) → (suc (suc (suc (suc n))) % 4 == 0) ≡ (n % 4 == 0)
four_more n = ap (λ (k : ℕ). k == 0) (let e : suc (suc (suc (suc n))) % 4 ≡ n % 4 = omega arith in e)

-- the entries of a PAT are whole where their bytes are fours
pub is_some-programs : (s : List ℕ) → is_some (programs s) ≡ (length s % 4 == 0)
unfolding programs
is_some-programs [] = refl
is_some-programs (a ∷ []) = refl
is_some-programs (a ∷ b ∷ []) = refl
is_some-programs (a ∷ b ∷ c ∷ []) = refl
is_some-programs (a ∷ b ∷ c ∷ d ∷ s) = is_some-map _ (programs s) ∙ is_some-programs s ∙ sym (four_more (length s))

few_programs : (s : List ℕ) → length s < 4 → IsSome (programs s) → programs s ≡ Some []
unfolding programs
few_programs [] few whole = refl
few_programs (a ∷ []) few whole = cc
few_programs (a ∷ b ∷ []) few whole = cc
few_programs (a ∷ b ∷ c ∷ []) few whole = cc
few_programs (a ∷ b ∷ c ∷ d ∷ s) few whole = absurd (omega arith)

-- an entry that stands before others is one
one_more : {A : Type 0} (before : List A) (entry : A) (after : Option (List A)) → behind before (option_map (λ entries. entry ∷ entries) after) ≢ Some []
one_more before entry None is = cc
one_more [] entry (Some entries) is = cc
one_more (x ∷ before) entry (Some entries) is = cc

-- four bytes are an entry of a PAT
pub some_program : (s : List ℕ) → 4 ≤ length s → programs s ≢ Some []
some_program s long none = one_more [] (first_program s) (programs (drop 4 s)) (sym (behind-start _) ∙ sym (one_program s long) ∙ none)

-- four bytes tell their entry
first_of_four : (s : List ℕ) → 4 ≤ length s → first_program (take 4 s) ≡ first_program s
first_of_four [] long = absurd (omega arith)
first_of_four (a ∷ []) long = absurd (omega arith)
first_of_four (a ∷ b ∷ []) long = absurd (omega arith)
first_of_four (a ∷ b ∷ c ∷ []) long = absurd (omega arith)
first_of_four (a ∷ b ∷ c ∷ d ∷ s) long = refl

-- a step over one entry of a PAT, its four bytes
pub next_program : (bytes four : List ℕ) (i : ℕ) (entries : List ProgramEntry) (entry : ProgramEntry) →
    programs bytes ≡ behind entries (programs (drop (4 * i) bytes)) → i < length bytes / 4 →
    four ≡ get_or (first_chunks 4 (length bytes / 4) bytes) i [] → entry ≡ record { program = number_at four 0; pid = pid_at four 2 } →
    programs bytes ≡ behind (entries ++ entry ∷ []) (programs (drop (4 * (i + 1)) bytes))
next_program bytes four i entries entry so_far within is told =
    let s = drop (4 * i) bytes in
    let long : length s ≡ length bytes - 4 * i = length-drop (4 * i) bytes in
    let there : four ≡ take 4 s = is ∙ chunk_at 4 (length bytes / 4) i bytes [] within in
    let first : first_program s ≡ entry = sym (first_of_four s (omega arith)) ∙ ap first_program (sym there) ∙ sym told in
    let skip : 4 * i + 4 ≡ 4 * (i + 1) = omega arith in
    so_far ∙ ap (behind entries) (one_program s (omega arith))
    ∙ behind-push entries (first_program s) (programs (drop 4 s))
    ∙ ap (λ (e : ProgramEntry). behind (entries ++ e ∷ []) (programs (drop 4 s))) first
    ∙ ap (λ (t : List ℕ). behind (entries ++ entry ∷ []) (programs t)) (drop-drop 4 (4 * i) bytes ∙ ap (λ (m : ℕ). drop m bytes) skip)

-- where fewer bytes are left than an entry takes, all entries of a PAT are known
pub last_program : (bytes : List ℕ) (at : ℕ) (entries : List ProgramEntry) → programs bytes ≡ behind entries (programs (drop at bytes)) → length bytes < at + 4 →
    IsSome (programs bytes) → programs bytes ≡ Some entries
last_program bytes at entries so_far over whole =
    let s = drop at bytes in
    let long : length s ≡ length bytes - at = length-drop at bytes in
    let rest : IsSome (programs s) = sym (is_some-map _ (programs s)) ∙ sym (ap is_some so_far) ∙ whole in
    behind-none (programs bytes) (programs s) entries so_far (few_programs s (omega arith) rest)

-- PMT

-- descriptors that are left are passed over
over_descriptors : (n : ℕ) (s : List ℕ) → streams n s ≡ streams (n - length s) (drop n s)
unfolding streams
over_descriptors zero s = ap (λ (k : ℕ). streams k s) (let e : 0 ≡ 0 - length s = omega arith in e)
over_descriptors (suc n) [] = ap (λ (k : ℕ). streams k []) (let e : suc n ≡ suc n - 0 = omega arith in e)
over_descriptors (suc n) (a ∷ s) = over_descriptors n s ∙ ap (λ (k : ℕ). streams k (drop n s)) (let e : n - length s ≡ suc n - suc (length s) = omega arith in e)

abbrev first_stream : List ℕ → StreamEntry
first_stream s = record { stream_type = get_or s 0 0; pid = pid_at s 1 }

one_stream : (s : List ℕ) → 5 ≤ length s → streams 0 s ≡ option_map (λ entries. first_stream s ∷ entries) (streams (length_at s 3) (drop 5 s))
unfolding streams
one_stream [] long = absurd (omega arith)
one_stream (a ∷ []) long = absurd (omega arith)
one_stream (a ∷ b ∷ []) long = absurd (omega arith)
one_stream (a ∷ b ∷ c ∷ []) long = absurd (omega arith)
one_stream (a ∷ b ∷ c ∷ d ∷ []) long = absurd (omega arith)
one_stream (a ∷ b ∷ c ∷ d ∷ e ∷ s) long = refl

few_streams : (s : List ℕ) → 0 < length s → length s < 5 → streams 0 s ≡ None
unfolding streams
few_streams [] some few = absurd (omega arith)
few_streams (a ∷ []) some few = refl
few_streams (a ∷ b ∷ []) some few = refl
few_streams (a ∷ b ∷ c ∷ []) some few = refl
few_streams (a ∷ b ∷ c ∷ d ∷ []) some few = refl
few_streams (a ∷ b ∷ c ∷ d ∷ e ∷ s) some few = absurd (omega arith)

no_streams : streams 0 [] ≡ Some []
unfolding streams
no_streams = refl

cut_descriptors : (n : ℕ) → 0 < n → streams n [] ≡ None
unfolding streams
cut_descriptors zero some = absurd (omega arith)
cut_descriptors (suc n) some = refl

-- the entries of a PMT from a place on, which may lie behind the end
abbrev pub streams_from : ℕ → List ℕ → Option (List StreamEntry)
streams_from at bytes = streams (at - length bytes) (drop at bytes)

pub from_start : (descriptors : ℕ) (bytes : List ℕ) → streams descriptors bytes ≡ streams_from descriptors bytes
from_start descriptors bytes = over_descriptors descriptors bytes

-- one entry of a PMT at a place
stream_there : (bytes : List ℕ) (at n : ℕ) → at + 5 ≤ length bytes → n ≡ length_at bytes (at + 3) →
    streams_from at bytes ≡ option_map (λ entries. first_stream (drop at bytes) ∷ entries) (streams_from (at + (5 + n)) bytes)
stream_there bytes at n within is =
    let s = drop at bytes in
    let long : length s ≡ length bytes - at = length-drop at bytes in
    let rest_long : length (drop 5 s) ≡ length s - 5 = length-drop 5 s in
    let here : at - length bytes ≡ 0 = omega arith in
    let descriptors : length_at s 3 ≡ n = ap (λ (k : ℕ). k % 4096) (number_there bytes at 3) ∙ sym is in
    let left : n - length (drop 5 s) ≡ at + (5 + n) - length bytes = omega arith in
    let place : drop n (drop 5 s) ≡ drop (at + (5 + n)) bytes = drop-drop n 5 s ∙ drop-drop (5 + n) at bytes in
    ap (λ (k : ℕ). streams k s) here ∙ one_stream s (omega arith)
    ∙ ap (option_map (λ entries. first_stream s ∷ entries))
    (ap (λ (k : ℕ). streams k (drop 5 s)) descriptors ∙ over_descriptors n (drop 5 s)
    ∙ ap (λ (k : ℕ). streams k (drop n (drop 5 s))) left ∙ ap (streams (at + (5 + n) - length bytes)) place)

-- a step over one entry of a PMT
pub next_stream : (bytes : List ℕ) (at n : ℕ) (all : Option (List StreamEntry)) (entries : List StreamEntry) (entry : StreamEntry) → all ≡ behind entries (streams_from at bytes) →
    at + 5 ≤ length bytes → n ≡ length_at bytes (at + 3) → entry ≡ record { stream_type = get_or bytes at 0; pid = pid_at bytes (at + 1) } →
    all ≡ behind (entries ++ entry ∷ []) (streams_from (at + (5 + n)) bytes)
next_stream bytes at n all entries entry so_far within descriptors is =
    let s = drop at bytes in
    let here : get_or s 0 0 ≡ get_or bytes at 0 = get_or-drop at bytes 0 0 ∙ ap (λ (k : ℕ). get_or bytes k 0) (let e : at + 0 ≡ at = omega arith in e) in
    let behind_it : number_at s 1 ≡ number_at bytes (at + 1) = number_there bytes at 1 in
    let first : first_stream s ≡ entry = cc in
    so_far ∙ ap (behind entries) (stream_there bytes at n within descriptors)
    ∙ behind-push entries (first_stream s) (streams_from (at + (5 + n)) bytes)
    ∙ ap (λ (e : StreamEntry). behind (entries ++ e ∷ []) (streams_from (at + (5 + n)) bytes)) first

-- where five bytes are left there is an entry of a PMT
pub some_stream : (bytes : List ℕ) (at : ℕ) (all : Option (List StreamEntry)) (entries : List StreamEntry) → all ≡ behind entries (streams_from at bytes) →
    at + 5 ≤ length bytes → all ≢ Some []
some_stream bytes at all entries so_far within none =
    let n = length_at bytes (at + 3) in
    one_more entries (first_stream (drop at bytes)) (streams_from (at + (5 + n)) bytes) (sym (ap (behind entries) (stream_there bytes at n within refl)) ∙ sym so_far ∙ none)

-- the same where only the end is looked for
pub next_end : (bytes : List ℕ) (at n : ℕ) (whole : Bool) → whole ≡ is_some (streams_from at bytes) → at + 5 ≤ length bytes → n ≡ length_at bytes (at + 3) →
    whole ≡ is_some (streams_from (at + (5 + n)) bytes)
next_end bytes at n whole so_far within descriptors =
    so_far ∙ ap is_some (stream_there bytes at n within descriptors) ∙ is_some-map _ (streams_from (at + (5 + n)) bytes)

at_end : (bytes : List ℕ) (at : ℕ) → at ≡ length bytes → streams_from at bytes ≡ Some []
at_end bytes at is =
    let none : at - length bytes ≡ 0 = omega arith in
    ap (λ (k : ℕ). streams k (drop at bytes)) none ∙ ap (streams 0) (drop_all at bytes (omega arith)) ∙ no_streams

not_at_end : (bytes : List ℕ) (at : ℕ) → length bytes < at + 5 → at ≢ length bytes → streams_from at bytes ≡ None
not_at_end bytes at over other =
    elim (cases_lt at (length bytes)) [
      | inl before ↦
          let long : length (drop at bytes) ≡ length bytes - at = length-drop at bytes in
          let none : at - length bytes ≡ 0 = omega arith in
          ap (λ (k : ℕ). streams k (drop at bytes)) none ∙ few_streams (drop at bytes) (omega arith) (omega arith)
      | inr past ↦ ap (streams (at - length bytes)) (drop_all at bytes past) ∙ cut_descriptors (at - length bytes) (omega arith)
    ]

-- where fewer bytes are left than an entry takes, the entries end with the bytes or not at all
pub last_end : (bytes : List ℕ) (at : ℕ) (whole : Bool) → whole ≡ is_some (streams_from at bytes) → length bytes < at + 5 → (at == length bytes) ≡ whole
last_end bytes at whole so_far over =
    elim (eqb_tells at (length bytes)) [
      | inl t ↦ t.0 ∙ sym (so_far ∙ ap is_some (at_end bytes at t.1))
      | inr t ↦ t.0 ∙ sym (so_far ∙ ap is_some (not_at_end bytes at over t.1))
    ]

-- all entries of a PMT are known
pub last_stream : (bytes : List ℕ) (at : ℕ) (all : Option (List StreamEntry)) (entries : List StreamEntry) → all ≡ behind entries (streams_from at bytes) → length bytes < at + 5 →
    IsSome all → all ≡ Some entries
last_stream bytes at all entries so_far over whole =
    let rest : is_some (streams_from at bytes) ≡ true = sym (is_some-map _ (streams_from at bytes)) ∙ sym (ap is_some so_far) ∙ whole in
    let end : at ≡ length bytes = eqb-true at (length bytes) (last_end bytes at (is_some (streams_from at bytes)) refl over ∙ rest) in
    behind-none all (streams_from at bytes) entries so_far (at_end bytes at end)
