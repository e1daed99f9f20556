-- What a head tells of its tables.
use Rattle.std.proofs.Common.{◌≡◌, ℕ, zero, suc, ◌+◌, ◌-◌, ◌*◌, ◌/◌, ◌%◌, ◌≤◌, ◌++◌, ◌∷◌, [], ◌∙◌, ◌==◌, ◌&&◌, not, nat_lt, nat_le, Bool, true, false, List, None, length, take, drop, slice_index, ap, sym, refl, arith, rules}
use Rattle.std.specs.Prelude.{replicate, is_none, get_or}
use Rattle.std.proofs.lemmas.List.{length-drop, length-take, length-append, length-replicate, take-append-drop, append_assoc}
use Rattle.std.proofs.Math.Seq.{take-append_seam, drop-append_seam}
use Rattle.psi_tables.specs.Section.{first_standing, frame_faults, length_at}
use Rattle.psi_tables.specs.ProgramMap.{pmt_fault, entries_of}
use Rattle.psi_tables.specs.InForce.{InForce}
use Rattle.psi_tables.specs.Head.{header, stuffed, packets, packet_count, section_packets, pat_section, head, IsSendable, IsSameHead}
use Rattle.psi_tables.specs.declared.fault.TableFault.{TableFault}
use Rattle.psi_tables.specs.declared.fault.TableFault.TheVariants.{BadLengths}

-- equal lists whose fronts are as long
pub fronts : (a b c d : List ℕ) → length a ≡ length b → a ++ c ≡ b ++ d → (a ≡ b) × (c ≡ d)
fronts a b c d long same = (
  sym (take-append_seam a c) ∙ ap (take (length a)) same ∙ ap (λ n. take n (b ++ d)) long ∙ take-append_seam b d,
  sym (drop-append_seam a c) ∙ ap (drop (length a)) same ∙ ap (λ n. drop n (b ++ d)) long ∙ drop-append_seam b d,
)

-- a payload has 184 bytes
pub length-stuffed : (bytes : List ℕ) → length (stuffed bytes) ≡ 184
length-stuffed bytes =
    length-append (take 184 bytes) (replicate (184 - length bytes) 255)
    ∙ rw (length-take 184 bytes, length-replicate {A = ℕ} (184 - length bytes) 255) (omega arith)

-- a payload tells its bytes, where their number is known
stuffed-tells : (x y : List ℕ) → length x ≡ length y → stuffed x ≡ stuffed y → take 184 x ≡ take 184 y
stuffed-tells x y long same =
    (fronts (take 184 x) (take 184 y) _ _ (length-take 184 x ∙ rw long refl ∙ sym (length-take 184 y)) same).0

-- what stands behind the first of some packets
pub packets-first : (n : ℕ) (starts : Bool) (pid counter : ℕ) (bytes rest : List ℕ)
    → packets (suc n) starts pid counter bytes ++ rest
    ≡ header starts pid counter ++ (stuffed bytes ++ (packets n false pid (counter + 1) (drop 184 bytes) ++ rest))
unfolding packets
packets-first n starts pid counter bytes rest =
    append_assoc (header starts pid counter ++ stuffed bytes) _ rest ∙ append_assoc (header starts pid counter) (stuffed bytes) _

-- each packet has 188 bytes
pub length-packets : (n : ℕ) (starts : Bool) (pid counter : ℕ) (bytes : List ℕ) → length (packets n starts pid counter bytes) ≡ 188 * n
unfolding packets
length-packets zero starts pid counter bytes = refl
length-packets (suc n) starts pid counter bytes =
    length-append (header starts pid counter ++ stuffed bytes) _
    ∙ rw (length-append (header starts pid counter) (stuffed bytes), length-stuffed bytes, length-packets n false pid (counter + 1) (drop 184 bytes)) (omega arith)

pub length-head : (t : InForce) (a b : ℕ) → length (head t a b) ≡ 188 * (1 + packet_count t.section)
unfolding head
length-head t a b =
    length-append (section_packets 0 a (pat_section t.stream_id t.program t.pmt_pid)) _
    ∙ rw (length-packets 1 true 0 a (0 ∷ pat_section t.stream_id t.program t.pmt_pid), length-packets (packet_count t.section) true t.pmt_pid b (0 ∷ t.section)) (omega arith)

-- lists of no bytes
empties : (x y : List ℕ) → length x ≡ 0 → length y ≡ 0 → x ≡ y
empties [] [] _ _ = refl
empties (a ∷ x) y e _ = absurd (omega (arith, e))
empties [] (b ∷ y) _ e = absurd (omega (arith, e))

-- packets tell the bytes that they carry, where their number is known, and what stands behind
pub packets-tell : (n : ℕ) (starts : Bool) (pid c d : ℕ) (x y rest other : List ℕ) → length x ≡ length y → length x ≤ 184 * n
    → packets n starts pid c x ++ rest ≡ packets n starts pid d y ++ other → (x ≡ y) × (rest ≡ other)
unfolding packets
packets-tell zero starts pid c d x y rest other long few same = (empties x y (omega (arith, few)) (omega (arith, few, long)), same)
packets-tell (suc n) starts pid c d x y rest other long few same =
    let both = sym (packets-first n starts pid c x rest) ∙ same ∙ packets-first n starts pid d y other in
    let payloads = (fronts (header starts pid c) (header starts pid d) _ _ refl both).1 in
    let parts = fronts (stuffed x) (stuffed y) _ _ (length-stuffed x ∙ sym (length-stuffed y)) payloads in
    let later = packets-tell n false pid (c + 1) (d + 1) (drop 184 x) (drop 184 y) rest other
    (length-drop 184 x ∙ rw long refl ∙ sym (length-drop 184 y)) (rw (length-drop 184 x) (omega (arith, few))) parts.1 in
    (sym (take-append-drop 184 x) ∙ rw (stuffed-tells x y long parts.0, later.0) refl ∙ take-append-drop 184 y, later.1)

-- where no fault stands, each test is false
each_false : (faults : List (TableFault × Bool)) (i : ℕ) → first_standing faults ≡ None → (get_or faults i (BadLengths, false)).1 ≡ false
each_false [] i none = refl
each_false ((fault, false) ∷ faults) zero none = refl
each_false ((fault, false) ∷ faults) (suc i) none = each_false faults i none
each_false ((fault, true) ∷ faults) i none = search rules

-- a section as long as it says
pub record IsSized (s : List ℕ) : Type 0 where
  pub fields : 16 ≤ length s
  pub whole : 3 + length_at s 1 ≡ length s

-- so is a good one
pub sized : (s : List ℕ) → pmt_fault s ≡ None → IsSized s
sized s none =
    let tests = frame_faults 16 2 s ++ (BadLengths, is_none (entries_of s)) ∷ [] in
    let short : nat_lt (length s) 16 ≡ false = each_false tests 0 none in
    let lengths : not ((3 + length_at s 1 == length s) && nat_le (length_at s 1) 1021) ≡ false = each_false tests 5 none in
    record { fields = search (short, rules); whole = search (lengths, rules) }

-- the first payload tells the section_length
length-told : (x : List ℕ) → 16 ≤ length x → length_at (drop 1 (stuffed (0 ∷ x))) 1 ≡ length_at x 1
length-told [] fields = absurd (omega (arith, fields))
length-told (p ∷ []) fields = absurd (omega (arith, fields))
length-told (p ∷ q ∷ []) fields = absurd (omega (arith, fields))
length-told (p ∷ q ∷ r ∷ x) fields = refl

-- the packets of a section, and what stands behind the first
pub section-first : (pid counter : ℕ) (x rest : List ℕ)
    → section_packets pid counter x ++ rest
    ≡ header true pid counter ++ (stuffed (0 ∷ x) ++ (packets (length x / 184) false pid (counter + 1) (drop 184 (0 ∷ x)) ++ rest))
section-first pid counter x rest =
    let count : packet_count x ≡ suc (length x / 184) = omega arith in
    rw count (packets-first (length x / 184) true pid counter (0 ∷ x) rest)

-- the packets of a section tell it, and their counter
pub section-tells : (pid b d : ℕ) (x y rest other : List ℕ) → IsSized x → IsSized y
    → section_packets pid b x ++ rest ≡ section_packets pid d y ++ other → (b % 16 ≡ d % 16) × (x ≡ y) × (rest ≡ other)
section-tells pid b d x y rest other sx sy same =
    let both = sym (section-first pid b x rest) ∙ same ∙ section-first pid d y other in
    let headers = fronts (header true pid b) (header true pid d) _ _ refl both in
    let payloads = fronts (stuffed (0 ∷ x)) (stuffed (0 ∷ y)) _ _ (length-stuffed (0 ∷ x) ∙ sym (length-stuffed (0 ∷ y))) headers.1 in
    let lengths = sym (length-told x sx.fields) ∙ ap (λ payload. length_at (drop 1 payload) 1) payloads.0 ∙ length-told y sy.fields in
    let long : length x ≡ length y = sym sx.whole ∙ ap (λ n. 3 + n) lengths ∙ sy.whole in
    let packets_y : section_packets pid d y ≡ packets (packet_count x) true pid d (0 ∷ y) = rw long refl in
    let tells = packets-tell (packet_count x) true pid b d (0 ∷ x) (0 ∷ y) rest other (ap suc long) (omega arith) (same ∙ ap (λ list. list ++ other) packets_y) in
    let counter : 16 + b % 16 ≡ 16 + d % 16 = ap (λ list. slice_index list 3) headers.0 in
    (omega (arith, counter), ap (drop 1) tells.0, tells.1)

-- tables are their fields
same-tables : (t u : InForce) → t.stream_id ≡ u.stream_id → t.program ≡ u.program → t.pmt_pid ≡ u.pmt_pid → t.section ≡ u.section → t ≡ u
same-tables t u a b c d = λ i. record { stream_id = a i; program = b i; pmt_pid = c i; section = d i }

-- the bytes of the one PAT packet
abbrev pat-first : InForce → ℕ → List ℕ
pat-first t a = header true 0 a ++ (stuffed (0 ∷ pat_section t.stream_id t.program t.pmt_pid))

pub head-first : (t : InForce) (a b : ℕ) (rest : List ℕ)
    → head t a b ++ rest ≡ pat-first t a ++ (section_packets t.pmt_pid b t.section ++ rest)
unfolding packets head
head-first t a b rest = refl

-- one head begins bytes
pub heads-tell : (t u : InForce) (a b c d : ℕ) (rest other : List ℕ) → IsSendable t → IsSendable u
    → head t a b ++ rest ≡ head u c d ++ other → IsSameHead t u a b c d rest other
heads-tell t u a b c d rest other good_t good_u same =
    let parts = fronts (pat-first t a) (pat-first u c) _ _ refl (sym (head-first t a b rest) ∙ same ∙ head-first u c d other) in
    let at = λ (i : ℕ). ap (λ list. slice_index list i) parts.0 in
    let stream_id : t.stream_id ≡ u.stream_id = omega (arith, at 8, at 9, good_t.stream_id, good_u.stream_id) in
    let program : t.program ≡ u.program = omega (arith, at 13, at 14, good_t.program, good_u.program) in
    let pmt_pid : t.pmt_pid ≡ u.pmt_pid = omega (arith, at 15, at 16, good_t.pmt_pid, good_u.pmt_pid) in
    let sections = parts.1 ∙ ap (λ pid. section_packets pid d u.section ++ other) (sym pmt_pid) in
    let tells = section-tells t.pmt_pid b d t.section u.section rest other (sized t.section good_t.section) (sized u.section good_u.section) sections in
    record {
      tables = same-tables t u stream_id program pmt_pid tells.1;
      pat_counter = omega (arith, at 3);
      pmt_counter = tells.0;
      behind = tells.2;
    }
