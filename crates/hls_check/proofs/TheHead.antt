-- The one head that a text may begin with.
use Rattle.std.proofs.Common.{◌≡◌, ◌≢◌, ℕ, zero, suc, ◌+◌, ◌%◌, ◌≤◌, Bool, true, false, List, [], ◌∷◌, ◌++◌, length, take, drop, slice_index, Option, Some, None, refl, sym, ap, ◌∙◌, arith, length-append}
use Rattle.std.specs.Prelude.{MatchOption}
use denote.Bor.{Bor}
use Rattle.std.proofs.Math.Seq.{take-append_seam, drop-append_seam}
use Rattle.psi_tables.specs.Section.{number_at, pid_at}
use Rattle.psi_tables.specs.InForce.{InForce}
use Rattle.psi_tables.specs.Head.{header, stuffed, packets, section_packets, packet_count, head, pat_section, IsSendable}
use Rattle.psi_tables.proofs.Heads.{head-first, section-first, length-head, sized}
use Rattle.hls_check.specs.Unpacking.{BeginsWithHead}
use Rattle.hls_check.specs.Heads.{IsSized, IsTheHead, MayHoldHead, told_tables}
use Rattle.hls_check.proofs.Payloads.{number-told, length-section}

-- counters count modulo 16
packets-counter : (n : ℕ) (starts : Bool) (pid c d : ℕ) (bytes : List ℕ) → c % 16 ≡ d % 16 → packets n starts pid c bytes ≡ packets n starts pid d bytes
unfolding packets
packets-counter zero starts pid c d bytes same = refl
packets-counter (suc n) starts pid c d bytes same =
    let next : (c + 1) % 16 ≡ (d + 1) % 16 = omega arith in
    rw (same, packets-counter n false pid (c + 1) (d + 1) (drop 184 bytes) next) refl

-- a head by tables and counters that are the same
head-same : (t u : InForce) (a b c d : ℕ) → t ≡ u → a % 16 ≡ c % 16 → b % 16 ≡ d % 16 → head t a b ≡ head u c d
unfolding head
head-same t u a b c d tables pat pmt =
    ap (λ x. head x a b) tables
    ∙ ap (λ x. x ++ section_packets u.pmt_pid b u.section) (packets-counter 1 true 0 a c (0 ∷ pat_section u.stream_id u.program u.pmt_pid) pat)
    ∙ ap (λ x. section_packets 0 c (pat_section u.stream_id u.program u.pmt_pid) ++ x) (packets-counter (packet_count u.section) true u.pmt_pid b d (0 ∷ u.section) pmt)

-- a text that begins with a head has at least two packets
pub begins-long : (text rest : List ℕ) → BeginsWithHead text rest → 376 ≤ length text
begins-long text rest begins =
    omega (arith, ap length begins.whole, length-append (head begins.tables begins.pat_counter begins.pmt_counter) rest, length-head begins.tables begins.pat_counter begins.pmt_counter)

-- the packet of its PAT
abbrev pat_packet : InForce → ℕ → List ℕ
pat_packet t a = header true 0 a ++ (stuffed (0 ∷ pat_section t.stream_id t.program t.pmt_pid))

-- what stands in the packet of the PAT, and behind it
pub begins-pat : (text rest : List ℕ) (begins : BeginsWithHead text rest) → take 188 text ≡ pat_packet begins.tables begins.pat_counter
begins-pat text rest begins =
    let t = begins.tables in
    let first = pat_packet t begins.pat_counter in
    let behind = section_packets t.pmt_pid begins.pmt_counter t.section ++ rest in
    ap (take 188) (begins.whole ∙ head-first t begins.pat_counter begins.pmt_counter rest) ∙ take-append_seam first behind

pub begins-pmt : (text rest : List ℕ) (begins : BeginsWithHead text rest)
    → drop 188 text ≡ section_packets begins.tables.pmt_pid begins.pmt_counter begins.tables.section ++ rest
begins-pmt text rest begins =
    let t = begins.tables in
    let first = pat_packet t begins.pat_counter in
    let behind = section_packets t.pmt_pid begins.pmt_counter t.section ++ rest in
    ap (drop 188) (begins.whole ∙ head-first t begins.pat_counter begins.pmt_counter rest) ∙ drop-append_seam first behind

-- its section is as long as it tells
pub begins-sized : (text rest : List ℕ) (begins : BeginsWithHead text rest) → IsSized begins.tables.section
begins-sized text rest begins =
    let is = sized begins.tables.section begins.sendable.section in
    record { fields = is.fields; whole = is.whole }

-- and all of its packets are there
pub begins-holds : (text rest : List ℕ) → BeginsWithHead text rest → MayHoldHead text
begins-holds text rest begins =
    let t = begins.tables in
    let same = begins-pmt text rest begins in
    let its = begins-sized text rest begins in
    let told = ap (λ x. number_at x 6) same ∙ number-told t.pmt_pid begins.pmt_counter t.section rest its.fields in (
      begins-long text rest begins,
      omega (arith, told, its.whole, length-section t.pmt_pid begins.pmt_counter t.section rest, ap length same),
    )

-- tables are their fields
same-tables : (t u : InForce) → t.stream_id ≡ u.stream_id → t.program ≡ u.program → t.pmt_pid ≡ u.pmt_pid → t.section ≡ u.section → t ≡ u
same-tables t u a b c d = λ i. record { stream_id = a i; program = b i; pmt_pid = c i; section = d i }

-- a head is that of the tables and counters that stand in it
pub begins-told : (text rest pat behind section : List ℕ) (begins : BeginsWithHead text rest) → pat ≡ take 188 text → behind ≡ drop 188 text → section ≡ begins.tables.section
    → text ≡ head (told_tables pat section) (slice_index pat 3) (slice_index behind 3) ++ rest
begins-told text rest pat behind section begins front back carried =
    let t = begins.tables in
    let in_pat = front ∙ begins-pat text rest begins in
    let in_pmt = back ∙ begins-pmt text rest begins ∙ section-first t.pmt_pid begins.pmt_counter t.section rest in
    let at = λ (i : ℕ). ap (λ list. slice_index list i) in_pat in
    let third : slice_index behind 3 ≡ 16 + begins.pmt_counter % 16 = ap (λ list. slice_index list 3) in_pmt in
    let good = begins.sendable in
    let stream_id : t.stream_id ≡ number_at pat 8 = omega (arith, at 8, at 9, good.stream_id) in
    let program : t.program ≡ number_at pat 13 = omega (arith, at 13, at 14, good.program) in
    let pmt_pid : t.pmt_pid ≡ pid_at pat 15 = omega (arith, at 15, at 16, good.pmt_pid) in
    let tables = same-tables t (told_tables pat section) stream_id program pmt_pid (sym carried) in
    let pat_counter : begins.pat_counter % 16 ≡ slice_index pat 3 % 16 = omega (arith, at 3) in
    let pmt_counter : begins.pmt_counter % 16 ≡ slice_index behind 3 % 16 = omega (arith, third) in
    begins.whole
    ∙ ap (λ x. x ++ rest) (head-same t (told_tables pat section) begins.pat_counter begins.pmt_counter (slice_index pat 3) (slice_index behind 3) tables pat_counter pmt_counter)

-- what stands behind the only head that there may be
pub behind-the-head : (text bytes : List ℕ) (r : Option (Bor (List ℕ))) → IsTheHead text bytes
    → MatchOption r ((rest : List ℕ) → text ≢ bytes ++ rest) (λ rest. text ≡ bytes ++ rest.now)
    → MatchOption r ((rest : List ℕ) → ¬ BeginsWithHead text rest) (λ rest. BeginsWithHead text rest.now)
behind-the-head text bytes None is none = λ rest begins. none rest (is.only rest begins)
behind-the-head text bytes (Some rest) is same = record {
  tables = is.tables;
  pat_counter = is.pat_counter;
  pmt_counter = is.pmt_counter;
  sendable = is.sendable;
  whole = same ∙ ap (λ x. x ++ rest.now) is.is;
}

-- a head that was made of the tables and counters that a text tells is the only one it may begin with
pub the-head-made : (text pat section read bytes : List ℕ) (a b : ℕ) → read ≡ section → IsSendable (told_tables pat read)
    → bytes ≡ head (told_tables pat read) a b
    → ((rest : List ℕ) → BeginsWithHead text rest → text ≡ head (told_tables pat section) a b ++ rest)
    → IsTheHead text bytes
the-head-made text pat section read bytes a b same sendable made told = record {
  tables = told_tables pat read;
  pat_counter = a;
  pmt_counter = b;
  sendable = sendable;
  is = made;
  only = λ rest begins. told rest begins ∙ ap (λ s. head (told_tables pat s) a b ++ rest) (sym same) ∙ ap (λ x. x ++ rest) (sym made);
}

-- the head that is made of what stands in a packet
pub made-of : (pat section read start first all : List ℕ) (a b m n k : ℕ) → m ≡ number_at pat 8 → n ≡ number_at pat 13 → k ≡ pid_at pat 15
    → read ≡ pat_section m n k → start ≡ [] → first ≡ start ++ section_packets 0 a read
    → all ≡ first ++ section_packets k b section → all ≡ head (told_tables pat section) a b
unfolding head
made-of pat section read start first all a b m n k stream_id program pmt_pid made none begun whole =
    whole
    ∙ ap (λ x. x ++ section_packets k b section)
    (begun ∙ ap (λ x. x ++ section_packets 0 a read) none ∙ ap (section_packets 0 a) made)
    ∙ ap (λ x. section_packets 0 a (pat_section x n k) ++ section_packets k b section) stream_id
    ∙ ap (λ x. section_packets 0 a (pat_section (number_at pat 8) x k) ++ section_packets k b section) program
    ∙ ap (λ x. section_packets 0 a (pat_section (number_at pat 8) (number_at pat 13) x) ++ section_packets x b section) pmt_pid
