-- The head of a segment is made of bytes.
use Rattle.std.proofs.Common.{ℕ, zero, suc, ◌+◌, ◌-◌, ◌%◌, ◌/◌, ◌^◌, ◌<◌, Bool, List, [], ◌∷◌, ◌++◌, length, take, drop, replicate, arith}
use Rattle.std.specs.Prelude.{if◌then◌else◌}
use Rattle.std.specs.Int.{byte_at, bytes_high_first}
use Rattle.std.proofs.lemmas.List.Elements.{All-nil, All-cons, All-append, All-take, All-drop, All-replicate}
use Rattle.std.proofs.Math.Nat.{mod-lt}
use Rattle.ghost_list.specs.Bytes.{IsByte, AreBytes}
use Rattle.psi_tables.specs.InForce.{InForce}
use Rattle.psi_tables.specs.Crc.{crc}
use Rattle.psi_tables.specs.Head.{header, stuffed, packets, packet_count, section_packets, pat_fields, pat_section, head}

record Bytes (xs : List ℕ) : Type 0 where
  are : AreBytes xs

none : Bytes []
none = record { are = All-nil IsByte }

more : {x : ℕ} {xs : List ℕ} → x < 256 → Bytes xs → Bytes (x ∷ xs)
more {x} {xs} b rest = record { are = All-cons IsByte x xs b rest.are }

both : {xs ys : List ℕ} → Bytes xs → Bytes ys → Bytes (xs ++ ys)
both {xs} {ys} a b = record { are = All-append IsByte xs ys a.are b.are }

below_256 : (n : ℕ) → n % 256 < 256
below_256 n = mod-lt n (omega arith)

at-place : (i n : ℕ) → byte_at i n < 256
at-place zero n = below_256 n
at-place (suc i) n = below_256 (n / 256 ^ suc i)

high-first : (k n : ℕ) → Bytes (bytes_high_first k n)
high-first zero n = none
high-first (suc k) n = more (at-place k n) (high-first k n)

of-counter : (counter : ℕ) → 0x10 + counter % 16 < 256
of-counter counter = let small : counter % 16 < 16 = mod-lt counter (omega arith) in omega (arith, small)

of-header : (starts : Bool) (pid counter : ℕ) → Bytes (header starts pid counter)
of-header starts pid counter =
    more (omega arith) (both (high-first 2 ((if starts then 0x4000 else 0) + pid % 0x2000)) (more (of-counter counter) none))

of-stuffed : (bytes : List ℕ) → Bytes bytes → Bytes (stuffed bytes)
of-stuffed bytes all =
    both {xs = take 184 bytes} {ys = replicate (184 - length bytes) 0xFF} (record { are = All-take IsByte 184 bytes all.are })
    (record { are = All-replicate IsByte (184 - length bytes) 0xFF (omega arith) })

of-packets : (n : ℕ) (starts : Bool) (pid counter : ℕ) (bytes : List ℕ) → Bytes bytes → Bytes (packets n starts pid counter bytes)
unfolding packets
of-packets zero starts pid counter bytes all = none
of-packets (suc n) starts pid counter bytes all =
    both (both (of-header starts pid counter) (of-stuffed bytes all)) (of-packets n _ pid (counter + 1) (drop 184 bytes) (record { are = All-drop IsByte 184 bytes all.are }))

of-section : (pid counter : ℕ) (section : List ℕ) → Bytes section → Bytes (section_packets pid counter section)
of-section pid counter section all = of-packets (packet_count section) _ pid counter (0 ∷ section) (more (omega arith) all)

of-fields : (stream_id program pmt_pid : ℕ) → Bytes (pat_fields stream_id program pmt_pid)
of-fields stream_id program pmt_pid =
    more (omega arith) (more (omega arith) (more (omega arith)
    (both (high-first 2 stream_id)
    (more (omega arith) (more (omega arith) (more (omega arith)
    (both (high-first 2 program) (high-first 2 (0xE000 + pmt_pid % 0x2000)))))))))

of-pat : (stream_id program pmt_pid : ℕ) → Bytes (pat_section stream_id program pmt_pid)
of-pat stream_id program pmt_pid = both (of-fields stream_id program pmt_pid) (high-first 4 (crc (pat_fields stream_id program pmt_pid)))

pub of-head : (t : InForce) (a b : ℕ) → AreBytes t.section → AreBytes (head t a b)
unfolding head
of-head t a b all =
    (both (of-section 0 a (pat_section t.stream_id t.program t.pmt_pid) (of-pat t.stream_id t.program t.pmt_pid)) (of-section t.pmt_pid b t.section (record { are = all }))).are
