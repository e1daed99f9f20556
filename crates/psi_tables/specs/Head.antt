-- The head of a segment: the packets that bring its tables, so that it can be decoded by itself (RFC 8216, 3.2). Reserved
-- bits are ones.
use Rattle.std.specs.Prelude.{◌≡◌, ℕ, zero, suc, ◌+◌, ◌-◌, ◌/◌, ◌%◌, ◌<◌, ◌^◌, Bool, true, false, if◌then◌else◌, List, [], ◌∷◌, ◌++◌, length, take, drop, replicate, None}
use Rattle.std.specs.Int.{to_be_bytes, w16, w32}
use Rattle.psi_tables.specs.Crc.{crc}
use Rattle.psi_tables.specs.ProgramMap.{pmt_fault}
use Rattle.psi_tables.specs.InForce.{InForce}

-- the header of a packet that has a payload alone: sync_byte, payload_unit_start_indicator and PID,
-- adaptation_field_control 01 and continuity_counter (ISO/IEC 13818-1, 2.4.3.2)
abbrev pub header : Bool → ℕ → ℕ → List ℕ
header starts pid counter =
    0x47 ∷ (to_be_bytes w16 ((if starts then 0x4000 else 0) + pid % 0x2000) ++ (0x10 + counter % 16) ∷ [])

-- these bytes, or the first 184 of them, and stuffing to the end of a payload (2.4.4)
abbrev pub stuffed : List ℕ → List ℕ
stuffed bytes = take 184 bytes ++ replicate (184 - length bytes) 0xFF

-- so many packets of a PID that carry these bytes one after another; of the first is told whether a section starts in it
unfoldable pub packets : ℕ → Bool → ℕ → ℕ → List ℕ → List ℕ
packets zero starts pid counter bytes = []
packets (suc n) starts pid counter bytes =
    header starts pid counter ++ stuffed bytes ++ packets n false pid (counter + 1) (drop 184 bytes)

-- how many packets a section takes, with the pointer_field in front of it
abbrev pub packet_count : List ℕ → ℕ
packet_count section = (length section + 184) / 184

-- the packets of a PID that carry one section: pointer_field 0, and the section (2.4.4.1)
abbrev pub section_packets : ℕ → ℕ → List ℕ → List ℕ
section_packets pid counter section = packets (packet_count section) true pid counter (0 ∷ section)

-- the PAT of one program up to its CRC_32: version 0, current, one section (2.4.4.3, table 2-30)
abbrev pub pat_fields : ℕ → ℕ → ℕ → List ℕ
pat_fields stream_id program pmt_pid =
    0x00 ∷ 0xB0 ∷ 13 ∷ (to_be_bytes w16 stream_id
    ++ 0xC1 ∷ 0 ∷ 0 ∷ (to_be_bytes w16 program
    ++ to_be_bytes w16 (0xE000 + pmt_pid % 0x2000)))

-- its section
abbrev pub pat_section : ℕ → ℕ → ℕ → List ℕ
pat_section stream_id program pmt_pid =
    pat_fields stream_id program pmt_pid ++ to_be_bytes w32 (crc (pat_fields stream_id program pmt_pid))

-- the head of a segment with these tables: one PAT packet, then the packets of the PMT section as it came, with these
-- first counters
unfoldable pub head : InForce → ℕ → ℕ → List ℕ
head t pat_counter pmt_counter =
    section_packets 0 pat_counter (pat_section t.stream_id t.program t.pmt_pid) ++ section_packets t.pmt_pid pmt_counter t.section

-- tables whose numbers have their widths, and whose section is a good one
pub record IsSendable (t : InForce) : Type 0 where
  pub stream_id : t.stream_id < 2 ^ 16
  pub program : t.program < 2 ^ 16
  pub pmt_pid : t.pmt_pid < 2 ^ 13
  pub section : pmt_fault t.section ≡ None

-- the same tables and counters, with the same bytes behind them
pub record IsSameHead (t u : InForce) (a b c d : ℕ) (rest other : List ℕ) : Type 0 where
  pub tables : t ≡ u
  pub pat_counter : a % 16 ≡ c % 16
  pub pmt_counter : b % 16 ≡ d % 16
  pub behind : rest ≡ other
