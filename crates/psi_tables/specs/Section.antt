-- The frame that a PAT section and a PMT section share (ISO/IEC 13818-1, 2.4.4.3 and 2.4.4.8), and the order in which
-- faults are told.
use Rattle.std.specs.Prelude.{ℕ, ◌+◌, ◌-◌, ◌*◌, ◌%◌, Bool, not, ◌==◌, ◌&&◌, nat_lt, nat_le, if◌then◌else◌, List, [], ◌∷◌, length, take, drop, slice_index, Option, Some, None}
use Rattle.psi_tables.specs.Crc.{crc}
use Rattle.psi_tables.specs.declared.fault.TableFault.{TableFault}
use Rattle.psi_tables.specs.declared.fault.TableFault.TheVariants.{Short, WrongTable, BadCrc, NotCurrent, ManySections, BadLengths}

-- the 16 bits of two bytes (uimsbf, 2.2.6)
abbrev pub number_at : List ℕ → ℕ → ℕ
number_at s i = slice_index s i * 256 + slice_index s (i + 1)

-- the low 13 bits of two bytes: a PID
abbrev pub pid_at : List ℕ → ℕ → ℕ
pid_at s i = number_at s i % 8192

-- the low 12 bits of two bytes: a length
abbrev pub length_at : List ℕ → ℕ → ℕ
length_at s i = number_at s i % 4096

-- table_id (table 2-30)
abbrev pub table_id : List ℕ → ℕ
table_id s = slice_index s 0

-- section_syntax_indicator, the high bit of byte 1 (table 2-30)
abbrev pub section_syntax_indicator : List ℕ → Bool
section_syntax_indicator s = nat_le 128 (slice_index s 1)

-- section_length: the bytes behind it (table 2-30)
abbrev pub section_length : List ℕ → ℕ
section_length s = length_at s 1

-- current_next_indicator, the low bit of byte 5 (table 2-30)
abbrev pub current_next_indicator : List ℕ → Bool
current_next_indicator s = slice_index s 5 % 2 == 1

-- section_number (table 2-30)
abbrev pub section_number : List ℕ → ℕ
section_number s = slice_index s 6

-- last_section_number (table 2-30)
abbrev pub last_section_number : List ℕ → ℕ
last_section_number s = slice_index s 7

-- the bytes from place i on, up to the CRC_32
abbrev pub bytes_before_crc : ℕ → List ℕ → List ℕ
bytes_before_crc i s = drop i (take (length s - 4) s)

-- the first fault of which the test is true
abbrev pub first_standing : List (TableFault × Bool) → Option TableFault
first_standing [] = None
first_standing (fault ∷ faults) = if fault.1 then Some fault.0 else first_standing faults

-- The faults of a section with this table_id whose fields alone take this many bytes, each with its test, in the order in
-- which a table is read.
abbrev pub frame_faults : ℕ → ℕ → List ℕ → List (TableFault × Bool)
frame_faults fewest id s =
    (Short, nat_lt (length s) fewest)
    ∷ (WrongTable, not ((table_id s == id) && section_syntax_indicator s))
    ∷ (BadCrc, not (crc s == 0))
    ∷ (NotCurrent, not (current_next_indicator s))
    ∷ (ManySections, not ((section_number s == 0) && (last_section_number s == 0)))
    ∷ (BadLengths, not ((3 + section_length s == length s) && nat_le (section_length s) 1021))
    ∷ []
