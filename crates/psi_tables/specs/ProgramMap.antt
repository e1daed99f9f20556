-- What a PMT section says (ISO/IEC 13818-1, 2.4.4.8, table 2-33).
use Rattle.std.specs.Prelude.{ℕ, zero, suc, ◌+◌, ◌*◌, ◌%◌, Bool, ◌==◌, ◌||◌, List, [], ◌∷◌, ◌++◌, Option, Some, None, is_none, unwrap_or, option_map, find}
use Rattle.std.specs.List.{list_any}
use Rattle.psi_tables.specs.Section.{number_at, pid_at, length_at, bytes_before_crc, first_standing, frame_faults}
use Rattle.psi_tables.specs.declared.fault.TableFault.{TableFault}
use Rattle.psi_tables.specs.declared.fault.TableFault.TheVariants.{BadLengths}
use Rattle.psi_tables.specs.declared.pmt.StreamEntry.{StreamEntry}

-- a program map table
pub record ProgramMap : Type 0 where
  pub program : ℕ
  pub pcr_pid : ℕ
  pub entries : List StreamEntry

-- the entries that these bytes are, behind the bytes that are left of the descriptors before: stream_type (8), 3 reserved
-- bits, elementary_PID (13), 4 reserved bits, ES_info_length (12), descriptors; none where the last isn't whole
unfoldable pub streams : ℕ → List ℕ → Option (List StreamEntry)
streams zero [] = Some []
streams (suc left) [] = None
streams (suc left) (a ∷ bytes) = streams left bytes
streams zero (kind ∷ a ∷ b ∷ c ∷ d ∷ bytes) =
    option_map (λ entries. record { stream_type = kind; pid = (a * 256 + b) % 8192 } ∷ entries) (streams ((c * 256 + d) % 4096) bytes)
streams zero (a ∷ bytes) = None

-- the entries of a PMT section: behind program_info_length bytes of descriptors
abbrev pub entries_of : List ℕ → Option (List StreamEntry)
entries_of s = streams (length_at s 10) (bytes_before_crc 12 s)

-- the first fault of a PMT section, in the order in which a table is read
abbrev pub pmt_fault : List ℕ → Option TableFault
pmt_fault s = first_standing (frame_faults 16 0x02 s ++ (BadLengths, is_none (entries_of s)) ∷ [])

-- the table that a PMT section without a fault carries
abbrev pub program_map : List ℕ → ProgramMap
program_map s = record { program = number_at s 3; pcr_pid = pid_at s 8; entries = unwrap_or (entries_of s) [] }

-- the stream types of video (ISO/IEC 13818-1, table 2-34): MPEG-1, MPEG-2, MPEG-4 visual, H.264, H.265
abbrev pub is_video : StreamEntry → Bool
is_video entry =
    (entry.stream_type == 0x01) || (entry.stream_type == 0x02) || (entry.stream_type == 0x10) || (entry.stream_type == 0x1B) || (entry.stream_type == 0x24)

-- the PID of the first entry with a stream type of video
abbrev pub video_pid : ProgramMap → Option ℕ
video_pid pmt = option_map (λ entry. entry.pid) (find is_video pmt.entries)

-- whether a PID is an entry's or the PCR_PID
abbrev pub carries : ProgramMap → ℕ → Bool
carries pmt pid = list_any (λ entry. entry.pid == pid) pmt.entries || (pid == pmt.pcr_pid)
