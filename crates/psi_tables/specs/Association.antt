-- What a PAT section says (ISO/IEC 13818-1, 2.4.4.3, table 2-30).
use Rattle.std.specs.Prelude.{ℕ, ◌+◌, ◌*◌, ◌%◌, Bool, not, ◌==◌, List, [], ◌∷◌, ◌++◌, Option, Some, None, is_none, unwrap_or, option_map, find}
use Rattle.psi_tables.specs.Section.{number_at, bytes_before_crc, first_standing, frame_faults}
use Rattle.psi_tables.specs.declared.fault.TableFault.{TableFault}
use Rattle.psi_tables.specs.declared.fault.TableFault.TheVariants.{BadLengths}
use Rattle.psi_tables.specs.declared.pat.ProgramEntry.{ProgramEntry}

-- a program association table
pub record Association : Type 0 where
  pub transport_stream_id : ℕ
  pub entries : List ProgramEntry

-- the entries that these bytes are: program_number (16), 3 reserved bits, PID (13); none where the last isn't whole
unfoldable pub programs : List ℕ → Option (List ProgramEntry)
programs [] = Some []
programs (a ∷ b ∷ c ∷ d ∷ bytes) = option_map (λ entries. record { program = a * 256 + b; pid = (c * 256 + d) % 8192 } ∷ entries) (programs bytes)
programs (a ∷ bytes) = None

-- the first fault of a PAT section, in the order in which a table is read
abbrev pub pat_fault : List ℕ → Option TableFault
pat_fault s = first_standing (frame_faults 12 0x00 s ++ (BadLengths, is_none (programs (bytes_before_crc 8 s))) ∷ [])

-- the table that a PAT section without a fault carries
abbrev pub association : List ℕ → Association
association s = record { transport_stream_id = number_at s 3; entries = unwrap_or (programs (bytes_before_crc 8 s)) [] }

-- whether an entry is of the program that was asked for or, where none was, of a program and not the network PID
abbrev pub is_wanted : Option ℕ → ProgramEntry → Bool
is_wanted None entry = not (entry.program == 0)
is_wanted (Some program) entry = entry.program == program

-- the program number and the PMT's PID that a PAT chooses: those of its first entry that is wanted
abbrev pub chosen : Option ℕ → Association → Option (ℕ × ℕ)
chosen program pat = option_map (λ entry. (entry.program, entry.pid)) (find (is_wanted program) pat.entries)
