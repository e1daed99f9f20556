-- The tables in force in a list of packets (ISO/IEC 13818-1, 2.4.4). A packet is its 188 bytes; packet i has i packets
-- before it.
use Rattle.std.specs.Prelude.{◌≡◌, ℕ, zero, suc, ◌<◌, ◌≤◌, ◌^◌, ◌-◌, ◌⊎◌, ◌==◌, Bool, true, false, ◌&&◌, if◌then◌else◌, List, [], ◌∷◌, ◌++◌, length, take, drop, Option, Some, None, is_none, option_map}
use Rattle.std.specs.List.{filter_map}
use Rattle.std.specs.Str.{bytes_eq}
use Rattle.psi_tables.specs.Crc.{crc}
use Rattle.psi_tables.specs.Association.{association, pat_fault, chosen}
use Rattle.psi_tables.specs.ProgramMap.{program_map, pmt_fault}
use Rattle.psi_tables.specs.Sections.{sections}
use Rattle.psi_tables.specs.declared.choice.Choice.{Choice}

-- tables in force: the PAT's transport_stream_id, the program that it chose, the PID of its PMT, and the PMT section
pub record InForce : Type 0 where
  pub stream_id : ℕ
  pub program : ℕ
  pub pmt_pid : ℕ
  pub section : List ℕ

-- the same tables
abbrev pub is_same : InForce → InForce → Bool
is_same t u = (t.stream_id == u.stream_id) && (t.program == u.program) && (t.pmt_pid == u.pmt_pid) && bytes_eq t.section u.section

-- the tables are good: their section is a PMT section without a fault, of their program
pub record IsGood (t : InForce) : Type 0 where
  pub good : pmt_fault t.section ≡ None
  pub unchanged : crc t.section ≡ 0
  pub short : length t.section ≤ 1024
  pub of_program : (program_map t.section).program ≡ t.program
  pub pid : t.pmt_pid < 2 ^ 13

-- the last of these, or what was there before where there is none
unfoldable pub last_or : {A : Type 0} → Option A → List A → Option A
last_or before [] = before
last_or before (x ∷ xs) = last_or (Some x) xs

-- the PID that was chosen, if one was, has 13 bits
abbrev pub HasPid : Option Choice → Type 0
HasPid None = Unit {0}
HasPid (Some c) = c.pmt_pid < 2 ^ 13

-- an entry of a PAT, chosen
abbrev pub entry_choice : ℕ → (ℕ × ℕ) → Choice
entry_choice stream_id entry = record { stream_id = stream_id; program = entry.0; pmt_pid = entry.1 }

-- what a section chooses: the first entry that is wanted, where it is a good PAT that has one
unfoldable pub choice_of : Option ℕ → List ℕ → Option Choice
choice_of wanted s =
    if is_none (pat_fault s)
    then option_map (entry_choice (association s).transport_stream_id) (chosen wanted (association s))
    else None

-- the choice behind these packets: that of the last section on PID 0 that chooses
unfoldable pub choice : Option ℕ → List (List ℕ) → Option Choice
choice wanted packets = last_or None (filter_map (choice_of wanted) (sections 0 packets))

-- two choices of the same PID, or none
abbrev pub same_pid : Option Choice → Option Choice → Bool
same_pid None None = true
same_pid (Some a) (Some b) = a.pmt_pid == b.pmt_pid
same_pid None (Some b) = false
same_pid (Some a) None = false

-- the packets before packet i that came behind the last one that changed the chosen PID
unfoldable pub since_change : Option ℕ → List (List ℕ) → ℕ → List (List ℕ)
since_change wanted packets zero = []
since_change wanted packets (suc i) =
    if same_pid (choice wanted (take i packets)) (choice wanted (take (suc i) packets))
    then since_change wanted packets i ++ take 1 (drop i packets)
    else []

-- These are the packets before packet i from one place on, such that the same PID was chosen at all places from there
-- to packet i, and another one before it where packets came before.
pub record IsSinceChange (wanted : Option ℕ) (packets : List (List ℕ)) (i : ℕ) (since : List (List ℕ)) : Type 0 where
  pub from : ℕ
  pub within : from ≤ i
  pub rest : since ≡ drop from (take i packets)
  pub same : (j : ℕ) → from ≤ j → j ≤ i → same_pid (choice wanted (take j packets)) (choice wanted (take i packets)) ≡ true
  pub changed : (from ≡ 0) ⊎ (same_pid (choice wanted (take (from - 1) packets)) (choice wanted (take from packets)) ≡ false)

-- the sections of a PID that some packets complete, behind the packets of which the sections are gathered
abbrev pub completed_on : ℕ → List (List ℕ) → List (List ℕ) → List (List ℕ)
completed_on pid gathered packets = drop (length (sections pid gathered)) (sections pid (gathered ++ packets))

-- the tables that a section on the chosen PID puts in force, where it is a good PMT of the chosen program
unfoldable pub tables_of : Choice → List ℕ → Option InForce
tables_of c s =
    if is_none (pmt_fault s) && ((program_map s).program == c.program)
    then Some (record { stream_id = c.stream_id; program = c.program; pmt_pid = c.pmt_pid; section = s })
    else None

-- the tables that some packets put in force, by the choice before them
abbrev pub put_in_force : Option Choice → List (List ℕ) → List (List ℕ) → List InForce
put_in_force None gathered packets = []
put_in_force (Some c) gathered packets = filter_map (tables_of c) (completed_on c.pmt_pid gathered packets)

-- the tables in force before packet i
unfoldable pub tables_before : Option ℕ → List (List ℕ) → ℕ → Option InForce
tables_before wanted packets zero = None
tables_before wanted packets (suc i) =
    last_or (tables_before wanted packets i) (put_in_force (choice wanted (take i packets)) (since_change wanted packets i) (take 1 (drop i packets)))

-- the tables in force behind these packets
abbrev pub tables_behind : Option ℕ → List (List ℕ) → Option InForce
tables_behind wanted packets = tables_before wanted packets (length packets)
