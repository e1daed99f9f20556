-- What assemblers and watches stand for, and what they keep.
use Rattle.std.specs.Prelude.{◌≡◌, ◌≢◌, ◌⊎◌, ℕ, ◌<◌, ◌≤◌, Bool, false, true, ◌&&◌, nat_lt, if◌then◌else◌, List, [], ◌∷◌, ◌++◌, length, Option, Some, None}
use Rattle.ts_packet.specs.Fields.{payload_unit_start_indicator}
use Rattle.psi_tables.specs.Sections.{Carrier, carrier, carriers, follows, pointed, behind_pointer, is_whole, is_open, first_section, begun_in, flow_behind, unfinished, bring_too_long, is_given_up, is_taken, last_counter, opening, sections_in, sections}
use Rattle.psi_tables.specs.declared.next.BegunSection.{BegunSection}
use Rattle.std.specs.List.{filter_map}
use Rattle.psi_tables.specs.ProgramMap.{program_map, pmt_fault}
use Rattle.psi_tables.specs.InForce.{InForce, choice, since_change, tables_of, tables_behind}
use Rattle.psi_tables.specs.declared.choice.Choice.{Choice}

-- a PID whose sections are gathered, and the packets that came, of all PIDs
pub record Gathered : Type 0 where
  pub pid : ℕ
  pub packets : List (List ℕ)

abbrev pub gathered_sections : Gathered → List (List ℕ)
gathered_sections g = sections g.pid g.packets

-- with one packet more
abbrev pub with_packet : Gathered → List ℕ → Gathered
with_packet g p = record { pid = g.pid; packets = g.packets ++ p ∷ [] }

-- the sections to come in the packets behind one with this counter, where the front of a section was begun
abbrev pub to_come_behind : List ℕ → ℕ → List Carrier → List (List ℕ)
to_come_behind begun counter cs = begun_in 0 begun (flow_behind counter cs) ++ sections_in (is_given_up begun counter cs) cs

unfoldable pub to_come : ℕ → Option ℕ → List ℕ → List (List ℕ) → List (List ℕ)
to_come on None begun ps = sections_in false (carriers on None ps)
to_come on (Some counter) begun ps = to_come_behind begun counter (carriers on (Some counter) ps)

-- the last counter, if there is one, has four bits
abbrev pub IsCounter : Option ℕ → Type 0
IsCounter None = Unit {0}
IsCounter (Some counter) = counter < 16

-- the last counter and the front of the section that was begun tell all that counts of the packets, whichever come next
pub record Keeps (g : Gathered) (last : Option ℕ) (begun : List ℕ) : Type 0 where
  pub goes_on : (more : List (List ℕ)) → sections g.pid (g.packets ++ more) ≡ gathered_sections g ++ to_come g.pid last begun more
  pub only_a_front : unfinished 0 begun ≡ begun
  pub short : length begun ≤ 1024
  pub four_bits : IsCounter last
  pub none : last ≡ None → begun ≡ []
  pub counted : last ≡ last_counter g.pid None g.packets

-- so many bytes are kept: a front of the section that was begun
pub record IsKept (g : Gathered) (count : ℕ) : Type 0 where
  pub last : Option ℕ
  pub begun : List ℕ
  pub keeps : Keeps g last begun
  pub all : count ≡ length begun

-- the section at the front, where it is open
abbrev pub open_front : List ℕ → List ℕ
open_front s = if is_open s then s else []

-- the section at the front, where it is whole
abbrev pub whole_front : List ℕ → List (List ℕ)
whole_front s = if is_whole s then first_section s ∷ [] else []

-- what is left of the section at the front where it isn't whole
abbrev pub open_rest : List ℕ → List ℕ
open_rest s = if is_whole s then [] else open_front s

-- what is left of a section that was begun when more of its bytes came
abbrev pub left_open : List ℕ → List ℕ → List ℕ
left_open [] more = []
left_open (b ∷ begun) more = open_rest ((b ∷ begun) ++ more)

-- the pointer's bytes give up the section that was begun, and with it the rest of the packet
abbrev pub gives_up : List ℕ → List ℕ → Bool
gives_up begun more = nat_lt 0 (length begun) && bring_too_long begun more

-- the sections that a packet completes, where the front of a section was begun
abbrev pub completed : List ℕ → Carrier → List (List ℕ)
completed begun c =
    if c.starts then begun_in 0 begun (pointed c) ++ begun_in 0 (opening (gives_up begun (pointed c)) c) []
    else begun_in 0 begun c.payload

-- the front of a section that is begun behind the packet
abbrev pub left_behind : List ℕ → Carrier → List ℕ
left_behind begun c = if c.starts then unfinished 0 (opening (gives_up begun (pointed c)) c) else left_open begun c.payload

-- the front of the section that was begun, where no packet is missing before this one
abbrev pub continued : Option ℕ → List ℕ → Carrier → List ℕ
continued None begun c = []
continued (Some counter) begun c = if follows counter c then begun else []

-- the packet changes no section, whichever packets come next, and isn't counted
pub record IsLeftOut (g : Gathered) (p : List ℕ) : Type 0 where
  pub same : (more : List (List ℕ)) → sections g.pid (g.packets ++ p ∷ more) ≡ sections g.pid (g.packets ++ more)
  pub counted : last_counter g.pid None (g.packets ++ p ∷ []) ≡ last_counter g.pid None g.packets

-- this is kept behind the packet; or the packet is left out, and what was kept stays
abbrev pub Follows : Gathered → List ℕ → Option BegunSection → Type 0
Follows g p None = IsLeftOut g p
Follows g p (Some begun) = Keeps (with_packet g p) begun.counter begun.bytes.items

-- the packet carries parts of this PID's sections behind those that came: it is no repeat of the last that did
abbrev pub IsCarried : Gathered → List ℕ → Type 0
IsCarried g p = is_taken g.pid (last_counter g.pid None g.packets) p ≡ true

-- a section stands at the front, whole or not
abbrev pub HasSection : List ℕ → Type 0
HasSection s = (is_whole s ≡ true) ⊎ (open_front s ≢ [])

-- a section begins in the packet, whole or not
pub record BeginsSection (p : List ℕ) : Type 0 where
  pub starts : payload_unit_start_indicator p ≡ true
  pub section : HasSection (behind_pointer (carrier p))

-- no packet is missing between the last one with this counter and this one; there is such a one
abbrev pub IsNext : Option ℕ → List ℕ → Type 0
IsNext None p = ⊥
IsNext (Some counter) p = follows counter (carrier p) ≡ true

-- the front of a section is kept, and no packet is missing before this one
pub record GoesOn (g : Gathered) (p : List ℕ) : Type 0 where
  pub kept : ℕ
  pub is_kept : IsKept g kept
  pub some : 0 < kept
  pub next : IsNext (last_counter g.pid None g.packets) p

-- a section begins in the packet, or one that was begun goes on in it
abbrev pub MayBring : Gathered → List ℕ → Type 0
MayBring g p = BeginsSection p ⊎ GoesOn g p

-- .. and carries parts of this PID's sections
abbrev pub Brings : Gathered → List ℕ → Type 0
Brings g p = IsCarried g p × MayBring g p

-- the program that was asked for, if one was, and the packets that came
pub record Watched : Type 0 where
  pub program : Option ℕ
  pub packets : List (List ℕ)

-- the PID on which the sections of PMTs are gathered; while nothing is chosen they put nothing in force
abbrev pub pid_of : Option Choice → ℕ
pid_of None = 0
pid_of (Some c) = c.pmt_pid

-- the packets of which the sections of PMTs are gathered, and their PID
abbrev pub gathered_behind : Watched → Gathered
gathered_behind w = record { pid = pid_of (choice w.program w.packets); packets = since_change w.program w.packets (length w.packets) }

-- the packet carries parts of sections of the PAT, or of the PMT that is chosen before it
abbrev pub CarriesTables : Watched → List ℕ → Type 0
CarriesTables w p = IsCarried (record { pid = 0; packets = w.packets }) p ⊎ IsCarried (gathered_behind w) p

-- the packet brings something to a section of the PAT, or of the PMT that is chosen before it
abbrev pub BringsTables : Watched → List ℕ → Type 0
BringsTables w p = Brings (record { pid = 0; packets = w.packets }) p ⊎ Brings (gathered_behind w) p

-- the tables among the sections that were found on the chosen PID
abbrev pub tables_among : Option Choice → List (List ℕ) → List InForce
tables_among None found = []
tables_among (Some c) found = filter_map (tables_of c) found

-- reading a section on the chosen PID takes memory: it is a good PMT that has entries, or is of the chosen program
abbrev pub TakesMemory : Option Choice → List ℕ → Type 0
TakesMemory None s = ⊥
TakesMemory (Some c) s = (pmt_fault s ≡ None) × (((program_map s).entries ≢ []) ⊎ ((program_map s).program ≡ c.program))

-- the sections that are gathered, the choice and the tables are those behind the packets that came
pub record Watches (wanted : Option ℕ) (pats pmts : Gathered) (chosen : Option Choice) (tables : Option InForce) : Type 0 where
  pub on_pid_0 : pats.pid ≡ 0
  pub chosen_last : chosen ≡ choice wanted pats.packets
  pub gathered : pmts ≡ record { pid = pid_of chosen; packets = since_change wanted pats.packets (length pats.packets) }
  pub in_force : tables ≡ tables_behind wanted pats.packets
