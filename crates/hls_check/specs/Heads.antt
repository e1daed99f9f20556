-- Where a segment head tells what it is made of.
use Rattle.std.specs.Prelude.{◌≡◌, ℕ, zero, suc, ◌+◌, ◌*◌, ◌/◌, ◌≤◌, List, [], ◌++◌, length, take, drop, slice_range, slice_index, None}
use Rattle.psi_tables.specs.InForce.{InForce}
use Rattle.psi_tables.specs.ProgramMap.{pmt_fault}
use Rattle.psi_tables.specs.Section.{section_length, number_at, pid_at, length_at}
use Rattle.psi_tables.specs.Head.{head, IsSendable}
use Rattle.hls_check.specs.Unpacking.{BeginsWithHead}
use Rattle.ts_packet.specs.declared.lengths.TheConstants.{PACKET}

-- a section with its fields, as long as it tells
pub record IsSized (s : List ℕ) : Type 0 where
  pub fields : 16 ≤ length s
  pub whole : 3 + section_length s ≡ length s

-- the tables that stand in the packet of a PAT, with the section of a PMT
abbrev pub told_tables : List ℕ → List ℕ → InForce
told_tables pat section = record {
  stream_id = number_at pat 8;
  program = number_at pat 13;
  pmt_pid = pid_at pat 15;
  section = section;
}

-- there are as many packets as the section takes whose length the first of them tells
abbrev pub HasPackets : List ℕ → Type 0
HasPackets packets = PACKET * ((3 + length_at packets 6 + 184) / 184) ≤ length packets

-- a text may begin with a head: it has the packet of a PAT, and behind it as many as the section of its PMT takes
abbrev pub MayHoldHead : List ℕ → Type 0
MayHoldHead text = (2 * PACKET ≤ length text) × HasPackets (drop PACKET text)

-- the payloads of so many packets of 188 bytes, behind headers of four bytes
unfoldable pub payloads : ℕ → List ℕ → List ℕ
payloads zero packets = []
payloads (suc count) packets = take 184 (drop 4 packets) ++ payloads count (drop PACKET packets)

-- the section whose length the first of some packets tells, out of their payloads behind a pointer
abbrev pub section_in : List ℕ → List ℕ
section_in packets = slice_range (payloads ((3 + length_at packets 6 + 184) / 184) packets) 1 (1 + (3 + length_at packets 6))

-- where a head has them, a text has as many packets as it tells, and in them the section of a good PMT
abbrev pub HoldsTables : List ℕ → Type 0
HoldsTables text = MayHoldHead text × (pmt_fault (section_in (drop PACKET text)) ≡ None)

-- the head of the tables and counters that stand there
abbrev pub head_in : List ℕ → List ℕ
head_in text = head (told_tables (take PACKET text) (section_in (drop PACKET text))) (slice_index (take PACKET text) 3) (slice_index (drop PACKET text) 3)

-- the bytes are a head, and the only one that the text may begin with
pub record IsTheHead (text bytes : List ℕ) : Type 0 where
  pub tables : InForce
  pub pat_counter : ℕ
  pub pmt_counter : ℕ
  pub sendable : IsSendable tables
  pub is : bytes ≡ head tables pat_counter pmt_counter
  pub only : (rest : List ℕ) → BeginsWithHead text rest → text ≡ bytes ++ rest
