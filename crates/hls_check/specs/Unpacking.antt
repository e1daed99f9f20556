-- What the segments of a playlist unpack to.
use Rattle.std.specs.Prelude.{◌≡◌, ℕ, ◌<◌, false, Option, List, [], ◌++◌, length, slice_index_or}
use Rattle.aes_cbc.specs.Opening.{Seals}
use Rattle.psi_tables.specs.InForce.{InForce}
use Rattle.psi_tables.specs.Head.{head, IsSendable}
use Rattle.playlist_text.specs.MediaLines.{Entry}
use Rattle.playlist_text.specs.Vectors.{salted_vector}
use Rattle.hls_check.specs.declared.fault.UnpackFault.{UnpackFault}
use Rattle.hls_check.specs.declared.fault.UnpackFault.TheVariants.{Missing, Closed, NoHead, NoMemory}

-- the salt of a playlist's vectors where there is one, its entries, the bytes of their segments in the same order, and the keys by their indexes
pub record Packed : Type 0 where
  pub salt : Option (List ℕ)
  pub entries : List Entry
  pub segments : List (List ℕ)
  pub keys : List (List ℕ)

abbrev pub packed : Option (List ℕ) → List Entry → List (List ℕ) → List (List ℕ) → Packed
packed salt entries segments keys = record { salt = salt; entries = entries; segments = segments; keys = keys }

-- an entry
abbrev pub entry_at : Packed → ℕ → Entry
entry_at p i = slice_index_or p.entries i (record { number = 0; key = 0; micros = 0; discontinuity = false })

-- its key, the vector of its number under the salt (RFC 8216, 5.2), and its bytes
abbrev pub key_at : Packed → ℕ → List ℕ
key_at p i = slice_index_or p.keys (entry_at p i).key []

abbrev pub vector_at : Packed → ℕ → List ℕ
vector_at p i = salted_vector p.salt (entry_at p i).number

abbrev pub bytes_at : Packed → ℕ → List ℕ
bytes_at p i = slice_index_or p.segments i []

-- the text begins with a segment head, of any good tables and any counters, and then the rest
pub record BeginsWithHead (text rest : List ℕ) : Type 0 where
  pub tables : InForce
  pub pat_counter : ℕ
  pub pmt_counter : ℕ
  pub sendable : IsSendable tables
  pub whole : text ≡ head tables pat_counter pmt_counter ++ rest

-- entry i has bytes, and its key is there
pub record IsThere (p : Packed) (i : ℕ) : Type 0 where
  pub segment : i < length p.segments
  pub key : (entry_at p i).key < length p.keys

-- the bytes of entry i open to this text, under its key and the vector of its number
abbrev pub Opens : Packed → ℕ → List ℕ → Type 0
Opens p i text = Seals (key_at p i) (vector_at p i) text (bytes_at p i)

-- they open to a text at all
abbrev pub IsOpen : Packed → ℕ → Type 0
IsOpen p i = (text : List ℕ) × Opens p i text

-- they open to a head and this rest
pub record Unpacks (p : Packed) (i : ℕ) (rest : List ℕ) : Type 0 where
  pub there : IsThere p i
  pub text : List ℕ
  pub opens : Opens p i text
  pub begins : BeginsWithHead text rest

-- they open to a head with any rest, or none, behind it
abbrev pub HasHead : Packed → ℕ → Type 0
HasHead p i = (rest : List ℕ) × Unpacks p i rest

-- all entries unpack, each to its rest
pub record AllUnpack (p : Packed) (rests : List (List ℕ)) : Type 0 where
  pub each_one : length rests ≡ length p.entries
  pub unpacks : (i : ℕ) → i < length rests → Unpacks p i (slice_index_or rests i [])

-- of each entry this holds
abbrev pub OfAll : Packed → (ℕ → Type 0) → Type 0
OfAll p Holds = (i : ℕ) → i < length p.entries → Holds i

-- entry i is the first of which it doesn't hold
pub record IsFirstWithout (p : Packed) (Holds : ℕ → Type 0) (i : ℕ) : Type 0 where
  pub entry : i < length p.entries
  pub without : ¬ Holds i
  pub before : (j : ℕ) → j < i → Holds j

-- an entry opens, and each before it: only then is there a text that memory can be wanted for
pub record IsReached (p : Packed) : Type 0 where
  pub place : ℕ
  pub entry : place < length p.entries
  pub opens : IsOpen p place
  pub before : (j : ℕ) → j < place → IsOpen p j

-- an entry opens to a text with bytes, and each before it opens: where no text is kept, only such a one wants memory
pub record HasBytes (p : Packed) : Type 0 where
  pub place : ℕ
  pub entry : place < length p.entries
  pub opens : IsOpen p place
  pub some : ¬ Opens p place []
  pub before : (j : ℕ) → j < place → IsOpen p j

-- the fault is the one to tell: all that is missing comes first, then all that doesn't open, then all without a head. Lack of
-- memory is told only where a text was reached that wants it
abbrev pub IsTold : Packed → UnpackFault → Type 0
IsTold p (Missing i) = IsFirstWithout p (IsThere p) i
IsTold p (Closed i) = OfAll p (IsThere p) × IsFirstWithout p (IsOpen p) i
IsTold p (NoHead i) = OfAll p (IsThere p) × OfAll p (IsOpen p) × IsFirstWithout p (HasHead p) i
IsTold p NoMemory = OfAll p (IsThere p) × IsReached p
