-- What comes of the bytes that a rendition's input gave: its packets, the plans of its segments, and its fault.
use Rattle.std.specs.Prelude.{◌≡◌, ◌⊎◌, ℕ, ◌+◌, ◌≤◌, Bool, false, List, [], ◌∷◌, ◌++◌, length, Option, Some, None}
use Rattle.ts_packet.specs.Packets.{packets, decided, rest_of}
use Rattle.ts_packet.specs.State.{LacksRoomBehind}
use Rattle.ts_packet.specs.declared.lengths.TheConstants.{PACKET}
use Rattle.cutter.specs.declared.settings.CutSettings.{CutSettings}
use Rattle.cutter.specs.declared.fault.CutFault.{CutFault}
use Rattle.cutter.specs.declared.fault.CutFault.TheVariants.{NoProgram as HasNoProgram, NoStart as HasNoStart, LongSegment as IsLong, BigSegment as IsBig, Limit as PassesLimit}
use Rattle.ingest.specs.declared.fault.StreamFault.{StreamFault}
use Rattle.ingest.specs.declared.fault.StreamFault.TheVariants.{NoProgram, NoStart, LongSegment, BigSegment, Limit}
use Rattle.cutter.specs.Plans.{SegmentPlan}
use Rattle.cutter.specs.Ordered.{IsPlan}
use Rattle.cutter.specs.Cuts.{cuts, closed, plans, fault}
use Rattle.cutter.specs.Stream.{MayWantMemory}
use Rattle.cutter.specs.Spooled.{Spooling}

-- a fault of a stream, as a cutter tells it
abbrev pub as_cut : StreamFault → CutFault
as_cut NoProgram = HasNoProgram
as_cut NoStart = HasNoStart
as_cut (LongSegment n) = IsLong n
as_cut (BigSegment n) = IsBig n
as_cut Limit = PassesLimit

-- the plans of a whole stream
unfoldable pub plans_of : ℕ → CutSettings → List ℕ → List SegmentPlan
plans_of r s stream = plans r s (packets stream)

-- the fault of a whole stream
unfoldable pub fault_of : ℕ → CutSettings → List ℕ → Option CutFault
fault_of r s stream = fault r s (packets stream)

-- the plans that are closed by what the bytes so far decide
unfoldable pub closed_of : ℕ → CutSettings → List ℕ → List SegmentPlan
closed_of r s stream = closed r s (decided stream)

-- what an intake stands for: its rendition, its settings, the bytes that it took, whether it ended, the plans of the spools
-- that were turned out, and those closed in the spool that is being filled
pub record Taken : Type 0 where
  pub rendition : ℕ
  pub settings : CutSettings
  pub stream : List ℕ
  pub ended : Bool
  pub turned : List SegmentPlan
  pub filled : List SegmentPlan

-- an intake that took nothing
abbrev pub untaken : ℕ → CutSettings → Taken
untaken r s = record { rendition = r; settings = s; stream = []; ended = false; turned = []; filled = [] }

-- the plans that come behind so many others of a rendition, in order
abbrev pub AreNext : ℕ → CutSettings → ℕ → List SegmentPlan → Type 0
AreNext r s n [] = Unit {0}
AreNext r s n (plan ∷ plans) = IsPlan r s n plan × AreNext r s (n + 1) plans

-- `new` goes on from `old` as `after` does from `before`, by plans that come next
pub record GrowsAlike (r : ℕ) (s : CutSettings) (before after old new : List SegmentPlan) : Type 0 where
  pub more : List SegmentPlan
  pub grown : after ≡ before ++ more
  pub given : new ≡ old ++ more
  pub order : AreNext r s (length before) more

-- `new` goes on from `old` by the first of the plans by which `after` goes on from `before`
pub record GrowsPart (before after old new : List SegmentPlan) : Type 0 where
  pub more : List SegmentPlan
  pub rest : List SegmentPlan
  pub grown : after ≡ before ++ (more ++ rest)
  pub given : new ≡ old ++ more

-- a stream of these packets has this fault, and the plans that come before it were closed in the spool
pub record Stops (pushed : Spooling) (whole : List (List ℕ)) (told : CutFault) (filled : List SegmentPlan) : Type 0 where
  pub fault : fault pushed.rendition pushed.settings whole ≡ Some told
  pub plans : GrowsAlike pushed.rendition pushed.settings (closed pushed.rendition pushed.settings pushed.list) (plans pushed.rendition pushed.settings whole) pushed.filled filled

-- no segment goes on behind what these bytes decide
abbrev pub HasNoneOpen : Taken → Type 0
HasNoneOpen taken = (cuts taken.rendition taken.settings (decided taken.stream)).going ≡ None

-- behind the packets of a list, memory is wanting at one of these, which may want it, and neither it nor those before it bring a fault
pub record LacksMemoryAtPacket (r : ℕ) (s : CutSettings) (list packets : List (List ℕ)) : Type 0 where
  pub before : List (List ℕ)
  pub packet : List ℕ
  pub behind : List (List ℕ)
  pub split : packets ≡ before ++ packet ∷ behind
  pub sound : (cuts r s (list ++ (before ++ packet ∷ []))).fault ≡ None
  pub wants : MayWantMemory s (list ++ before) packet

-- behind the bytes that were taken, memory is wanting at a packet of these that the bytes don't decide
pub record LacksMemoryBehind (taken : Taken) (all : List (List ℕ)) : Type 0 where
  pub more : List (List ℕ)
  pub grown : all ≡ decided taken.stream ++ more
  pub stops : LacksMemoryAtPacket taken.rendition taken.settings (decided taken.stream) more

-- Memory may be wanting for a piece: for the packets in it that aren't lent, or at one of those that it decides.
abbrev pub LacksMemory : Taken → List ℕ → Type 0
LacksMemory taken piece = LacksRoomBehind taken.stream piece 0 0 ⊎ LacksMemoryBehind taken (decided (taken.stream ++ piece))

-- Memory may be wanting at the end of a stream: for a packet of the bytes that are kept, at one of the packets that the end
-- decides, or for the last plan where the stream has no fault.
abbrev pub LacksMemoryAtEnd : Taken → Type 0
LacksMemoryAtEnd taken =
    (PACKET ≤ length (rest_of taken.stream).bytes) ⊎ (LacksMemoryBehind taken (packets taken.stream)
    ⊎ (fault_of taken.rendition taken.settings taken.stream ≡ None))

-- a stream of these bytes has this fault, and the plans that come before it were closed in the spool
pub record Faults (taken : Taken) (whole : List ℕ) (told : CutFault) (filled : List SegmentPlan) : Type 0 where
  pub fault : fault_of taken.rendition taken.settings whole ≡ Some told
  pub plans : GrowsAlike taken.rendition taken.settings (closed_of taken.rendition taken.settings taken.stream) (plans_of taken.rendition taken.settings whole) taken.filled filled

-- The bytes have this fault however the stream goes on, and all plans that come before it are closed.
pub record Stays (r : ℕ) (s : CutSettings) (stream : List ℕ) (told : CutFault) : Type 0 where
  pub fault : (more : List ℕ) → fault_of r s (stream ++ more) ≡ Some told
  pub plans : (more : List ℕ) → plans_of r s (stream ++ more) ≡ closed_of r s stream
