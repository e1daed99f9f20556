-- A rendition on its way: what its bytes have closed, and why it stopped.
use Rattle.std.specs.Prelude.{◌≡◌, ℕ, ◌+◌, true, false, Bool, List, ◌++◌, Option, Some, None, slice_get}
use Rattle.ts_packet.specs.Packets.{skipped}
use Rattle.cutter.specs.declared.settings.CutSettings.{CutSettings}
use Rattle.cutter.specs.Plans.{SegmentPlan}
use Rattle.ingest.specs.declared.lane.Stop.{Stop}
use Rattle.ingest.specs.declared.lane.Stop.TheVariants.{Good, Cut, Read}
use Rattle.ingest.specs.declared.lane.Lane.{Lane}
use Rattle.ingest.specs.Streams.{Taken, GrowsPart, Stays, as_cut, untaken, plans_of, fault_of, closed_of}
use Rattle.item_io.specs.Views.{SourceView}
use Rattle.ingest.specs.Inputs.{SourceSays, IsRead}

-- the plans of the segments that are closed, where a rendition goes on or has stopped behind these bytes
abbrev pub made_of : Option Stop → ℕ → CutSettings → List ℕ → List SegmentPlan
made_of None r s stream = closed_of r s stream
made_of (Some (Good gone)) r s stream = plans_of r s stream
made_of (Some (Cut told)) r s stream = plans_of r s stream
made_of (Some Read) r s stream = closed_of r s stream

-- why it stopped: at the end of a stream without a fault, or at its fault
abbrev pub StopsBy : Option Stop → ℕ → CutSettings → List ℕ → Type 0
StopsBy None r s stream = Unit {0}
StopsBy (Some (Good gone)) r s stream = (fault_of r s stream ≡ None) × (gone ≡ skipped stream)
StopsBy (Some (Cut told)) r s stream = fault_of r s stream ≡ Some (as_cut told)
StopsBy (Some Read) r s stream = Unit {0}

abbrev pub is_good : Option Stop → Bool
is_good None = false
is_good (Some (Good gone)) = true
is_good (Some (Cut told)) = false
is_good (Some Read) = false

-- What is known of a stop at a piece of a stream: only a fault comes so, and it stands however the stream goes on.
abbrev pub IsOfPiece : Option Stop → ℕ → CutSettings → List ℕ → Type 0
IsOfPiece None r s stream = Unit {0}
IsOfPiece (Some (Good gone)) r s stream = ⊥
IsOfPiece (Some (Cut told)) r s stream = Stays r s stream (as_cut told)
IsOfPiece (Some Read) r s stream = ⊥

-- a stop at the end of a stream
abbrev pub IsOfEnd : Option Stop → Type 0
IsOfEnd None = ⊥
IsOfEnd (Some (Good gone)) = Unit {0}
IsOfEnd (Some (Cut told)) = Unit {0}
IsOfEnd (Some Read) = ⊥

-- an intake that took these bytes, and goes on
pub record IsOpen (r : ℕ) (s : CutSettings) (bytes : List ℕ) (intake : Taken) : Type 0 where
  pub rendition : intake.rendition ≡ r
  pub settings : intake.settings ≡ s
  pub stream : intake.stream ≡ bytes
  pub going : intake.ended ≡ false

-- where a rendition stands behind these bytes: what is closed was turned out, or stands in the spool that is being filled
pub record IsAt (r : ℕ) (s : CutSettings) (stream : List ℕ) (lane : Lane) : Type 0 where
  pub goes_on : lane.stop ≡ None → IsOpen r s stream lane.intake
  pub stops : StopsBy lane.stop r s stream
  pub made : lane.intake.turned ++ lane.intake.filled ≡ made_of lane.stop r s stream

-- a rendition whose input gave nothing yet
pub record IsFirst (r : ℕ) (s : CutSettings) (lane : Lane) : Type 0 where
  pub stop : lane.stop ≡ None
  pub intake : lane.intake ≡ untaken r s

-- A rendition that went on took these bytes: it goes on behind them or has stopped, and what they close was closed in its spool.
pub record Takes (old new : Lane) (stream : List ℕ) : Type 0 where
  pub plans : List SegmentPlan
  pub made : made_of new.stop old.intake.rendition old.intake.settings stream ≡ closed_of old.intake.rendition old.intake.settings old.intake.stream ++ plans
  pub filled : new.intake.filled ≡ old.intake.filled ++ plans
  pub turned : new.intake.turned ≡ old.intake.turned
  pub stops : StopsBy new.stop old.intake.rendition old.intake.settings stream
  pub goes_on : new.stop ≡ None → IsOpen old.intake.rendition old.intake.settings stream new.intake

-- a turn of a rendition that went on: one read, and all that it closes
pub record IsTurned {X : Type 0} (input : SourceView X) (source source_now : X) (old new : Lane) : Type 0 where
  pub piece : List ℕ
  pub read : IsRead input source source_now piece
  pub takes : Takes old new (old.intake.stream ++ piece)
  pub says : SourceSays input old.intake.rendition old.intake.settings (old.intake.stream ++ piece) new.stop source source_now
  pub counted : new.stop ≡ None → input.reads source_now ≡ input.reads source + 1

-- Memory ran out: an intake has ended, and its spool holds the first of the plans that come of its bytes and of some more.
pub record IsSpoiled (old new : Taken) : Type 0 where
  pub kept : new ≡ record old { stream = new.stream; ended = true; filled = new.filled }
  pub more : List ℕ
  pub part : GrowsPart (closed_of old.rendition old.settings old.stream) (plans_of old.rendition old.settings (old.stream ++ more)) old.filled new.filled

-- memory was wanting in the turn of some rendition: its intake has ended, though it hasn't stopped
pub record HasBroken (lanes : List Lane) : Type 0 where
  pub rendition : ℕ
  pub lane : Lane
  pub there : slice_get lanes rendition ≡ Some lane
  pub going : lane.stop ≡ None
  pub ended : lane.intake.ended ≡ true
