-- What a source tells of its rendition's way.
use Rattle.std.specs.Prelude.{◌≡◌, ℕ, ◌+◌, ◌<◌, ◌≤◌, List, [], length, Option, Some, None, ◌⊎◌}
use Rattle.std.specs.Io.KnownBytes.{Consumes, IsAtEnd}
use Rattle.ghost_list.specs.Bytes.{AreBytes}
use Rattle.cutter.specs.declared.settings.CutSettings.{CutSettings}
use Rattle.ingest.specs.declared.lane.Stop.{Stop}
use Rattle.ingest.specs.declared.lane.Stop.TheVariants.{Good, Cut, Read}
use Rattle.ingest.specs.Streams.{LacksMemory, LacksMemoryAtEnd, Stays, Taken, as_cut}
use Rattle.item_io.specs.Views.{SourceView}
use Rattle.item_io.specs.declared.limits.TheConstants.{PIECE}

-- What an input says of why its rendition stopped, or goes on: a read failed where that is told and else none did; at a
-- good end no byte is left, and where bytes are left a fault stands however they go on.
abbrev pub SourceSays : {X : Type 0} → SourceView X → ℕ → CutSettings → List ℕ → Option Stop → X → X → Type 0
SourceSays input r s stream None old new = input.failures new ≡ input.failures old
SourceSays input r s stream (Some (Good gone)) old new = (input.failures new ≡ input.failures old) × IsAtEnd (input.left new)
SourceSays input r s stream (Some (Cut told)) old new = (input.failures new ≡ input.failures old) × (IsAtEnd (input.left new) ⊎ Stays r s stream (as_cut told))
SourceSays input r s stream (Some Read) old new = input.failures new ≡ input.failures old + 1

-- one read of at most 18,800 bytes took this piece
pub record IsRead {X : Type 0} (input : SourceView X) (old new : X) (piece : List ℕ) : Type 0 where
  pub consumes : Consumes (input.left old) (input.left new) piece
  pub short : length piece ≤ PIECE
  pub bytes : AreBytes piece
  pub counted : input.reads new ≤ input.reads old + 1

-- a read brought a piece that may want memory, or came to an end that may
abbrev pub BringsWant : {X : Type 0} → SourceView X → X → Taken → List ℕ → Type 0
BringsWant input now taken piece = (0 < length piece) × LacksMemory taken piece ⊎ ((piece ≡ []) × IsAtEnd (input.left now) × LacksMemoryAtEnd taken)

-- a turn that was cut off for want of memory: one read, and what it brought may want memory
pub record IsCutOff {X : Type 0} (input : SourceView X) (old new : X) (taken : Taken) : Type 0 where
  pub piece : List ℕ
  pub read : IsRead input old new piece
  pub wants : BringsWant input new taken piece
