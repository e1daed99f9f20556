-- A read that failed, and a source that is left.
use Rattle.std.proofs.Common.{◌≡◌, ◌∙◌, ◌+◌, ◌++◌, ◌⊎◌, ℕ, List, [], true, Option, Some, None, ap, sym, subst, arith}
use Rattle.std.specs.Io.KnownBytes.{Consumes, IsAtEnd, Keeps}
use Rattle.ingest.specs.Inputs.{SourceSays}
use Rattle.std.proofs.lemmas.List.{append-nil}
use Rattle.std.proofs.KnownBytes.{Consumes-nil, Consumes-kept}
use Rattle.cutter.specs.declared.settings.CutSettings.{CutSettings}
use Rattle.ingest.specs.declared.lane.Stop.{Stop}
use Rattle.ingest.specs.declared.lane.Stop.TheVariants.{Good, Cut, Read}
use Rattle.ingest.specs.declared.lane.Lane.{Lane}
use Rattle.ingest.specs.Streams.{Stays, Taken, as_cut, closed_of}
use Rattle.item_io.specs.Views.{Leaves, SourceView}
use Rattle.ingest.specs.Lanes.{IsTurned}

-- it took nothing, and nothing was closed
pub read-failed : {X : Type 0} (input : SourceView X) (a b : X) (lane : Lane) (ended : Taken) → ended ≡ record lane.intake { ended = true } → Keeps (input.left a) (input.left b)
    → input.reads b ≡ input.reads a → input.failures b ≡ input.failures a + 1 → IsTurned input a b lane (record { intake = ended; stop = Some Read })
read-failed input a b lane ended is kept counted failed = record {
  piece = [];
  read = record {
    consumes = Consumes-kept (input.left a) (input.left a) (input.left b) [] (Consumes-nil (input.left a)) kept;
    short = omega arith;
    bytes = λ k d below. absurd (omega (arith, below));
    counted = omega (arith, counted);
  };
  takes = record {
    plans = [];
    made = ap (closed_of lane.intake.rendition lane.intake.settings) (append-nil lane.intake.stream) ∙ sym (append-nil _);
    filled = ap (λ (t : Taken). t.filled) is ∙ sym (append-nil _);
    turned = ap (λ (t : Taken). t.turned) is;
    stops = tt;
    goes_on = λ e. cc;
  };
  says = failed;
  counted = λ e. cc;
}

-- a source that is left says the same
says-left : {X : Type 0} (input : SourceView X) (r : ℕ) (s : CutSettings) (stream : List ℕ) (stop : Option Stop) (a b c : X) → Leaves input b c
    → SourceSays input r s stream stop a b → SourceSays input r s stream stop a c
says-left input r s stream None a b c left says = left.failures ∙ says
says-left input r s stream (Some (Good gone)) a b c left says = (left.failures ∙ says.0, subst (λ (l : Option (List ℕ)). IsAtEnd l) (sym left.bytes) says.1)
says-left input r s stream (Some (Cut told)) a b c left says =
    (left.failures ∙ says.0, subst (λ (l : Option (List ℕ)). IsAtEnd l ⊎ Stays r s stream (as_cut told)) (sym left.bytes) says.1)
says-left input r s stream (Some Read) a b c left says = left.failures ∙ says

-- a turn whose source was left
pub turned-left : {X : Type 0} (input : SourceView X) (a b c : X) (old new : Lane) → Leaves input b c → IsTurned input a b old new → IsTurned input a c old new
turned-left input a b c old new left turned = record {
  piece = turned.piece;
  read = record {
    consumes = subst (λ (l : Option (List ℕ)). Consumes (input.left a) l turned.piece) (sym left.bytes) turned.read.consumes;
    short = turned.read.short;
    bytes = turned.read.bytes;
    counted = omega (arith, left.reads, turned.read.counted);
  };
  takes = turned.takes;
  says = says-left input old.intake.rendition old.intake.settings (old.intake.stream ++ turned.piece) new.stop a b c left turned.says;
  counted = λ e. left.reads ∙ turned.counted e;
}
