-- The answer of a run on one thread, where no rendition goes on or one has had all its reads.
use Rattle.std.proofs.Common.{◌≡◌, ◌∙◌, ◌⊎◌, inl, inr, ℕ, ◌≤◌, List, Some, None, slice_get, sym, subst, arith}
use Rattle.ingest.specs.declared.lane.Lane.{Lane}
use Rattle.item_io.specs.Views.{OutletView, SourceView}
use Rattle.ladder_items.specs.declared.fault.PackFault.{PackFault}
use Rattle.ladder_items.specs.declared.fault.PackFault.TheVariants.{Held as HeldBack, NoMemory, Outlet as OutletFault}
use Rattle.ladder_items.specs.declared.report.Report.{Report}
use Rattle.ladder_items.specs.Ladder.{Ladder, IsAllowed}
use Rattle.ladder_items.specs.Shown.{Shown}
use Rattle.ladder_items.specs.Runs.{run_of}
use Rattle.ladder_items.specs.World.{NothingDue, turns_of}
use Rattle.ladder_items.specs.Packed.{FaultSays, IsPacked}
use Rattle.ladder_items.proofs.Stages.{turns-none}
use Rattle.ladder_items.proofs.Endings.{world-halted, world-packed, halted-says}
use Rattle.serial_run.specs.Answers.{IsAnswer, IsAnswered}
use Rattle.serial_run.specs.OneThread.{IsCutAtOnce}
use Rattle.ladder_items.proofs.Unheld.{told-unheld}
use Rattle.serial_run.proofs.AtOnce.{told-unsudden, stop-at-once}

scarce-unheld : (e : PackFault) (r n : ℕ) → e ≡ NoMemory → e ≡ HeldBack r n → ⊥
scarce-unheld e r n scarce is = cc

-- no segment was held back
pub answered-unheld : (lanes : List Lane) (e : PackFault) (r n : ℕ) → IsAnswered lanes e → e ≡ HeldBack r n → ⊥
answered-unheld lanes e r n (inl first) is = told-unheld first.0 first.1.stop e r n first.3 is
answered-unheld lanes e r n (inr scarce) is = scarce-unheld e r n scarce.0 is

module _ (X Y : Type 0) (input : SourceView X) (out : OutletView Y) (most_reads : ℕ) (ladder : Ladder) where
  -- the run ended well
  pub packed : (rounds : ℕ) (before now : List X) (lanes : List Lane) (shown : List Shown) (x y : Y) (report : Report) → rounds ≤ most_reads
      → NothingDue (run_of input out most_reads before now x y) ladder (turns_of rounds 0) lanes shown
      → IsAnswer lanes shown report
      → IsPacked (run_of input out most_reads before now x y) ladder report
  packed rounds before now lanes shown x y report few d is =
      (world-packed X Y input out most_reads ladder (turns_of rounds 0) before now lanes shown x y report is.good is.numbers (λ k. omega (arith, turns-none rounds k, few)) d).0

  -- a fault stands, or memory is wanting where none does
  pub answered : (rounds : ℕ) (before now : List X) (lanes : List Lane) (shown : List Shown) (x y : Y) (e : PackFault) → rounds ≤ most_reads
      → IsAllowed ladder → NothingDue (run_of input out most_reads before now x y) ladder (turns_of rounds 0) lanes shown
      → ((k : ℕ) (lane : Lane) → slice_get lanes k ≡ Some lane → lane.stop ≡ None → rounds ≡ most_reads)
      → out.failures y ≡ out.failures x → IsAnswered lanes e
      → FaultSays (run_of input out most_reads before now x y) ladder e
  answered rounds before now lanes shown x y e few allowed d limit unfailed (inl first) =
      halted-says X Y input out most_reads ladder before now x y first.0 first.1.stop e first.3
      (world-halted X Y input out most_reads ladder (turns_of rounds 0) before now lanes shown x y first.0 first.1 first.2 first.4
      (λ k lane at none. turns-none rounds k ∙ limit k lane at none) (λ k. omega (arith, turns-none rounds k, few)) allowed d).0
  answered rounds before now lanes shown x y e few allowed d limit unfailed (inr scarce) =
      subst (λ (f : PackFault). FaultSays (run_of input out most_reads before now x y) ladder f) (sym scarce.0)
      ((stop-at-once X Y input out most_reads ladder rounds before now lanes shown x y few allowed scarce.1 d).cut, unfailed)

  -- memory is wanting: nothing was read behind what was given
  pub answered-at-once : (rounds : ℕ) (before now : List X) (lanes : List Lane) (shown : List Shown) (x y : Y) (e : PackFault) → rounds ≤ most_reads
      → IsAllowed ladder → NothingDue (run_of input out most_reads before now x y) ladder (turns_of rounds 0) lanes shown
      → IsAnswered lanes e → (e ≡ OutletFault) ⊎ (e ≡ NoMemory)
      → IsCutAtOnce (run_of input out most_reads before now x y) ladder
  answered-at-once rounds before now lanes shown x y e few allowed d (inl first) sudden = absurd (told-unsudden first.0 first.1.stop e first.3 sudden)
  answered-at-once rounds before now lanes shown x y e few allowed d (inr scarce) sudden =
      stop-at-once X Y input out most_reads ladder rounds before now lanes shown x y few allowed scarce.1 d
