-- What the calling thread was told in a round is told, where the round is closed.
use Rattle.std.proofs.Common.{◌≡◌, ◌∙◌, ℕ, ◌+◌, List, [], length, Result, Ok, Err, ap, sym, subst, arith}
use Rattle.std.specs.Prelude.{OnOk, IfOk, IfErr}
use Rattle.std.proofs.lemmas.Result.{on_ok_weaker, IfErr-weaker}
use Rattle.cutter.specs.Plans.{SegmentPlan}
use Rattle.live_board.specs.Snapshots.{Known}
use Rattle.item_io.specs.Views.{OutletView, SourceView}
use Rattle.ladder_items.specs.declared.fault.PackFault.{PackFault}
use Rattle.ladder_items.specs.Ladder.{Ladder}
use Rattle.rounds.specs.declared.run.books.Books.{Books}
use Rattle.rounds.specs.declared.giving.broadcast.Broadcast.{Broadcast}
use Rattle.rounds.specs.declared.run.between.BetweenRounds.{BetweenRounds}
use Rattle.rounds.specs.declared.run.course.Course.{Course}
use Rattle.rounds.specs.declared.run.pace.Pace.{Pace}
use Rattle.rounds.specs.Courses.{Start, IsOn, IsStopped}
use Rattle.rounds.specs.Rounds.{IsDriven, IsRound, unfed_of}

module _ {X Y R : Type 0} (input : SourceView X) (out : OutletView Y) (ladder : Ladder) (spools : List (List SegmentPlan)) (pace : Pace) (old mid closed : BetweenRounds X Y R)
    (answer told : Result (Unit {0}) PackFault) (same : told ≡ answer) (is : closed.broadcast ≡ mid.broadcast) where
  round-made : (right : ℕ) → mid.books ≡ old.books → closed.books.rounds ≡ mid.books.rounds + 1 → closed.books.right ≡ mid.books.right + right
      → length closed.books.workers.items ≡ length mid.books.workers.items
      → IsDriven input out ladder spools pace old.broadcast 0 mid.broadcast right → IsRound input out ladder spools pace old closed
  round-made right kept rounds more each there =
      let d = subst (λ (b : Broadcast X Y R). IsDriven input out ladder spools pace old.broadcast 0 b right) (sym is) there in
      record {
        driven = record { on = d.on; further = d.further; fair = omega (arith, more, ap (λ (b : Books). b.right) kept, d.fair); soon = d.soon };
        rounds = rounds ∙ ap (λ (b : Books). b.rounds + 1) kept;
        each = each ∙ ap (λ (b : Books). length b.workers.items) kept;
      }

  pub round-closed : (right : ℕ) → mid.books ≡ old.books → closed.books.rounds ≡ mid.books.rounds + 1 → closed.books.right ≡ mid.books.right + right
      → length closed.books.workers.items ≡ length mid.books.workers.items
      → OnOk answer (IsDriven input out ladder spools pace old.broadcast 0 mid.broadcast right) → OnOk told (IsRound input out ladder spools pace old closed)
  round-closed right kept rounds more each all =
      subst (λ (r : Result (Unit {0}) PackFault). OnOk r (IsRound input out ladder spools pace old closed)) (sym same)
      (on_ok_weaker {Q = IsRound input out ladder spools pace old closed} answer (round-made right kept rounds more each) all)

module _ {X Y : Type 0} (input : SourceView X) (out : OutletView Y) (ladder : Ladder) (spools : List (List SegmentPlan)) (old new closed : Course X Y) (shows shows_now shows_closed : Known)
    (answer told : Result (Unit {0}) PackFault) (same : told ≡ answer) (courses : closed ≡ new) (shown : shows_closed ≡ shows_now) where
  abbrev Stops : Course X Y → Known → PackFault → Type 0
  Stops course shows_then fault = (start : Start X Y) → IsOn input out ladder start old shows (unfed_of spools) → IsStopped input out ladder start course shows_then fault

  pub break-closed : IfErr answer (λ fault. (start : Start X Y) → IsOn input out ladder start old shows (unfed_of spools) → IsStopped input out ladder start new shows_now fault)
      → IfErr told (λ fault. (start : Start X Y) → IsOn input out ladder start old shows (unfed_of spools) → IsStopped input out ladder start closed shows_closed fault)
  break-closed all =
      subst (λ (r : Result (Unit {0}) PackFault). IfErr r (Stops closed shows_closed)) (sym same)
      (subst (λ (d : Course X Y). IfErr answer (Stops d shows_closed)) (sym courses)
      (subst (λ (k : Known). IfErr answer (Stops new k)) (sym shown) all))

-- What is told of a run that stands here is told of one that stood before.
module _ {X Y : Type 0} (input : SourceView X) (out : OutletView Y) (ladder : Ladder) (old mid new : Course X Y) (shows shows_mid shows_new : Known) (answer : Result (Unit {0}) PackFault)
    (moves : (start : Start X Y) → IsOn input out ladder start old shows (λ k. []) → IsOn input out ladder start mid shows_mid (λ k. [])) where
  pub moved-ok : OnOk answer ((start : Start X Y) → IsOn input out ladder start mid shows_mid (λ k. []) → IsOn input out ladder start new shows_new (λ k. []))
      → OnOk answer ((start : Start X Y) → IsOn input out ladder start old shows (λ k. []) → IsOn input out ladder start new shows_new (λ k. []))
  moved-ok all =
      on_ok_weaker {Q = (start : Start X Y) → IsOn input out ladder start old shows (λ k. []) → IsOn input out ladder start new shows_new (λ k. [])} answer
      (λ f start on. f start (moves start on)) all

  pub moved-err : IfErr answer (λ fault. (start : Start X Y) → IsOn input out ladder start mid shows_mid (λ k. []) → IsStopped input out ladder start new shows_new fault)
      → IfErr answer (λ fault. (start : Start X Y) → IsOn input out ladder start old shows (λ k. []) → IsStopped input out ladder start new shows_new fault)
  moved-err all =
      IfErr-weaker answer (λ fault. (start : Start X Y) → IsOn input out ladder start mid shows_mid (λ k. []) → IsStopped input out ladder start new shows_new fault)
      (λ fault. (start : Start X Y) → IsOn input out ladder start old shows (λ k. []) → IsStopped input out ladder start new shows_new fault)
      (λ fault f start on. f start (moves start on)) all

-- more is known of what an answer holds
pub ok-weaker : {T E : Type 0} (r : Result T E) (P Q : T → Type 0) → ((x : T) → P x → Q x) → IfOk r P → IfOk r Q
ok-weaker (Ok x) P Q f p = f x p
ok-weaker (Err e) P Q f p = tt

-- what is known of each fault is known of one that is told
pub err-all : {T E : Type 0} (r : Result T E) (P : E → Type 0) → ((e : E) → P e) → IfErr r P
err-all (Ok x) P all = tt
err-all (Err e) P all = all e

-- What is told of a fault is told of the same fault.
pub fault-told : {X : Type 0} (P : PackFault → Type 0) (answer told : Result X PackFault) → told ≡ answer → IfErr answer P → IfErr told P
fault-told {X} P answer told same all = subst (λ (r : Result X PackFault). IfErr r P) (sym same) all
