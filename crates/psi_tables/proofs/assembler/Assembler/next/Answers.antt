use Rattle.std.proofs.Common.{◌≢◌, ◌⊎◌, ℕ, List, [], inl, inr, sym, ap, subst, ◌∙◌}
use Rattle.psi_tables.specs.State.{BeginsSection, completed}
use Rattle.std.proofs.lemmas.Result.{err_from_is_err_and}
use Rattle.psi_tables.specs.Sections.{carrier}
use Rattle.psi_tables.proofs.Flow.{front_from, front_only}
use Rattle.psi_tables.proofs.Carrying.{continued-is_front}
use Rattle.psi_tables.proofs.Keeping.{Keeps-taken, Keeps-left_out, taken-carried}
use Rattle.psi_tables.proofs.Bringing.{may-bring, found-or-brings, map-none}
use Rattle.psi_tables.proofs.assembler.Assembler.next.Goals as goal
use Rattle.psi_tables.proofs.assembler.Assembler.next.Goals.{After-is_taken}

pub returns-then-not-is_taken-clause-follows : goal.returns-then-not-is_taken-clause-follows
returns-then-not-is_taken-clause-follows c =
    rw (← c.self.view_is) (Keeps-left_out _ c.args.packet.now _ _ c.self.invariant (sym c.is_taken.ensures ∙ c.if-not-is_taken.true)).left_out

pub returns-then-not-is_taken-clause-found : goal.returns-then-not-is_taken-clause-found
returns-then-not-is_taken-clause-found c =
    rw (← c.self.view_is, c.new.ensures.items) (Keeps-left_out _ c.args.packet.now _ _ c.self.invariant (sym c.is_taken.ensures ∙ c.if-not-is_taken.true)).grown

pub gather-requires : goal.gather-requires
gather-requires c =
    rw c.continued.ensures (front_only _ (continued-is_front _ _ (carrier c.args.packet.now) (front_from _ c.self.invariant.only_a_front)))

pub returns-clause-follows : goal.returns-clause-follows
returns-clause-follows c =
    let takes = Keeps-taken _ c.args.packet.now _ _ c.self.invariant (sym c.is_taken.ensures ∙ c.if-not-is_taken.false) in
    rw (← c.self.view_is, c.counter.ensures, c.in_ok-brought.ensures.begun, c.continued.ensures) takes.keeps

pub returns-clause-found : goal.returns-clause-found
returns-clause-found c =
    let takes = Keeps-taken _ c.args.packet.now _ _ c.self.invariant (sym c.is_taken.ensures ∙ c.if-not-is_taken.false) in
    rw (← c.self.view_is, c.in_ok-brought.ensures.found, c.continued.ensures) takes.grown

pub returns-in_err-brought-clause-carried : goal.returns-in_err-brought-clause-carried
returns-in_err-brought-clause-carried c =
    let told = err_from_is_err_and c.from_residual.result c.from_residual.ensures.1 in
    rw (told.1, ← c.self.view_is) (taken-carried _ c.args.packet.now _ _ c.self.invariant (sym c.is_taken.ensures ∙ c.if-not-is_taken.false))

pub returns-then-not-is_taken-clause-some : goal.returns-then-not-is_taken-clause-some
returns-then-not-is_taken-clause-some c = inl c.new.ensures.items

pub returns-clause-some : goal.returns-clause-some
returns-clause-some c = inr (rw (← c.self.view_is) (taken-carried _ c.args.packet.now _ _ c.self.invariant (sym c.is_taken.ensures ∙ c.if-not-is_taken.false)))

pub returns-in_err-brought-clause-idle : goal.returns-in_err-brought-clause-idle
returns-in_err-brought-clause-idle c =
    let told = err_from_is_err_and c.from_residual.result c.from_residual.ensures.1 in
    rw (told.1, ← c.self.view_is) (may-bring _ c.args.packet.now _ _ c.self.invariant
    (subst (λ (x : List ℕ). (x ≢ []) ⊎ BeginsSection c.args.packet.now) c.continued.ensures c.in_err-brought.ensures.idle))

pub returns-then-not-is_taken-clause-none : goal.returns-then-not-is_taken-clause-none
returns-then-not-is_taken-clause-none c = inl c.new.ensures.items

pub returns-clause-none : goal.returns-clause-none
returns-clause-none c =
    elim (found-or-brings _ c.args.packet.now _ _ c.self.invariant) [
      | inl none ↦ inl (map-none _ _ (c.in_ok-brought.ensures.found ∙ ap (λ x. completed x (carrier c.args.packet.now)) c.continued.ensures ∙ none))
      | inr brings ↦ inr (rw (← c.self.view_is) brings)
    ]
