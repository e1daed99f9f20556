use Rattle.std.proofs.Common.{ℕ, Option, length, inl, inr, sym, ◌∙◌, subst}
use Rattle.std.proofs.lemmas.Bool.{false≢true}
use Rattle.std.proofs.lemmas.Result.{IfErr-weaker}
use Rattle.psi_tables.specs.InForce.{since_change}
use Rattle.psi_tables.specs.State.{Gathered, pid_of, IsCarried}
use Rattle.psi_tables.specs.declared.choice.Choice.{Choice}
use Rattle.psi_tables.proofs.Watching.{Watches-passed}
use Rattle.psi_tables.proofs.watch.Watch.push.Goals as goal
use Rattle.psi_tables.proofs.watch.Watch.push.Goals.{then-takes, else-takes}

pub invariant_of-self : goal.invariant_of-self
invariant_of-self c = elim c.if-takes.branch [
  | then-takes w ↦
      absurd (false≢true (sym c.if-is_taken.false ∙ w.is_taken-is ∙ w.if-takes.true))
  | else-takes w ↦
      rw (c.follow.ensures, c.follow-2.ensures)
      (Watches-passed _ _ _ _ _ _ c.self.invariant (c.takes.ensures.none w.if-takes.false)
      (w.takes-is_taken.ensures.none (sym w.is_taken-is ∙ c.if-is_taken.false)))
]

pub returns-then-is_taken-clause-none : goal.returns-then-is_taken-clause-none
returns-then-is_taken-clause-none c =
    let p = c.args.packet.now in
    IfErr-weaker c.take.result _ _ (λ _ _. rw (← c.self.view_is) (elim c.if-takes.branch [
      | then-takes w ↦ inl (subst (λ (on : ℕ). IsCarried (record { pid = on; packets = c.self.inside.pats.packets }) p) c.self.invariant.on_pid_0 (c.takes.ensures.carried w.if-takes.true))
      | else-takes w ↦
          let carried = subst (λ (g : Gathered). IsCarried g p) c.self.invariant.gathered (w.takes-is_taken.ensures.carried (sym w.is_taken-is ∙ c.if-is_taken.true)) in
          let since = since_change c.self.inside.program c.self.inside.pats.packets (length c.self.inside.pats.packets) in
          inr (subst (λ (chosen : Option Choice). IsCarried (record { pid = pid_of chosen; packets = since }) p) c.self.invariant.chosen_last carried)
    ])) c.take.ensures.err
