use Rattle.std.proofs.Common.{◌≡◌, ℕ, [], map, None, sym, ◌∙◌, ap}
use Rattle.std.specs.List.{filter_map}
use Rattle.std.specs.Option.{option_or}
use Rattle.psi_tables.specs.InForce.{choice_of, last_or}
use Rattle.psi_tables.specs.State.{tables_among}
use Rattle.psi_tables.proofs.Good.{HasPid-choice}
use Rattle.psi_tables.proofs.Watching.{Steps, Watches-same, Watches-anew}
use Rattle.std.proofs.lemmas.Result.{err_from_is_err_and}
use Rattle.psi_tables.proofs.Bringing.{found-brings, pats-bring, pmts-bring}
use Rattle.psi_tables.proofs.watch.Watch.take.Goals as goal
use Rattle.psi_tables.proofs.watch.Watch.take.Goals.{then-is_same_pid, else-is_same_pid}

pub last_tables-requires : goal.last_tables-requires
last_tables-requires c = rw c.self.invariant.chosen_last (HasPid-choice c.self.inside.program c.self.inside.pats.packets)

pub invariant_of-self : goal.invariant_of-self
invariant_of-self c =
    let wanted = c.self.inside.program in
    let chosen = c.self.inside.choice in
    let tables = c.self.inside.tables in
    let steps : Steps wanted c.self.inside.pats c.self.inside.pmts chosen tables c.args.packet.now c.in_ok-choice.choice (option_or c.in_ok-tables.tables tables)
    = record {
      found = map (λ section. section.items) c.in_ok-pats.pats.found.items;
      grown = c.in_ok-pats.ensures.found;
      chosen_is = c.in_ok-choice.ensures.value ∙ ap (λ found. last_or chosen (filter_map (choice_of wanted) (map (λ section. section.items) found))) c.deref.ensures.value;
      pmts_found = map (λ section. section.items) c.in_ok-pmts.pmts.found.items;
      pmts_grown = c.in_ok-pmts.ensures.found;
      tables_is = ap (λ found. option_or found tables) (c.in_ok-tables.ensures.value
          ∙ ap (λ found. last_or None (tables_among chosen (map (λ section. section.items) found))) c.deref-2.ensures.value);
    } in
    elim c.if-is_same_pid.branch [
      | then-is_same_pid w ↦
          let last : c.or.result ≡ option_or c.in_ok-tables.tables tables
          = c.or.ensures ∙ ap (option_or c.in_ok-tables.tables) (c.take.ensures.value ∙ ap (λ inside. inside.tables) w.self-inside-is) in
          rw (last, w.self-inside-is, c.follow.ensures, w.follow-then-is_same_pid.ensures)
          (Watches-same _ _ _ _ _ _ _ _ c.self.invariant steps (sym c.is_same_pid.ensures ∙ w.if-is_same_pid.true))
      | else-is_same_pid w ↦
          let last : c.or.result ≡ option_or c.in_ok-tables.tables tables
          = c.or.ensures ∙ ap (option_or c.in_ok-tables.tables) (c.take.ensures.value ∙ ap (λ inside. inside.tables) w.self-inside-is) in
          rw (last, w.self-inside-is, c.follow.ensures)
          (Watches-anew _ _ _ _ _ _ _ _ w.new.result c.self.invariant steps (sym c.is_same_pid.ensures ∙ w.if-is_same_pid.false)
          (w.new.ensures ∙ ap (λ (pid : ℕ). record { pid = pid; packets = [] }) w.gathered_pid.ensures))
    ]

pub returns-in_err-pats-clause-idle : goal.returns-in_err-pats-clause-idle
returns-in_err-pats-clause-idle c =
    let told = err_from_is_err_and c.from_residual.result c.from_residual.ensures.1 in
    rw (told.1, ← c.self.view_is) (pats-bring _ _ _ _ _ c.args.packet.now c.self.invariant
    (c.in_err-pats.ensures.carried, c.in_err-pats.ensures.idle))

pub returns-in_err-pmts-clause-idle : goal.returns-in_err-pmts-clause-idle
returns-in_err-pmts-clause-idle c =
    let told = err_from_is_err_and c.from_residual-in_err-pmts.result c.from_residual-in_err-pmts.ensures.1 in
    rw (told.1, ← c.self.view_is) (pmts-bring _ _ _ _ _ c.args.packet.now c.self.invariant
    (c.in_err-pmts.ensures.carried, c.in_err-pmts.ensures.idle))

pub returns-in_err-choice-clause-idle : goal.returns-in_err-choice-clause-idle
returns-in_err-choice-clause-idle c =
    let told = err_from_is_err_and c.from_residual-in_err-choice.result c.from_residual-in_err-choice.ensures.1 in
    rw (told.1, ← c.self.view_is) (pats-bring _ _ _ _ _ c.args.packet.now c.self.invariant
    (found-brings _ c.args.packet.now _ c.in_ok-pats.pats.found.items _ c.in_err-choice.ensures.scarce c.deref.ensures.value
    c.in_ok-pats.ensures.some c.in_ok-pats.ensures.none))

pub returns-in_err-tables-clause-idle : goal.returns-in_err-tables-clause-idle
returns-in_err-tables-clause-idle c =
    let told = err_from_is_err_and c.from_residual-in_err-tables.result c.from_residual-in_err-tables.ensures.1 in
    rw (told.1, ← c.self.view_is) (pmts-bring _ _ _ _ _ c.args.packet.now c.self.invariant
    (found-brings _ c.args.packet.now _ c.in_ok-pmts.pmts.found.items _ c.in_err-tables.ensures.scarce c.deref-2.ensures.value
    c.in_ok-pmts.ensures.some c.in_ok-pmts.ensures.none))
