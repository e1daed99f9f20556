use Rattle.std.proofs.Common.{◌≡◌, [], map, take, drop}
use Rattle.command_line.specs.SettingsWords.{first_why}
use Rattle.command_line.proofs.settings_reason.write_unlistable_entries.Given as goal

abbrev pub invariant-loop-place : goal.invariant-loop-place
invariant-loop-place g l =
    let texts = map (λ t. t.now) l.entries in
    record {
      kept : l.f ≡ l.initial.f;
      same : first_why (take l.place texts) (drop l.place texts) ≡ first_why [] texts;
    }
