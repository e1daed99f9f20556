use Rattle.std.proofs.Common.{refl, rules, ◌∙◌}
use Rattle.cutter.specs.declared.reel.Reel.TheInside.{Inside}
use Rattle.cutter.proofs.Reeling.{Copies, copied_is, copied_laid}
use Rattle.cutter.proofs.PlansAt.{in_front}
use Rattle.cutter.proofs.reel.Reel.copy_open.Goals as goal

pub invariant_of-self-in_err-append-2 : goal.invariant_of-self-in_err-append-2
invariant_of-self-in_err-append-2 c =
    let front = in_front _ _ _ c.self.invariant.joined in
    search rules

pub invariant_of-self-2 : goal.invariant_of-self-2
invariant_of-self-2 c =
    let after : Inside = record (c.self.inside) { bytes = c.append.new.list; frames = c.append-2.new.list; pending = c.other.inside.pending } in
    let copies : Copies c.self.inside c.other.inside after = record {
      emptied = c.self.view_is ∙ c.clear.ensures;
      bytes = search rules;
      frames = search rules;
      plans_at = refl;
      body_at = refl;
      frames_at = refl;
      pending = refl;
    } in
    copied_laid c.self.inside c.other.inside after c.self.invariant c.other.invariant copies

pub returns-clause-ok : goal.returns-clause-ok
returns-clause-ok c =
    let after : Inside = record (c.self.inside) { bytes = c.append.new.list; frames = c.append-2.new.list; pending = c.other.inside.pending } in
    let copies : Copies c.self.inside c.other.inside after = record {
      emptied = c.self.view_is ∙ c.clear.ensures;
      bytes = search rules;
      frames = search rules;
      plans_at = refl;
      body_at = refl;
      frames_at = refl;
      pending = refl;
    } in
    copied_is c.self.inside c.other.inside after c.args.other.now c.self.invariant c.other.view_is copies
