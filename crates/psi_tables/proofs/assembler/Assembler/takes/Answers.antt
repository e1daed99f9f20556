use Rattle.std.proofs.Common.{◌∙◌, sym, append-nil}
use Rattle.psi_tables.proofs.Keeping.{Keeps-left_out, taken-carried}
use Rattle.psi_tables.proofs.assembler.Assembler.takes.Goals as goal

pub returns-clause-follows : goal.returns-clause-follows
returns-clause-follows c = λ left.
    rw (← c.self.view_is) (Keeps-left_out _ c.args.packet.now _ _ c.self.invariant (sym c.is_taken.ensures ∙ left)).left_out

pub returns-clause-none : goal.returns-clause-none
returns-clause-none c = λ left.
    rw (← c.self.view_is) ((Keeps-left_out _ c.args.packet.now _ _ c.self.invariant (sym c.is_taken.ensures ∙ left)).grown ∙ append-nil _)

pub returns-clause-carried : goal.returns-clause-carried
returns-clause-carried c = λ taken. rw (← c.self.view_is) (taken-carried _ c.args.packet.now _ _ c.self.invariant (sym c.is_taken.ensures ∙ taken))
