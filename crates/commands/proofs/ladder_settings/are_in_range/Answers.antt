use Rattle.commands.proofs.ladder_settings.are_in_range.Goals as goal

pub returns : goal.returns
returns c = (
  λ is. (c.is_up_to.ensures.ok.0 c.if-not-is_up_to.false, c.are_within.ensures.0 c.if-not-are_within.false, c.is_allowed.ensures.0 is),
  λ all. c.is_allowed.ensures.1 all.2,
)
