use Rattle.std.proofs.Common.{refl, arith, map, subst, sym}
use Rattle.std.proofs.lemmas.List.{length-map}
use Rattle.command_line.specs.EntryTexts.{IsNamed}
use Rattle.commands.proofs.TextFacts.{there, one-further, some-there}
use Rattle.command_line.proofs.Listing.{among-decided}
use Rattle.command_line.proofs.settings_reason.is_among.Goals as goal

pub returns-then-is_named-clause-ok : goal.returns-then-is_named-clause-ok
returns-then-is_named-clause-ok c = (
  λ _. some-there (IsNamed c.args.name.now) c.args.entries.now c.loop-place.place _ c.loop-place-test.true (c.is_named.ensures.0 c.if-is_named.true),
  λ _. refl,
)

pub returns-clause-ok : goal.returns-clause-ok
returns-clause-ok c = (
  λ no. absurd (cc (no)),
  λ (place, text, within, is, named). absurd (c.loop-place.invariant place text (omega (arith, within, length-map c.args.entries.now (λ t. t.now), c.loop-place-test.false))
      (subst (IsNamed c.args.name.now) (sym is) named)),
)

pub loop-place-preserved : goal.loop-place-preserved
loop-place-preserved c = one-further (λ text. ¬ IsNamed c.args.name.now text) (map (λ t. t.now) c.args.entries.now) c.loop-place.place c.loop-place.invariant
    (λ d. there (λ text. ¬ IsNamed c.args.name.now text) c.args.entries.now c.loop-place.place _ d c.loop-place-test.true (λ named. cc (c.is_named.ensures.1 named, c.if-is_named.false)))

pub returns-then-is_named-clause-same : goal.returns-then-is_named-clause-same
returns-then-is_named-clause-same c = among-decided _ _ _ (returns-then-is_named-clause-ok c)

pub returns-clause-same : goal.returns-clause-same
returns-clause-same c = among-decided _ _ _ (returns-clause-ok c)
