use Rattle.std.proofs.Common.{arith, rules, ◌≡◌, ◌∙◌, ap₂, sym, subst, ◌+◌, ◌∷◌, [], ◌++◌, ℕ, List, map, length}
use Rattle.ladder_items.specs.Ladder.{RenditionValue}
use Rattle.keeping.specs.Keepings.{KeepingValue}
use Rattle.removal.specs.Retaining.{AreKeptUpTo, kept_for}
use Rattle.removal.proofs.Untold.{kept-more, untold}
use Rattle.removal.proofs.retaining.keepings.Goals as goal

pub loop-r-preserved : goal.loop-r-preserved
loop-r-preserved c =
    let ladder = c.args.settings.now in
    let older = map (λ n. n.items) c.args.older.now in
    let one = c.in_ok-keeping_of.field-0 in
    let pushed : c.push.new.self.items ≡ c.loop-r.made.items ++ one ∷ [] = c.in_ok-push.ensures.items in
    let len : c.len-r-end.result ≡ length ladder.renditions = search rules in (
      subst (λ (l : List KeepingValue). AreKeptUpTo ladder older l (c.loop-r.r + 1)) (sym pushed)
          (kept-more ladder older c.loop-r.made.items c.loop-r.r one c.loop-r.invariant.0
          (c.in_ok-keeping_of.ensures ∙ ap₂ (λ (x : RenditionValue) (n : List ℕ). kept_for ladder x n) c.rendition_of-rendition.ensures c.numbers_at-numbers.ensures)),
      omega (arith, c.loop-r-test.true, len),
    )

pub returns-clause-untold : goal.returns-clause-untold
returns-clause-untold c = untold c.args.settings.now (map (λ n. n.items) c.args.older.now) c.loop-r.made.items c.loop-r.r c.loop-r.invariant.0

pub returns-clause-kept : goal.returns-clause-kept
returns-clause-kept c =
    let ladder = c.args.settings.now in
    let len : c.len-r-end.result ≡ length ladder.renditions = search rules in
    λ live. subst (λ (n : ℕ). AreKeptUpTo ladder (map (λ n. n.items) c.args.older.now) c.loop-r.made.items n) (omega (arith, c.loop-r-test.false, len, c.loop-r.invariant.1)) c.loop-r.invariant.0
