use Rattle.std.proofs.Common.{◌≡◌, ◌+◌, inl, inr, ap, arith}
use Rattle.std.proofs.lemmas.Result.{IfErr-at_err, IfOk-at_ok}
use Rattle.flow_core.specs.Gatherings.{Gathering}
use Rattle.ingest.proofs.Taking.{OnOk-map}
use Rattle.rounds.specs.Rounds.{gathered}
use Rattle.rounds.proofs.round.taking.wait_or_seal.Goals as goal

pub returns-in-Ok-clause-further : goal.returns-in-Ok-clause-further
returns-in-Ok-clause-further g c =
    let one = IfOk-at_ok (λ _. c.take_one.new.taker.pass.count ≡ c.args.taker.now.pass.count + 1) c.in-Ok.is c.in_ok-take_one.ensures.counted in
    inl (omega (arith, one))

pub returns-in-Err-clause-further : goal.returns-in-Err-clause-further
returns-in-Err-clause-further g c = OnOk-map c.seal_missing.result inr c.seal_missing.ensures.all

pub returns-in-Ok-clause-untaken : goal.returns-in-Ok-clause-untaken
returns-in-Ok-clause-untaken g c same =
    let one = IfOk-at_ok (λ _. c.take_one.new.taker.pass.count ≡ c.args.taker.now.pass.count + 1) c.in-Ok.is c.in_ok-take_one.ensures.counted in
    absurd (omega (arith, one, same))

pub returns-in-Err-clause-untaken : goal.returns-in-Err-clause-untaken
returns-in-Err-clause-untaken g c same =
    let none = IfErr-at_err (λ _. (c.take_one.new.taker.pass.count ≡ c.args.taker.now.pass.count) × (c.take_one.new.collector ≡ c.args.collector.now)) c.in-Err.is c.in_ok-take_one.ensures.uncounted in
    let right : c.take_one.new.taker.right ≡ c.args.taker.now.right = omega (arith, c.in_ok-take_one.ensures.fair, ap (λ (x : Gathering). gathered x.sequences) none.1) in
    OnOk-map c.seal_missing.result (λ _. right) c.seal_missing.ensures.all

pub returns-in-Err-clause-exact : goal.returns-in-Err-clause-exact
returns-in-Err-clause-exact g c more =
    let none = IfErr-at_err (λ _. (c.take_one.new.taker.pass.count ≡ c.args.taker.now.pass.count) × (c.take_one.new.collector ≡ c.args.collector.now)) c.in-Err.is c.in_ok-take_one.ensures.uncounted in
    absurd (omega (arith, none.0, more))
