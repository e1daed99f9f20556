use Rattle.std.proofs.Common.{◌∙◌, ◌++◌, ap}
use Rattle.std.proofs.lemmas.Bool.{true≢false}
use Rattle.std.proofs.lemmas.Result.{err_from_is_err_and}
use Rattle.cutter.specs.SegmentState.{held_in}
use Rattle.cutter.specs.Spooled.{Spooling, joined}
use Rattle.cutter.proofs.Ending.{finish-sound, finish-fault, finish-scarce, finish-closes, finish-all}
use Rattle.cutter.proofs.spool_cutter.SpoolCutter.finish.Goals as goal

pub returns-in_err-finish-clause-fault : goal.returns-in_err-finish-clause-fault
returns-in_err-finish-clause-fault c going =
    let told = err_from_is_err_and c.from_residual.result c.from_residual.ensures.1 in
    rw (told.1, told.2) (finish-fault c.self.inside c.args.self.now _ _ c.in_err-finish.field-0.0 c.self.view_is (c.self.invariant.keeps c.if-self.false)
    (ap (λ g. held_in g c.self.inside.reel) c.take-going.ensures.value) c.tables.ensures c.in_err-finish.ensures.err)

pub returns-in_err-finish-clause-scarce : goal.returns-in_err-finish-clause-scarce
returns-in_err-finish-clause-scarce c =
    let told = err_from_is_err_and c.from_residual.result c.from_residual.ensures.1 in
    rw (told.1, told.2) (finish-scarce c.self.inside c.args.self.now _ _ c.in_err-finish.field-0.0 c.self.view_is (c.self.invariant.keeps c.if-self.false)
    (ap (λ g. held_in g c.self.inside.reel) c.take-going.ensures.value) c.tables.ensures c.in_err-finish.ensures.err)

pub returns-clause-closes : goal.returns-clause-closes
returns-clause-closes c = finish-closes c.self.inside c.args.self.now _ _ _ c.self.view_is (c.self.invariant.keeps c.if-self.false) c.self.invariant.packets
    (ap (λ g. held_in g c.self.inside.reel) c.take-going.ensures.value) c.tables.ensures c.in_ok-finish.ensures.ok

pub returns-clause-all : goal.returns-clause-all
returns-clause-all c =
    let all = finish-all c.self.inside c.args.self.now _ _ c.finish.new.reel c.self.view_is (c.self.invariant.keeps c.if-self.false)
    (ap (λ g. held_in g c.self.inside.reel) c.take-going.ensures.value) c.tables.ensures c.in_ok-finish.ensures.ok in
    ap (λ (v : Spooling). joined v.turned ++ c.finish.new.reel.plans) c.self.view_is ∙ all

pub returns-clause-sound : goal.returns-clause-sound
returns-clause-sound c = finish-sound c.self.inside c.args.self.now _ _ _ c.self.view_is (c.self.invariant.keeps c.if-self.false)
    (ap (λ g. held_in g c.self.inside.reel) c.take-going.ensures.value) c.tables.ensures c.in_ok-finish.ensures.ok.going

pub invariant_of-self : goal.invariant_of-self
invariant_of-self c = record {
  settings = c.self.invariant.settings;
  packets = c.self.invariant.packets;
  keeps = λ going. absurd (true≢false going);
}
