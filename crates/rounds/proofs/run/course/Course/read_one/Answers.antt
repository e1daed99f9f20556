use Rattle.std.proofs.Common.{◌∙◌, inl, inr, refl, ap, sym, arith}
use Rattle.std.specs.List.{slice_get}
use Rattle.std.proofs.lemmas.Bool.{false≢true}
use Rattle.std.proofs.lemmas.Result.{err_from_is_err_and}
use Rattle.rounds.specs.declared.run.course.Course.{Course}
use Rattle.rounds.specs.Courses.{OthersStay, turns_at, turns_in}
use Rattle.rounds.proofs.Turning.{more-looked, none-had, on-looked, others-looked, others-none, others-then, stay-turned}
use Rattle.rounds.proofs.Soon.{had-none, none-looked, one-behind}
use Rattle.rounds.proofs.run.course.Course.read_one.Goals as goal

pub returns-then-not-is_ready-clause-ok : goal.returns-then-not-is_ready-clause-ok
returns-then-not-is_ready-clause-ok g c ladder start shows waiting on =
    on-looked _ _ _ _ _ start _ _ shows waiting c.if-not-is_ready.ensures.sources c.if-not-is_ready.ensures.same on

pub take_turn-requires-clause-on : goal.take_turn-requires-clause-on
take_turn-requires-clause-on g c =
    let some = c.requires.on in
    (some.0, some.1, some.2, some.3, on-looked _ _ _ _ _ some.1 _ _ some.2 some.3 c.if-not-is_ready.ensures.sources c.if-not-is_ready.ensures.same some.4)

pub take_turn-requires-clause-going : goal.take_turn-requires-clause-going
take_turn-requires-clause-going g c lane at =
    c.if-not-goes_on.ensures.going refl lane (ap (λ (d : Course _ _). slice_get d.lanes.items c.args.r) (sym c.if-not-is_ready.ensures.same) ∙ at)

pub take_turn-requires-clause-below : goal.take_turn-requires-clause-below
take_turn-requires-clause-below g c =
    omega (arith, c.if-not-goes_on.ensures.below refl, ap (λ (d : Course _ _). turns_at d c.args.r) c.if-not-is_ready.ensures.same, ap (λ (d : Course _ _). d.reads) c.if-not-is_ready.ensures.same)

pub returns-in_err-take_turn-clause-err : goal.returns-in_err-take_turn-clause-err
returns-in_err-take_turn-clause-err g c =
    let told = err_from_is_err_and c.from_residual.result c.from_residual.ensures.1 in
    rw told.1 (λ ladder start shows waiting on.
    c.in_err-take_turn.ensures.err ladder start shows waiting (on-looked _ _ _ _ _ start _ _ shows waiting c.if-not-is_ready.ensures.sources c.if-not-is_ready.ensures.same on))

pub returns-clause-ok : goal.returns-clause-ok
returns-clause-ok g c ladder start shows waiting on =
    c.in_ok-take_turn.ensures.ok ladder start shows waiting (on-looked _ _ _ _ _ start _ _ shows waiting c.if-not-is_ready.ensures.sources c.if-not-is_ready.ensures.same on)

pub returns-clause-further : goal.returns-clause-further
returns-clause-further g c =
    let same = ap (λ (d : Course _ _). turns_in d) c.if-not-is_ready.ensures.same in
    let others : OthersStay c.args.r c.args.self.now c.take_turn.new.self = others-then c.args.r _ _ _ (others-looked c.args.r _ _ c.if-not-is_ready.ensures.sources c.if-not-is_ready.ensures.same) c.in_ok-take_turn.ensures.others in
    record {
      more = omega (arith, same, c.in_ok-take_turn.ensures.turns);
      stays = λ e. absurd (omega (arith, e, same, c.in_ok-take_turn.ensures.turns));
      stopped = stay-turned c.args.r _ _ others (c.if-not-goes_on.ensures.going refl);
    }

pub returns-then-not-is_ready-clause-further : goal.returns-then-not-is_ready-clause-further
returns-then-not-is_ready-clause-further g c = more-looked _ _ c.if-not-is_ready.ensures.same

pub returns-then-not-goes_on-clause-told : goal.returns-then-not-goes_on-clause-told
returns-then-not-goes_on-clause-told g c = none-had (turns_in c.args.self.now)

pub returns-then-not-is_ready-clause-told : goal.returns-then-not-is_ready-clause-told
returns-then-not-is_ready-clause-told g c =
    let same = ap (λ (d : Course _ _). turns_in d) c.if-not-is_ready.ensures.same in
    ((λ e. absurd (false≢true e)), λ more. absurd (omega (arith, more, same)))

pub returns-clause-told : goal.returns-clause-told
returns-clause-told g c =
    let same = ap (λ (d : Course _ _). turns_in d) c.if-not-is_ready.ensures.same in
    ((λ e. omega (arith, same, c.in_ok-take_turn.ensures.turns)), λ more. refl)

pub returns-then-not-goes_on-clause-others : goal.returns-then-not-goes_on-clause-others
returns-then-not-goes_on-clause-others g c = others-none c.args.r c.args.self.now

pub returns-then-not-is_ready-clause-others : goal.returns-then-not-is_ready-clause-others
returns-then-not-is_ready-clause-others g c = others-looked c.args.r _ _ c.if-not-is_ready.ensures.sources c.if-not-is_ready.ensures.same

pub returns-in_err-take_turn-clause-others : goal.returns-in_err-take_turn-clause-others
returns-in_err-take_turn-clause-others g c =
    others-then c.args.r _ _ _ (others-looked c.args.r _ _ c.if-not-is_ready.ensures.sources c.if-not-is_ready.ensures.same) c.in_err-take_turn.ensures.others

pub returns-clause-others : goal.returns-clause-others
returns-clause-others g c =
    others-then c.args.r _ _ _ (others-looked c.args.r _ _ c.if-not-is_ready.ensures.sources c.if-not-is_ready.ensures.same) c.in_ok-take_turn.ensures.others

pub returns-in_err-take_turn-clause-none : goal.returns-in_err-take_turn-clause-none
returns-in_err-take_turn-clause-none g c =
    let told = err_from_is_err_and c.from_residual.result c.from_residual.ensures.1 in
    rw told.1 (c.if-not-goes_on.ensures.going refl)

pub returns-clause-once : goal.returns-clause-once
returns-clause-once g c =
    let same = ap (λ (d : Course _ _). turns_in d) c.if-not-is_ready.ensures.same in
    omega (arith, same, c.in_ok-take_turn.ensures.turns)

pub returns-then-not-is_ready-clause-once : goal.returns-then-not-is_ready-clause-once
returns-then-not-is_ready-clause-once g c = omega (arith, ap (λ (d : Course _ _). turns_in d) c.if-not-is_ready.ensures.same)

pub returns-in_err-take_turn-clause-unread : goal.returns-in_err-take_turn-clause-unread
returns-in_err-take_turn-clause-unread g c =
    let told = err_from_is_err_and c.from_residual.result c.from_residual.ensures.1 in
    rw told.1 (c.if-not-goes_on.ensures.below refl)

pub returns-then-not-goes_on-clause-one : goal.returns-then-not-goes_on-clause-one
returns-then-not-goes_on-clause-one g c = inl (had-none c.args.r c.args.self.now)

pub returns-then-not-is_ready-clause-one : goal.returns-then-not-is_ready-clause-one
returns-then-not-is_ready-clause-one g c = inl (none-looked c.args.r _ _ c.if-not-is_ready.ensures.sources c.if-not-is_ready.ensures.same)

pub returns-clause-one : goal.returns-clause-one
returns-clause-one g c =
    inr (one-behind _ c.args.r _ _ _ (none-looked c.args.r _ _ c.if-not-is_ready.ensures.sources c.if-not-is_ready.ensures.same) c.in_ok-take_turn.ensures.had)

pub returns-in_err-take_turn-clause-broken : goal.returns-in_err-take_turn-clause-broken
returns-in_err-take_turn-clause-broken g c =
    let told = err_from_is_err_and c.from_residual.result c.from_residual.ensures.1 in
    rw told.1 c.in_err-take_turn.ensures.broken

pub returns-then-not-goes_on-clause-had : goal.returns-then-not-goes_on-clause-had
returns-then-not-goes_on-clause-had g c source at tells turns =
    absurd (omega (arith, turns.below, c.if-not-goes_on.ensures.rests refl turns.lane turns.there turns.going))

pub returns-then-not-is_ready-clause-had : goal.returns-then-not-is_ready-clause-had
returns-then-not-is_ready-clause-had g c source at tells turns = absurd (false≢true (c.if-not-is_ready.ensures.ready source at tells))

pub returns-clause-had : goal.returns-clause-had
returns-clause-had g c source at tells turns =
    one-behind _ c.args.r _ _ _ (none-looked c.args.r _ _ c.if-not-is_ready.ensures.sources c.if-not-is_ready.ensures.same) c.in_ok-take_turn.ensures.had

pub returns-then-not-goes_on-clause-idle : goal.returns-then-not-goes_on-clause-idle
returns-then-not-goes_on-clause-idle g c none = had-none c.args.r c.args.self.now

pub returns-then-not-is_ready-clause-idle : goal.returns-then-not-is_ready-clause-idle
returns-then-not-is_ready-clause-idle g c none = none-looked c.args.r _ _ c.if-not-is_ready.ensures.sources c.if-not-is_ready.ensures.same

pub returns-in_err-take_turn-clause-ok : goal.returns-in_err-take_turn-clause-ok
returns-in_err-take_turn-clause-ok g c =
    let told = err_from_is_err_and c.from_residual.result c.from_residual.ensures.1 in
    rw told.1 tt

pub returns-in_err-take_turn-clause-further : goal.returns-in_err-take_turn-clause-further
returns-in_err-take_turn-clause-further g c =
    let told = err_from_is_err_and c.from_residual.result c.from_residual.ensures.1 in
    rw told.1 tt

pub returns-in_err-take_turn-clause-told : goal.returns-in_err-take_turn-clause-told
returns-in_err-take_turn-clause-told g c =
    let told = err_from_is_err_and c.from_residual.result c.from_residual.ensures.1 in
    rw told.1 tt

pub returns-in_err-take_turn-clause-once : goal.returns-in_err-take_turn-clause-once
returns-in_err-take_turn-clause-once g c =
    let told = err_from_is_err_and c.from_residual.result c.from_residual.ensures.1 in
    rw told.1 tt

pub returns-in_err-take_turn-clause-one : goal.returns-in_err-take_turn-clause-one
returns-in_err-take_turn-clause-one g c =
    let told = err_from_is_err_and c.from_residual.result c.from_residual.ensures.1 in
    rw told.1 tt

pub returns-in_err-take_turn-clause-had : goal.returns-in_err-take_turn-clause-had
returns-in_err-take_turn-clause-had g c =
    let told = err_from_is_err_and c.from_residual.result c.from_residual.ensures.1 in
    rw told.1 tt

pub returns-in_err-take_turn-clause-idle : goal.returns-in_err-take_turn-clause-idle
returns-in_err-take_turn-clause-idle g c =
    let told = err_from_is_err_and c.from_residual.result c.from_residual.ensures.1 in
    rw told.1 tt
