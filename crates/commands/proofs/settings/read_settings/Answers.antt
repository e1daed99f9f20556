use Rattle.std.proofs.Common.{◌≡◌}
use Rattle.std.proofs.lemmas.Result.{err_from_is_err_and}
use Rattle.commands.specs.declared.settings.SettingsFault.TheVariants.{BadKeyFile}
use Rattle.commands.specs.Settings.{AreFit, words_of}
use Rattle.commands.proofs.RangeFacts.{fits, outside-one}
use Rattle.commands.proofs.settings.read_settings.Goals as goal

pub returns-then-not-are_within-clause-settings : goal.returns-then-not-are_within-clause-settings
returns-then-not-are_within-clause-settings g c = λ told.
    rw c.numbers-numbers.ensures at (outside-one (words_of c.args.words) c.numbers-numbers.result c.in_ok-look.ensures.good
    (λ are. let is = c.are_within.ensures.1 are in let other = c.if-not-are_within.true in cc (is, other)))

pub read_within-requires : goal.read_within-requires
read_within-requires g c = record { fit = (c.in_ok-look.ensures.good, fits c.numbers-numbers.result (c.are_within.ensures.0 c.if-not-are_within.false)) }

pub returns-in_err-settings-clause-bad_file : goal.returns-in_err-settings-clause-bad_file
returns-in_err-settings-clause-bad_file g c = λ n is.
    let p = err_from_is_err_and c.from_residual-in_err-settings.result c.from_residual-in_err-settings.ensures.1 in
    let fault : c.in_err-settings.field-0.0.fault ≡ BadKeyFile n = cc (p.1, p.2, is) in
    rw c.numbers-numbers.ensures at (c.in_err-settings.ensures.bad_file n fault)

pub returns-in_err-settings-clause-no_memory : goal.returns-in_err-settings-clause-no_memory
returns-in_err-settings-clause-no_memory g c = λ told.
    let fit : AreFit (words_of c.args.words) c.numbers-numbers.result =
    (c.in_ok-look.ensures.good, fits c.numbers-numbers.result (c.are_within.ensures.0 c.if-not-are_within.false)) in
    rw c.numbers-numbers.ensures at fit
