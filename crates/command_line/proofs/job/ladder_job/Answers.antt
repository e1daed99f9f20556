use Rattle.std.proofs.Common.{rules, arith, ◌≡◌, ◌<◌, length, refl, ap, inl, inr, map, Err}
use Rattle.std.specs.Prelude.{codes}
use Rattle.std.proofs.lemmas.List.{length-map}
use Rattle.std.proofs.lemmas.Result.{err_from_is_err_and}
use Rattle.clap.specs.Words.{found_of}
use Rattle.commands.specs.Defaults.{numbers_of}
use Rattle.commands.specs.LadderOptions.{asked_of}
use Rattle.commands.specs.Pools.{pool_of}
use Rattle.command_line.specs.Refusals.{files_view}
use Rattle.command_line.specs.Words.{texts_of}
use Rattle.command_line.proofs.Refusals.{ladder-fault}
use Rattle.command_line.proofs.job.ladder_job.Goals as goal

pub returns-in_err-entries-clause-fault : goal.returns-in_err-entries-clause-fault
returns-in_err-entries-clause-fault g c =
    let told = err_from_is_err_and c.from_residual.result c.from_residual.ensures.1 in
    rw told.1 (inl (told.2, c.in_err-entries.ensures.scarce))

pub returns-in_err-ladder-clause-fault : goal.returns-in_err-ladder-clause-fault
returns-in_err-ladder-clause-fault g c =
    let files = files_view (g.F.FileReader.gives c.args.files.now) (g.F.FileReader.refuses c.args.files.now) (g.F.FileReader.wants c.args.files.now) in
    let words = c.ladder_words-words.result in
    let numbers = c.number_words-numbers.result in
    let pool = c.pool_words.result in
    let asked = asked_of words (numbers_of numbers) (pool_of pool) in
    let why = c.in_err-ladder.field-0.0 in
    let says = c.in_err-ladder.ensures in
    let told = err_from_is_err_and c.from_residual-in_err-ladder.result c.from_residual-in_err-ladder.ensures.1 in
    let entries : map (λ t. t.now) words.entries.now ≡ texts_of (found_of c.args.options.now) (codes "entries") = search rules in
    let some : 0 < length words.entries.now → 0 < length asked.entries = λ there. omega (arith, there, length-map words.entries.now (λ t. t.now)) in
    rw told.1 (inr (
      why,
      told.2,
      record {
        asked = asked;
        asked_is = record {
          entries_are = entries;
          salt_is = c.ladder_words-words.ensures.salt;
          event_is = c.ladder_words-words.ensures.event;
          numbers = numbers;
          numbers_are = c.number_words-numbers.ensures;
          stand = refl;
          pool = pool;
          pool_is = c.pool_words.ensures;
          stands = refl;
        };
        is = ladder-fault files asked why (λ n e. (says.bad_entry n).0 (ap Err e)) (λ e. says.bad_vector.0 (ap Err e)) (λ e. says.too_many.0 (ap Err e)) (λ e. says.zero_period.0 (ap Err e))
            (λ e. says.settings (ap Err e)) (λ e. says.unread (ap Err e)) (λ n e. says.bad_file n (ap Err e)) (λ e. let turns = says.no_memory (ap Err e) in (turns.0, turns.1, turns.2, some (says.scarce (ap Err e))));
      },
    ))
