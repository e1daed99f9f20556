use Rattle.std.proofs.Common.{◌≡◌, ◌∙◌, Err, ap, length, map, rules, subst, sym}
use Rattle.std.proofs.lemmas.List.{length-map}
use Rattle.std.proofs.lemmas.Result.{err_from_is_err_and}
use Rattle.std.proofs.lemmas.Simd.{map-map}
use Rattle.commands.specs.declared.ladder_fault.LadderFault.TheVariants.{BadEntry, BadKeyFile}
use Rattle.commands.specs.declared.entry.EntryWords.{EntryWords}
use Rattle.commands.specs.Entries.{Entry, entry_of, entry_value}
use Rattle.commands.specs.Defaults.{numbers_of}
use Rattle.commands.specs.LadderOptions.{asked_of, HasTurns}
use Rattle.commands.specs.Pools.{IsPool, pool_of}
use Rattle.commands.specs.Ranges.{IsUpTo}
use Rattle.commands.specs.Settings.{FitsCut}
use Rattle.limits.specs.declared.TheConstants.{MOST_RENDITIONS}
use Rattle.commands.proofs.LadderFacts.{no-turns, outside-answer}
use Rattle.commands.proofs.RangeFacts.{fits, outside-asked}
use Rattle.commands.proofs.ladder_options.read_ladder_options.Goals as goal

pub returns-in_err-look-clause-bad_entry : goal.returns-in_err-look-clause-bad_entry
returns-in_err-look-clause-bad_entry g c = λ n.
    let told = rw (c.numbers-numbers.ensures, c.pool-pool.ensures) at (c.look.ensures.bad_entry n) in
    let same : c.from_residual.result ≡ Err c.in_err-look.field-0.0 = search rules in (
      λ is. let fault : c.in_err-look.field-0.0 ≡ BadEntry n = cc (same, is) in told.0 (c.in_err-look.was ∙ ap Err fault),
      λ bad. let fault : c.in_err-look.field-0.0 ≡ BadEntry n = let gives = told.1 bad in let was = c.in_err-look.was in cc (gives, was) in same ∙ ap Err fault,
    )

pub returns-in_err-look-clause-outside : goal.returns-in_err-look-clause-outside
returns-in_err-look-clause-outside g c = λ out. absurd (no-turns (asked_of c.args.words c.numbers-numbers.result c.pool-pool.result) c.in_err-look.field-0.0
    (λ n is. (c.look.ensures.bad_entry n).0 (c.in_err-look.was ∙ ap Err is))
    (λ is. c.look.ensures.bad_vector.0 (c.in_err-look.was ∙ ap Err is))
    (λ is. c.look.ensures.too_many.0 (c.in_err-look.was ∙ ap Err is))
    (λ is. c.look.ensures.zero_period.0 (c.in_err-look.was ∙ ap Err is))
    (λ is. c.look.ensures.unread (c.in_err-look.was ∙ ap Err is))
    (λ n is. c.look.ensures.bad_file n (c.in_err-look.was ∙ ap Err is))
    c.in_err-look.ensures.only
    (rw (c.numbers-numbers.ensures, c.pool-pool.ensures) out.turns))

pub returns-then-not-are_in_range-clause-settings : goal.returns-then-not-are_in_range-clause-settings
returns-then-not-are_in_range-clause-settings g c = λ told.
    rw (c.numbers-numbers.ensures, c.pool-pool.ensures) at (outside-asked (asked_of c.args.words c.numbers-numbers.result c.pool-pool.result) c.in_ok-look.ensures.ok (λ are.
    let many : length (map (λ t. t.now) c.args.words.entries.now) ≡ length c.args.words.entries.now = length-map c.args.words.entries.now (λ t. t.now) in
    let is = c.are_in_range.ensures.1 (subst (λ n. IsUpTo n MOST_RENDITIONS) many are.0, are.1, are.2) in
    let other = c.if-not-are_in_range.true in
    cc (is, other)))

pub returns-in_err-entries-clause-no_memory : goal.returns-in_err-entries-clause-no_memory
returns-in_err-entries-clause-no_memory g c = λ told.
    let range = c.are_in_range.ensures.0 c.if-not-are_in_range.false in
    let asked = asked_of c.args.words c.numbers-numbers.result c.pool-pool.result in
    let all : HasTurns asked × FitsCut c.numbers-numbers.result × IsPool c.pool-pool.result = (c.in_ok-look.ensures.ok, fits c.numbers-numbers.result range.1, range.2) in
    rw (c.numbers-numbers.ensures, c.pool-pool.ensures) at all

pub read_ladder-requires-clause-fits : goal.read_ladder-requires-clause-fits
read_ladder-requires-clause-fits g c =
    let range = c.are_in_range.ensures.0 c.if-not-are_in_range.false in
    (fits c.numbers-numbers.result range.1, range.2)

pub returns-in_err-settings-clause-no_memory : goal.returns-in_err-settings-clause-no_memory
returns-in_err-settings-clause-no_memory g c = λ told.
    let range = c.are_in_range.ensures.0 c.if-not-are_in_range.false in
    let asked = asked_of c.args.words c.numbers-numbers.result c.pool-pool.result in
    let all : HasTurns asked × FitsCut c.numbers-numbers.result × IsPool c.pool-pool.result = (c.in_ok-look.ensures.ok, fits c.numbers-numbers.result range.1, range.2) in
    rw (c.numbers-numbers.ensures, c.pool-pool.ensures) at all

pub returns-clause-ok : goal.returns-clause-ok
returns-clause-ok g c = record {
  turns = rw (c.numbers-numbers.ensures, c.pool-pool.ensures) at c.in_ok-look.ensures.ok;
  ladder_is = rw (c.numbers-numbers.ensures, c.pool-pool.ensures) at c.in_ok-settings.ensures.ok;
  pool_is = c.pool-pool.ensures;
  paths_are = c.in_ok-paths.ensures.ok ∙ ap (map (λ (entry : EntryWords). entry.path.now)) c.deref-2.ensures.value
      ∙ sym (map-map (λ (entry : Entry). entry.path) entry_value c.in_ok-entries.entries.items) ∙ ap (map (λ (entry : Entry). entry.path)) c.in_ok-entries.ensures.ok
      ∙ map-map (λ (entry : Entry). entry.path) entry_of _;
}

pub returns-in_err-settings-clause-outside : goal.returns-in_err-settings-clause-outside
returns-in_err-settings-clause-outside g c = λ out.
    let p = err_from_is_err_and c.from_residual-in_err-settings.result c.from_residual-in_err-settings.ensures.1 in
    outside-answer (g.F.FileReader.gives c.args.files.now) (g.F.FileReader.refuses c.args.files.now) (asked_of c.args.words (numbers_of c.args.numbers) (pool_of c.args.pool))
    c.from_residual-in_err-settings.result c.in_err-settings.field-0.0.fault (p.1 ∙ ap Err p.2) c.in_err-settings.ensures.only
    (λ is. rw (c.numbers-numbers.ensures, c.pool-pool.ensures) at (c.in_err-settings.ensures.unread is))
    (λ n is. rw (c.numbers-numbers.ensures, c.pool-pool.ensures) at (c.in_err-settings.ensures.bad_file n is)) out

pub returns-in_err-settings-clause-bad_file : goal.returns-in_err-settings-clause-bad_file
returns-in_err-settings-clause-bad_file g c = λ n is.
    let p = err_from_is_err_and c.from_residual-in_err-settings.result c.from_residual-in_err-settings.ensures.1 in
    let fault : c.in_err-settings.field-0.0.fault ≡ BadKeyFile n = cc (p.1, p.2, is) in
    rw (c.numbers-numbers.ensures, c.pool-pool.ensures) at (c.in_err-settings.ensures.bad_file n fault)

pub returns-clause-outside : goal.returns-clause-outside
returns-clause-outside g c = λ out.
    let made = rw (c.numbers-numbers.ensures, c.pool-pool.ensures) at c.in_ok-settings.ensures.ok in
    absurd (out.outside made.keys c.in_ok-settings.settings made.ladder_is made.within)
