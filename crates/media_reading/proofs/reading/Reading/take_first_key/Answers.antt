use Rattle.std.proofs.Common.{Some, inl, ◌∙◌, sym, ap}
use Rattle.std.specs.Prelude.{option_map}
use Rattle.std.specs.String.{string_bytes}
use Rattle.std.specs.Cow.{cow_str_bytes}
use Rattle.std.proofs.lemmas.Option.{none-some}
use Rattle.std.proofs.lemmas.Result.{err_from_is_err_and}
use Rattle.media_reading.specs.State.{progress_of, with_key}
use Rattle.media_reading.proofs.EntrySteps.{keyed-told}
use Rattle.media_reading.proofs.reading.Reading.take_first_key.Goals as goal

pub returns-clause-taken : goal.returns-clause-taken
returns-clause-taken c =
    let p = progress_of c.args.self.now in
    let named = sym c.in_ok-name.ensures.ok ∙ ap (option_map cow_str_bytes) c.in-Some.is in
    let salted = sym c.read_salt.ensures ∙ c.in-Some-read_salt.is in
    let found = sym (rw c.deref.ensures.value at c.read_key.ensures) ∙ c.in-Some-read_key.is in
    keyed-told p (cow_str_bytes c.in-Some.name) c.in-Some-read_salt.salt c.args.number c.in-Some-read_key.key c.args.line.now c.requires.number
    (ap (option_map string_bytes) c.requires.first) named salted found
    ∙ ap (λ name. Some (with_key p name c.in-Some-read_salt.salt c.in-Some-read_key.key)) (sym c.in_ok-into_owned.ensures.ok)

pub returns-in_err-into_owned-clause-kept : goal.returns-in_err-into_owned-clause-kept
returns-in_err-into_owned-clause-kept c =
    let p = progress_of c.args.self.now in
    let named = sym c.in_ok-name.ensures.ok ∙ ap (option_map cow_str_bytes) c.in-Some.is in
    let salted = sym c.read_salt.ensures ∙ c.in-Some-read_salt.is in
    let found = sym (rw c.deref.ensures.value at c.read_key.ensures) ∙ c.in-Some-read_key.is in
    let taken = keyed-told p (cow_str_bytes c.in-Some.name) c.in-Some-read_salt.salt c.args.number c.in-Some-read_key.key c.args.line.now c.requires.number
    (ap (option_map string_bytes) c.requires.first) named salted found in
    let told = err_from_is_err_and c.from_residual-in_err-into_owned.result c.from_residual-in_err-into_owned.ensures.1 in
    rw told.1 (inl (λ none. none-some _ (sym none ∙ taken)))
