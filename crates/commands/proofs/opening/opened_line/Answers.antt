use Rattle.std.proofs.Common.{rules, ◌≡◌, ◌∙◌, ap, sym, Err}
use Rattle.std.proofs.lemmas.Result.{err_from_is_err_and}
use Rattle.commands.specs.Told.{opening_of_reading}
use Rattle.commands.specs.declared.opening.OpeningFault.TheVariants.{NoMemory, NotBlocks}
use Rattle.commands.proofs.Decoding.{behind_digits, some-line}
use Rattle.commands.proofs.SealedTexts.{opening_of_reading-NoMemory}
use Rattle.commands.proofs.opening.opened_line.Goals as goal

pub returns-in_err-line-clause-scarce : goal.returns-in_err-line-clause-scarce
returns-in_err-line-clause-scarce g c =
    let p = err_from_is_err_and c.from_residual.result c.from_residual.ensures.1 in
    rw p.1 (λ told.
    let same : opening_of_reading c.in_err-line.field-0.0 ≡ NoMemory = sym p.2 ∙ told in
    c.in_err-line.ensures.scarce (ap Err (opening_of_reading-NoMemory _ same)))

pub returns-in_err-sealed-clause-scarce : goal.returns-in_err-sealed-clause-scarce
returns-in_err-sealed-clause-scarce g c = search (rules, behind_digits)

pub returns-in_err-plain-clause-not_blocks : goal.returns-in_err-plain-clause-not_blocks
returns-in_err-plain-clause-not_blocks g c =
    let p = err_from_is_err_and c.from_residual-in_err-plain.result c.from_residual-in_err-plain.ensures.1 in
    rw p.1 (λ told.
    let same : c.in_err-plain.field-0.0.fault ≡ NotBlocks = cc (told, p.2) in
    record {
      sealed = c.in_ok-sealed.sealed.items;
      read = record {
        bytes = c.in_ok-line.line.items;
        read = c.in_ok-line.ensures.all;
        digits = rw c.deref.ensures.value at c.in_ok-sealed.ensures.ok;
      };
      not_blocks = rw c.deref-2.ensures.value at (c.in_err-plain.ensures.not_blocks same);
    })

pub returns-in_err-plain-clause-scarce : goal.returns-in_err-plain-clause-scarce
returns-in_err-plain-clause-scarce g c =
    let p = err_from_is_err_and c.from_residual-in_err-plain.result c.from_residual-in_err-plain.ensures.1 in
    rw p.1 (λ told.
    let same : c.in_err-plain.field-0.0.fault ≡ NoMemory = cc (told, p.2) in
    let some = c.in_err-plain.ensures.scarce same in
    c.in_ok-line.ensures.some (some-line c.in_ok-line.line.items c.in_ok-sealed.sealed.items (rw c.deref.ensures.value at c.in_ok-sealed.ensures.ok) (rw c.deref-2.ensures.value at some)))
