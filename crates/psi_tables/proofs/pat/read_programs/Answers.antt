use Rattle.std.proofs.Common.{◌≡◌, ◌+◌, ◌*◌, ◌/◌, [], length, drop, get_or, sym, ◌∙◌, ap, arith, rules}
use Rattle.std.specs.Simd.{first_chunks}
use Rattle.std.proofs.lemmas.Result.{err_from_is_err_and}
use Rattle.psi_tables.specs.Association.{programs}
use Rattle.psi_tables.proofs.Entries.{behind, next_program, last_program, some_program}
use Rattle.psi_tables.proofs.pat.read_programs.Goals as goal

pub entry-preserved : goal.entry-preserved
entry-preserved c =
    let bytes = c.args.bytes.now in
    let i = c.entry.part-index in
    let part = get_or c.as_chunks.result.0.now i [] in
    let there : part ≡ get_or (first_chunks 4 (length bytes / 4) bytes) i [] = ap (λ parts. get_or parts i []) c.as_chunks.ensures.front in
    next_program bytes part i c.entry.entries.items _ c.entry.invariant (omega (arith, c.as_chunks.ensures.front_len)) there (search rules)
    ∙ ap (λ entries. behind entries (programs (drop (4 * (i + 1)) bytes))) (sym c.in_ok-push.ensures.items)

pub returns-clause-ok : goal.returns-clause-ok
returns-clause-ok c =
    last_program c.args.bytes.now (4 * c.entry.part-index) c.entry.entries.items c.entry.invariant (omega (arith, c.as_chunks.ensures.front_len)) c.requires.whole

pub returns-in_err-push-clause-scarce : goal.returns-in_err-push-clause-scarce
returns-in_err-push-clause-scarce c =
    let told = err_from_is_err_and c.from_residual.result c.from_residual.ensures.1 in
    rw told.1 (some_program c.args.bytes.now (omega (arith, c.entry-test.true, c.as_chunks.ensures.front_len)))
