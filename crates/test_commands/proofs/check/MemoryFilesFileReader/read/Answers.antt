use Rattle.std.proofs.Common.{rules}
use Rattle.test_commands.proofs.check.MemoryFilesFileReader.read.Goals as goal

pub returns-then-eq-clause-ok : goal.returns-then-eq-clause-ok
returns-then-eq-clause-ok c =
    (c.loop-file.file-index, c.file-item.result, rw c.deref-file-items.ensures.value at c.loop-file-test.true, rw c.deref-file-items.ensures.value at c.file-item.is, search rules, search rules)
