use Rattle.std.proofs.Math.ListN.{replicate}
use Rattle.std.proofs.lemmas.List.{length-replicate}
use Rattle.folder.proofs.file_reader.FileFolderFolderReader.size.Goals as goal

pub returns-in-Some-clause-ok : goal.returns-in-Some-clause-ok
returns-in-Some-clause-ok g c = (replicate c.len.result 0, tt, length-replicate c.len.result 0)
