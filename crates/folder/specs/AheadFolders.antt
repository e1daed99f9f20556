-- A hidden folder of a folder of the file system.
use Rattle.std.specs.Prelude.{ℕ, Bool, List}
use Rattle.std.specs.Path.{path_buf_bytes}
use Rattle.folder.specs.declared.ahead_folder.AheadFolder.{AheadFolder}
use Rattle.folder.specs.declared.ahead_writer.AheadWriter.{AheadWriter}

-- its path
abbrev pub ahead_path : {R : Type 0} → AheadFolder R → List ℕ
ahead_path a = path_buf_bytes a.path

-- whether each file is synced once it is whole
abbrev pub ahead_syncs : {R : Type 0} → AheadFolder R → Bool
ahead_syncs a = a.syncs

-- the path of a file that is being written
abbrev pub writer_path : {R F : Type 0} → AheadWriter R F → List ℕ
writer_path w = path_buf_bytes w.path

-- whether it's synced once it is whole
abbrev pub writer_syncs : {R F : Type 0} → AheadWriter R F → Bool
writer_syncs w = w.syncs
