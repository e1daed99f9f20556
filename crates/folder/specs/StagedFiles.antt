-- Files that are written under their part names.
use Rattle.std.specs.Prelude.{List, map}
use Rattle.std.specs.String.{string_bytes}
use Rattle.folder.specs.declared.staged_file.StagedFile.{StagedFile}
use Rattle.folder.specs.Puts.{Names}

abbrev pub staged_file_names : StagedFile → Names
staged_file_names f = (string_bytes f.part, string_bytes f.name)

abbrev pub staged_names : List StagedFile → List Names
staged_names staged = map staged_file_names staged
