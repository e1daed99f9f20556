use Rattle.std.proofs.Common.{◌+◌, ◌≡◌, ◌++◌, take, drop}
use Rattle.folder.specs.Pruning.{other_moves}
use Rattle.keeping.specs.Keepings.{removals_of}
use Rattle.keeping.proofs.removing.take_some.Given as goal

abbrev pub invariant-loop : goal.invariant-loop
invariant-loop g l = record {
  now : l.swept ≡ l.initial.swept + l.counter;
  made : g.F.Folder.made l.files.folder ≡ g.F.Folder.made l.initial.files.folder ++ removals_of l.name (take l.counter (drop l.initial.swept l.numbers));
  others : other_moves (g.F.Folder.made l.files.folder) ≡ other_moves (g.F.Folder.made l.initial.files.folder);
  same : l.files ≡ record l.initial.files { folder = l.files.folder };
}
