-- What the two copies hold, and what their readers and their writer know.
use Rattle.std.specs.Prelude.{◌≡◌, ℕ, true, false, List, [], Some, fold}
use Rattle.std.specs.Arc.{arc_value}
use Rattle.std.specs.declared.sync.Arc.{Arc}
use Rattle.std.specs.declared.alloc.Global.{Global}
use mathlib.Core.Option.{some}
use lib.ListN.{get_elem?}
use Rattle.ghost_list.specs.Lists.{IsBeginning}
use Rattle.logbook.specs.Pages.{Book}
use Rattle.live_board.specs.Snapshots.{Known}
use Rattle.live_board.specs.Counts.{last_of}
use Rattle.live_board.specs.declared.shown.Moment.{Moment}
use Rattle.live_board.specs.declared.shown.Shown.{Shown}
use Rattle.live_board.specs.declared.knowledge.Knowledge.{Knowledge}

abbrev pub moment_of : Shown → Moment
moment_of copy = arc_value copy.moment

-- the snapshot is the last of its history
abbrev pub IsLast : Moment → Type 0
IsLast m = last_of m.history.list ≡ Some m.snapshot

-- what is shown after these operations: the last of them
abbrev pub shown_after : Moment → List (Arc Moment Global) → Moment
shown_after m operations = fold (λ (_ : Moment) (operation : Arc Moment Global). arc_value operation) m operations

-- the second moment goes on from the first
abbrev pub GoesOn : Moment → Moment → Type 0
GoesOn m n = (n.history.board ≡ m.history.board) × IsBeginning m.history.list n.history.list

abbrev pub no_board : Book
no_board = record { number = 0; log_name = 0; cells_name = 0 }

-- what is known before anything is told
abbrev pub nothing_known : Knowledge
nothing_known = record { begun = false; history = record { list = []; board = no_board } }

-- these snapshots are known
abbrev pub knowing : Known → Knowledge
knowing k = record { begun = true; history = k }

-- what is known is a prefix of what the copy's board has shown
abbrev pub KnowsFront : Shown → Knowledge → Type 0
KnowsFront x v = v.begun ≡ true → ((moment_of x).history.board ≡ v.history.board) × IsBeginning v.history.list (moment_of x).history.list

-- the copy that is shown ends its history, of which all who read it know a beginning
abbrev pub Holds : Shown → List Knowledge → Type 0
Holds x all = IsLast (moment_of x) × ((seat : ℕ) (v : Knowledge) → get_elem? all seat ≡ some v → KnowsFront x v)

-- a reader knows from now on what the copy that it entered has
abbrev pub Enters : Knowledge → Shown → Shown → Knowledge → Type 0
Enters v x y w = (w ≡ knowing (moment_of x).history) × IsLast (moment_of x) × KnowsFront x v

-- the writer knows from now on what it has shown
abbrev pub Publishes : Knowledge → Shown → Shown → Knowledge → Type 0
Publishes v x y w = w ≡ knowing (moment_of y).history

abbrev pub all_of_it : Knowledge → Knowledge
all_of_it v = v

-- who learns something knows just that
abbrev pub informed : Knowledge → Knowledge → Knowledge
informed v w = w

-- what is known is a prefix of these snapshots, of their board
abbrev pub KnowsFrontOf : Knowledge → Known → Type 0
KnowsFrontOf v k = (v.begun ≡ true) × (k.board ≡ v.history.board) × IsBeginning v.history.list k.list
