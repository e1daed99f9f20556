use Rattle.std.proofs.Common.{◌∙◌, length, ap, sym}
use Rattle.item_io.specs.Views.{source_view}
use Rattle.packing.proofs.LineRuns.{lines_out, packed, says, packed-counts, counts, none-read}
use Rattle.packing.proofs.stream_packing.pack.Goals as goal

pub returns-clause-ok : goal.returns-clause-ok
returns-clause-ok g c = λ a b old new.
    let p = rw (old, new) at c.in-Ok.ensures.ok in
    packed (source_view (λ s. g.R.Read.remaining s.reader) (λ s. s.reads) (λ s. s.failures) (λ s. s.is_left)) g.W.Write.contents _ a b _ _ c.requires.fresh
    c.lines_of_given_items_are_written.ensures.whole c.lines_of_given_items_are_written.ensures.broken_off _ p

pub returns-in-Err-clause-fault : goal.returns-in-Err-clause-fault
returns-in-Err-clause-fault g c = λ a b old new.
    let told = rw (old, new) at c.in-Err.ensures.fault in
    says (source_view (λ s. g.R.Read.remaining s.reader) (λ s. s.reads) (λ s. s.failures) (λ s. s.is_left)) g.W.Write.contents _ a b _ _ c.requires.fresh
    c.lines_of_given_items_are_written.ensures.whole c.lines_of_given_items_are_written.ensures.broken_off _ c.in-Err.ensures.never_held told

pub returns-clause-ok_counts : goal.returns-clause-ok_counts
returns-clause-ok_counts g c = λ b new.
    let p = rw (c.requires.alone.1, new) at c.in-Ok.ensures.ok in
    packed-counts (source_view (λ s. g.R.Read.remaining s.reader) (λ s. s.reads) (λ s. s.failures) (λ s. s.is_left)) (lines_out g.W.Write.contents) _ _ b _ _
    c.requires.alone.2 c.requires.alone.3 c.requires.fresh _ p

pub returns-in-Err-clause-fault_counts : goal.returns-in-Err-clause-fault_counts
returns-in-Err-clause-fault_counts g c = λ b new.
    let told = rw (c.requires.alone.1, new) at c.in-Err.ensures.fault in
    let at_once = rw (c.requires.alone.1, new) at c.in-Err.ensures.at_once in
    counts (source_view (λ s. g.R.Read.remaining s.reader) (λ s. s.reads) (λ s. s.failures) (λ s. s.is_left)) (lines_out g.W.Write.contents) _ _ b _ _
    c.requires.alone.2 c.requires.alone.3 c.requires.fresh _ c.in-Err.ensures.never_held
    (λ sudden. let cut = at_once sudden in
    none-read (source_view (λ s. g.R.Read.remaining s.reader) (λ s. s.reads) (λ s. s.failures) (λ s. s.is_left)) _ b cut.in_turn cut.within cut.unfailed
    ∙ c.requires.alone.3) told

pub returns-in-Err-clause-breach : goal.returns-in-Err-clause-breach
returns-in-Err-clause-breach g c = λ broken.
    (c.in-Err.ensures.breach (λ so. broken (so.0, sym so.1 ∙ ap length c.requires.alone.1))).0
