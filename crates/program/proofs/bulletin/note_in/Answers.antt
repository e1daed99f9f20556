use Rattle.std.proofs.Common.{rules, sym, subst, true≢false, None, Option, ◌≡◌, ◌≤◌, ◌<◌, List, length, take_all}
use Rattle.std.proofs.lemmas.List.Elements.{All-contains, All-more}
use Rattle.std.specs.Prelude.{All, IsSome, slice_index_or}
use Rattle.ladder_items.specs.declared.fault.PackFault.{PackFault}
use Rattle.program.proofs.Naming.{noted_at}
use Rattle.program.proofs.bulletin.note_in.Goals as goal

pub returns-then-is_none-clause-noted : goal.returns-then-is_none-clause-noted
returns-then-is_none-clause-noted c = λ _.
    let inside : c.loop-place.place < length c.args.faults.now = search rules in
    let free : slice_index_or c.args.faults.now c.loop-place.place None ≡ None = grind rules in
    rw c.loop-place.invariant.same (noted_at c.args.faults.now c.loop-place.place c.args.fault None inside free c.loop-place.invariant.before)

pub loop-place-preserved : goal.loop-place-preserved
loop-place-preserved c =
    let inside : c.loop-place.place < length c.args.faults.now = search rules in
    let there : IsSome (slice_index_or c.args.faults.now c.loop-place.place None) = grind rules in
    record {
      same = c.loop-place.invariant.same;
      before = All-more IsSome c.args.faults.now c.loop-place.place None inside c.loop-place.invariant.before there;
    }

pub returns-clause-noted : goal.returns-clause-noted
returns-clause-noted c = λ has.
    let past : length c.args.faults.now ≤ c.loop-place.place = search rules in
    let all : All IsSome c.args.faults.now = subst (λ (l : List (Option PackFault)). All IsSome l) (take_all c.loop-place.place c.args.faults.now past) c.loop-place.invariant.before in
    absurd (true≢false (sym (All-contains IsSome c.args.faults.now None all has)))
