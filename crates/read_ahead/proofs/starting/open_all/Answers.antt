use Rattle.std.proofs.Common.{arith, rules, ◌≡◌, refl, ap, length, map, false, ◌∙◌, subst}
use Rattle.std.specs.Arc.{arc_value}
use Rattle.std.specs.List.{AllZip, range_with_len}
use Rattle.std.proofs.lemmas.List.{length-map}
use Rattle.read_ahead.specs.Shares.{room_for}
use Rattle.read_ahead.specs.Sources.{seen_first}
use Rattle.read_ahead.proofs.Lists.{zip_length}
use Rattle.read_ahead.proofs.NewSources.{all_files, all_left, all_length, all_numbers, each_new}
use Rattle.read_ahead.proofs.starting.open_all.Goals as goal

pub begin-requires-clause-room : goal.begin-requires-clause-room
begin-requires-clause-room g c =
    let incoming = c.in_ok-incoming.incoming.items in
    let lefts = map g.I.Contents.holds c.args.inputs.items in
    omega (
      arith,
      c.in_ok-room.ensures.capacity,
      c.in_ok-room.ensures.len,
      ap length c.in_ok-incoming.ensures.seen,
      length-map incoming (seen_first g.I.Contents.holds),
      all_length (arc_value c.in_ok-backlogs.backlogs) 0 lefts,
      length-map c.args.inputs.items g.I.Contents.holds,
    )

pub returns-clause-left : goal.returns-clause-left
returns-clause-left g c =
    let lefts = map g.I.Contents.holds c.args.inputs.items in
    let b = arc_value c.in_ok-backlogs.backlogs in
    rw (c.in_ok-begin.ensures.ok ∙ c.in_ok-incoming.ensures.seen) (all_left b 0 lefts)

pub returns-clause-unread : goal.returns-clause-unread
returns-clause-unread g c =
    let lefts = map g.I.Contents.holds c.args.inputs.items in
    let b = arc_value c.in_ok-backlogs.backlogs in
    rw (c.in_ok-begin.ensures.ok ∙ c.in_ok-incoming.ensures.seen) (each_new (λ s. (s.reads ≡ 0) × (s.failures ≡ 0)) b 0 lefts (λ n l. (refl, refl)))

pub returns-clause-unleft : goal.returns-clause-unleft
returns-clause-unleft g c =
    let lefts = map g.I.Contents.holds c.args.inputs.items in
    let b = arc_value c.in_ok-backlogs.backlogs in
    rw (c.in_ok-begin.ensures.ok ∙ c.in_ok-incoming.ensures.seen) (each_new (λ s. s.is_left ≡ false) b 0 lefts (λ n l. refl))

pub returns-clause-limits : goal.returns-clause-limits
returns-clause-limits g c =
    let lefts = map g.I.Contents.holds c.args.inputs.items in
    let b = arc_value c.in_ok-backlogs.backlogs in
    rw (c.in_ok-begin.ensures.ok ∙ c.in_ok-incoming.ensures.seen) (each_new (λ s. (s.stall ≡ c.args.limits.stall) × (s.room ≡ room_for c.args.limits.ahead (length c.args.inputs.items) s.is_file)) b 0 lefts (λ n l. (search rules, search rules)))

pub returns-clause-inputs : goal.returns-clause-inputs
returns-clause-inputs g c =
    let lefts = map g.I.Contents.holds c.args.inputs.items in
    let b = arc_value c.in_ok-backlogs.backlogs in
    rw (c.in_ok-begin.ensures.ok ∙ c.in_ok-incoming.ensures.seen) (each_new (λ s. s.inputs ≡ length c.args.inputs.items) b 0 lefts (λ n l. search rules))

pub returns-clause-numbers : goal.returns-clause-numbers
returns-clause-numbers g c =
    let lefts = map g.I.Contents.holds c.args.inputs.items in
    let b = arc_value c.in_ok-backlogs.backlogs in
    rw (c.in_ok-begin.ensures.ok ∙ c.in_ok-incoming.ensures.seen, all_numbers b 0 lefts) (ap (range_with_len 0) (length-map c.args.inputs.items g.I.Contents.holds))

pub returns-clause-files : goal.returns-clause-files
returns-clause-files g c =
    let inputs = c.args.inputs.items in
    let lefts = map g.I.Contents.holds inputs in
    let b = arc_value c.in_ok-backlogs.backlogs in
    let plain : AllZip g.I.Input.plain inputs b.files.items = subst (λ xs. AllZip g.I.Input.plain xs b.files.items) c.deref.ensures.value c.in_ok-backlogs.ensures.files in
    let many : length lefts ≡ length b.files.items = length-map inputs g.I.Contents.holds ∙ zip_length g.I.Input.plain inputs b.files.items plain in
    rw (c.in_ok-begin.ensures.ok ∙ c.in_ok-incoming.ensures.seen, all_files b lefts many) plain
