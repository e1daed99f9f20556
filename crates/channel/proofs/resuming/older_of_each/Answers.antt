use Rattle.std.proofs.Common.{arith, ◌≡◌, ◌∙◌, ap, ℕ, List, [], ◌∷◌, ◌++◌, Option, map, filter, nat_lt}
use Rattle.std.proofs.lemmas.List.{take_all}
use Rattle.resume.specs.Restoring.{RestoredValue}
use Rattle.channel_folder.specs.Scans.{numbers_at}
use Rattle.channel.specs.Resuming.{older_at, older_from}
use Rattle.channel.proofs.Behind.{map-more}
use Rattle.channel.proofs.Olders.{older-on}
use Rattle.channel.proofs.resuming.older_of_each.Goals as goal

pub loop-r-preserved : goal.loop-r-preserved
loop-r-preserved c =
    let one = c.found_at-one.result.now in
    let made : map (λ n. n.items) c.push.new.self.items ≡ map (λ n. n.items) c.loop-r.older.items ++ c.in_ok-older.field-0.items ∷ [] =
    ap (λ l. map (λ n. n.items) l) c.in_ok-push.ensures.items ∙ map-more (λ n. n.items) c.loop-r.older.items c.in_ok-older.field-0 in
    let is : c.in_ok-older.field-0.items ≡ older_at c.args.scan.now c.args.most c.loop-r.r one =
    c.in_ok-older.ensures ∙ ap (λ (b : ℕ). filter (λ n. nat_lt n b) (numbers_at c.args.scan.now c.loop-r.r)) c.base_of.ensures in
    older-on c.args.scan.now c.args.most c.args.found.now c.loop-r.r one (map (λ n. n.items) c.loop-r.older.items) (map (λ n. n.items) c.push.new.self.items) c.in_ok-older.field-0.items c.found_at-one.ensures
    c.loop-r.invariant made is

pub returns-clause-ok : goal.returns-clause-ok
returns-clause-ok c =
    c.loop-r.invariant ∙ ap (λ (l : List (Option RestoredValue)). older_from c.args.scan.now c.args.most 0 l) (take_all c.loop-r.r c.args.found.now (omega (arith, c.loop-r-test.false)))
