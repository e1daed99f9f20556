use Rattle.std.proofs.Common.{arith, ◌≡◌, ◌+◌, sym, subst, ℕ, List, [], ◌∷◌, ◌++◌, Option, length, length-append}
use Rattle.resume.specs.Restoring.{RestoredValue}
use Rattle.channel_folder.specs.Scans.{numbers_at}
use Rattle.channel_folder.specs.Reopened.{StandTo, Stands}
use Rattle.channel_folder.specs.Shut.{CannotRead}
use Rattle.channel_folder.specs.Stopped.{IsStop}
use Rattle.channel_folder.proofs.OneMore.{stand-more}
use Rattle.channel_folder.proofs.Stopping.{stopped-at}
use Rattle.channel_folder.proofs.finding.find_each.Goals as goal

pub loop-r-preserved : goal.loop-r-preserved
loop-r-preserved g c =
    let Gives = g.F.FolderReader.gives c.args.folder.now in
    let Lacks = g.F.FolderReader.lacks c.args.folder.now in
    let asked = c.args.asked.now in
    let r = c.loop-r.r in
    let found = c.loop-r.found.items in
    let pushed : c.push.new.self.items ≡ found ++ c.in-Ok.one ∷ [] = c.in_ok-push-in-Ok.ensures.items in
    let a = c.rendition_at-rendition.result.now in
    let stands : Stands Gives Lacks (numbers_at c.args.scan.now r) a c.in-Ok.one =
    subst (λ (ns : List ℕ). Stands Gives Lacks ns a c.in-Ok.one) c.numbers_of.ensures c.in-Ok.ensures.ok in (
      subst (λ (l : List (Option RestoredValue)). length l ≡ r + 1) (sym pushed) (omega (arith, c.loop-r.invariant.0, length-append found (c.in-Ok.one ∷ []))),
      subst (λ (l : List (Option RestoredValue)). StandTo Gives Lacks c.args.scan.now asked l (r + 1)) (sym pushed)
          (stand-more Gives Lacks c.args.scan.now asked found r a c.in-Ok.one c.loop-r.invariant.1 c.loop-r.invariant.0 c.rendition_at-rendition.ensures stands),
    )

pub returns-clause-ok : goal.returns-clause-ok
returns-clause-ok g c =
    let Gives = g.F.FolderReader.gives c.args.folder.now in
    let Lacks = g.F.FolderReader.lacks c.args.folder.now in
    let all : c.loop-r.r ≡ length c.args.asked.now = omega (arith, c.loop-r-test.false, c.loop-r.auto.r-end) in
    record {
      each = omega (arith, c.loop-r.invariant.0, all);
      stand = subst (λ (n : ℕ). StandTo Gives Lacks c.args.scan.now c.args.asked.now c.loop-r.found.items n) all c.loop-r.invariant.1;
    }

pub returns-in-Err-clause-err : goal.returns-in-Err-clause-err
returns-in-Err-clause-err g c =
    let Shut = CannotRead (g.F.FolderReader.refuses c.args.folder.now) (g.F.FilesByName.shuts c.args.folder.now) in
    let Gives = g.F.FolderReader.gives c.args.folder.now in
    let Lacks = g.F.FolderReader.lacks c.args.folder.now in
    let r = c.loop-r.r in
    let a = c.rendition_at-rendition.result.now in
    let stops : IsStop Shut Gives Lacks (numbers_at c.args.scan.now r) a c.in-Err.stop.fault =
    subst (λ (ns : List ℕ). IsStop Shut Gives Lacks ns a c.in-Err.stop.fault) c.numbers_of.ensures c.in-Err.ensures.err in
    rw (c.into.ensures, c.fault_at.ensures)
    (stopped-at Shut Gives Lacks c.args.scan.now c.args.asked.now c.loop-r.found.items r a c.in-Err.stop.fault c.loop-r.invariant.0 c.loop-r.invariant.1 c.rendition_at-rendition.ensures stops)
