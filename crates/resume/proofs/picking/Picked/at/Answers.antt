use Rattle.std.proofs.Common.{◌≡◌, ℕ, suc, ◌+◌, ◌-◌, List, [], length, take, drop, get_or, refl, ap, subst, ◌∙◌, arith}
use Rattle.std.specs.Prelude.{IfSome, IfNone, IsSomeAnd}
use Rattle.media_playlist.specs.declared.row.FrameRow.{FrameRow}
use Rattle.media_playlist.specs.Sequences.{frames_of}
use Rattle.resume.specs.Picked.{picks_of}
use Rattle.resume.specs.Reading.{IsOutside, frames_at, frames_between, start_at}
use Rattle.resume.specs.Starts.{starts_from}
use Rattle.resume.proofs.Between.{between}
use Rattle.resume.proofs.picking.Picked.at.Goals as goal

pub returns-clause-ok : goal.returns-clause-ok
returns-clause-ok c = λ first rows d picked lt.
    let i = c.args.place in
    let total = c.len-count.result in
    let s = c.number_at-start.result in
    let e = c.number_at-end.result in
    let count : total ≡ 0 + length (frames_of rows) = omega (arith, c.len-count.ensures, ap length picked.frames_are) in
    let is = between 0 rows i d total count lt in
    let start : s ≡ get_or (starts_from 0 rows) i total =
    c.number_at-start.ensures ∙ ap (λ (xs : List ℕ). get_or xs i total) (c.deref.ensures.value ∙ picked.starts_are) in
    let next : i + 1 ≡ suc i = omega arith in
    let end : e ≡ get_or (starts_from 0 rows) (suc i) total =
    c.number_at-end.ensures ∙ ap (λ (xs : List ℕ). get_or xs (i + 1) total) (c.deref-2.ensures.value ∙ picked.starts_are) ∙ ap (λ (k : ℕ). get_or (starts_from 0 rows) k total) next in
    let all : c.deref-3.result.now ≡ frames_of rows = c.deref-3.ensures.value ∙ picked.frames_are in
    let frames = (get_or rows i d).frames in
    let long : e - s ≡ length frames = omega (arith, start, end, is.end_is) in
    let found = c.part.ensures.some (omega (arith, start, end, is.end_is)) (omega (arith, end, is.up_to, count, ap length all)) in
    let are : take (e - s) (drop s c.deref-3.result.now) ≡ frames =
    ap (λ (k : ℕ). take k (drop s c.deref-3.result.now)) long ∙ ap (λ (xs : List FrameRow). take (length frames) (drop s xs)) all
    ∙ ap (λ (k : ℕ). take (length frames) (drop k (frames_of rows))) start ∙ is.are [] refl in
    subst (λ (zs : List FrameRow). IsSomeAnd c.part.result (λ part. part.now ≡ zs)) are found

pub returns-clause-picked : goal.returns-clause-picked
returns-clause-picked c =
    let p = picks_of c.args.self.now in
    let i = c.args.place in
    let total = c.len-count.result in
    let s = c.number_at-start.result in
    let e = c.number_at-end.result in
    let count : total ≡ length p.frames = omega (arith, c.len-count.ensures) in
    let start : s ≡ get_or p.starts i (length p.frames) =
    c.number_at-start.ensures ∙ ap (λ (xs : List ℕ). get_or xs i total) c.deref.ensures.value ∙ ap (λ (k : ℕ). get_or p.starts i k) count in
    let end : e ≡ get_or p.starts (i + 1) (length p.frames) =
    c.number_at-end.ensures ∙ ap (λ (xs : List ℕ). get_or xs (i + 1) total) c.deref-2.ensures.value ∙ ap (λ (k : ℕ). get_or p.starts (i + 1) k) count in
    let same : frames_between c.deref-3.result.now s e ≡ frames_at p i =
    ap (λ (xs : List FrameRow). frames_between xs s e) c.deref-3.ensures.value ∙ ap (λ (k : ℕ). frames_between p.frames k e) start
    ∙ ap (λ (k : ℕ). frames_between p.frames (get_or p.starts i (length p.frames)) k) end in
    subst (λ (zs : List FrameRow). IfSome c.part.result (λ part. part.now ≡ zs)) same c.part.ensures.picked

pub returns-clause-none : goal.returns-clause-none
returns-clause-none c =
    let p = picks_of c.args.self.now in
    let i = c.args.place in
    let total = c.len-count.result in
    let s = c.number_at-start.result in
    let e = c.number_at-end.result in
    let count : total ≡ length p.frames = omega (arith, c.len-count.ensures) in
    let start : s ≡ start_at p i =
    c.number_at-start.ensures ∙ ap (λ (xs : List ℕ). get_or xs i total) c.deref.ensures.value ∙ ap (λ (k : ℕ). get_or p.starts i k) count in
    let end : e ≡ start_at p (i + 1) =
    c.number_at-end.ensures ∙ ap (λ (xs : List ℕ). get_or xs (i + 1) total) c.deref-2.ensures.value ∙ ap (λ (k : ℕ). get_or p.starts (i + 1) k) count in
    subst (λ (frames : List FrameRow). IfNone c.part.result (IsOutside frames (start_at p i) (start_at p (i + 1)))) c.deref-3.ensures.value
    (subst (λ (k : ℕ). IfNone c.part.result (IsOutside c.deref-3.result.now k (start_at p (i + 1)))) start
    (subst (λ (k : ℕ). IfNone c.part.result (IsOutside c.deref-3.result.now s k)) end c.part.ensures.outside))
