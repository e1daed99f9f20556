use Rattle.std.proofs.Common.{rules, ◌<◌, refl, inl, inr, subst, sym}
use Rattle.keeping.specs.State.{keeping_value}
use Rattle.keeping.specs.OneByOne.{HaveGone, Swept}
use Rattle.keeping.proofs.OneByOne.{lets-go, none-swept}
use Rattle.keeping.proofs.keeping.Keeping.let_go.Goals as goal

pub returns-in_err-take_places-clause-gone : goal.returns-in_err-take_places-clause-gone
returns-in_err-take_places-clause-gone g c = rw (sym c.self.view_is)
    (let k = keeping_value c.self.inside in
    let made = g.F.Folder.made c.args.files.now.folder in
    let then = g.F.Folder.made c.take_places.new.files.folder in
    lets-go k c.take_places.new.gone k.swept c.kept_from-until.result made then then
    (subst (λ text. HaveGone text k.base k.gone c.take_places.new.gone c.kept_from-until.result made then) c.deref.ensures c.take_places.ensures.went)
    (none-swept k.name k.older k.swept then c.self.invariant.swept) c.kept_from-until.ensures.gone (inl refl) c.self.invariant.earlier)

pub returns-in_err-take_some-clause-gone : goal.returns-in_err-take_some-clause-gone
returns-in_err-take_some-clause-gone g c = rw (sym c.self.view_is)
    (let k = keeping_value c.self.inside in
    let made = g.F.Folder.made c.args.files.now.folder in
    let mid = g.F.Folder.made c.take_places.new.files.folder in
    let then = g.F.Folder.made c.take_some.new.files.folder in
    let some : 0 < c.take_places.new.gone = search rules in
    lets-go k c.take_places.new.gone c.take_some.new.swept c.kept_from-until.result made mid then
    (subst (λ text. HaveGone text k.base k.gone c.take_places.new.gone c.kept_from-until.result made mid) c.deref.ensures c.take_places.ensures.went)
    (subst (λ numbers. Swept k.name numbers k.swept c.take_some.new.swept mid then) c.deref-then-some_went-2.ensures.value
    (subst (λ text. Swept text c.deref-then-some_went-2.result.now k.swept c.take_some.new.swept mid then) c.deref-then-some_went.ensures c.take_some.ensures.went))
    c.kept_from-until.ensures.gone (inr some) c.self.invariant.earlier)

pub returns-in_ok-take_some-clause-gone : goal.returns-in_ok-take_some-clause-gone
returns-in_ok-take_some-clause-gone g c = rw (sym c.self.view_is)
    (let k = keeping_value c.self.inside in
    let made = g.F.Folder.made c.args.files.now.folder in
    let mid = g.F.Folder.made c.take_places.new.files.folder in
    let then = g.F.Folder.made c.take_some.new.files.folder in
    let some : 0 < c.take_places.new.gone = search rules in
    lets-go k c.take_places.new.gone c.take_some.new.swept c.kept_from-until.result made mid then
    (subst (λ text. HaveGone text k.base k.gone c.take_places.new.gone c.kept_from-until.result made mid) c.deref.ensures c.take_places.ensures.went)
    (subst (λ numbers. Swept k.name numbers k.swept c.take_some.new.swept mid then) c.deref-then-some_went-2.ensures.value
    (subst (λ text. Swept text c.deref-then-some_went-2.result.now k.swept c.take_some.new.swept mid then) c.deref-then-some_went.ensures c.take_some.ensures.went))
    c.kept_from-until.ensures.gone (inr some) c.self.invariant.earlier)
