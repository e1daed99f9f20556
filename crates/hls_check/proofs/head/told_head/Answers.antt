use Rattle.std.proofs.Common.{take, drop, ◌≡◌, ◌≢◌, ℕ, List, ◌++◌, Option, Some, None, subst, refl, arith, get_or, sym, ap, ◌∙◌, rules}
use Rattle.hls_check.proofs.TheHead.{begins-long, begins-pmt, begins-sized, begins-told, the-head-made}
use Rattle.std.specs.Option.{IsSomeAnd, is_some}
use Rattle.std.proofs.lemmas.Result.{err_from_is_err_and}
use Rattle.psi_tables.specs.Head.{head}
use Rattle.hls_check.specs.Unpacking.{BeginsWithHead}
use Rattle.hls_check.specs.Heads.{HasPackets, section_in, told_tables}
use Rattle.std.specs.Prelude.{IfSome, IfNone}
use Rattle.psi_tables.specs.ProgramMap.{pmt_fault}
use Rattle.hls_check.proofs.head.told_head.Goals as goal

-- what is there is what a clause says of it
IsSomeAnd-at : {A : Type 0} (o : Option A) (x : A) (P : A → Type 0) → o ≡ Some x → IsSomeAnd o P → P x
IsSomeAnd-at o x P is holds = subst (λ r. IsSomeAnd r P) is holds

-- where nothing is, no clause says anything of it
IsSomeAnd-none : {A : Type 0} (o : Option A) (P : A → Type 0) → ((x : A) → o ≢ Some x) → ¬ IsSomeAnd o P
IsSomeAnd-none None P nothing holds = holds
IsSomeAnd-none (Some x) P nothing holds = nothing x refl

-- where nothing is, what is said of nothing holds
IfNone-none : {A P : Type 0} (o : Option A) → ((x : A) → o ≢ Some x) → IfNone o P → P
IfNone-none None nothing holds = holds
IfNone-none (Some x) nothing holds = absurd (nothing x refl)

pub returns-then-text-clause-found : goal.returns-then-text-clause-found
returns-then-text-clause-found c = λ rest begins. omega (arith, c.if-text.true, begins-long c.args.text.now rest begins)

pub returns-in_default-clause-found : goal.returns-in_default-clause-found
returns-in_default-clause-found c = λ rest begins.
    let t = begins.tables in
    let carried = c.in_ok-section.ensures.found t.pmt_pid begins.pmt_counter t.section rest (begins-sized c.args.text.now rest begins) (c.split_at.ensures.back ∙ begins-pmt c.args.text.now rest begins) in
    IsSomeAnd-none _ _ c.in_default.not-Some carried

pub returns-then-not-branch-clause-found : goal.returns-then-not-branch-clause-found
returns-then-not-branch-clause-found c = λ rest begins.
    let t = begins.tables in
    let carried = c.in_ok-section.ensures.found t.pmt_pid begins.pmt_counter t.section rest (begins-sized c.args.text.now rest begins) (c.split_at.ensures.back ∙ begins-pmt c.args.text.now rest begins) in
    let same : c.in-Some.section.items ≡ t.section = IsSomeAnd-at _ _ (λ v. v.items ≡ begins.tables.section) c.in-Some.is carried in
    absurd (search (rules, c.if-not-branch.true, c.in_ok-is_pmt.ensures.good, same, begins.sendable.section))

pub returns-clause-found : goal.returns-clause-found
returns-clause-found c =
    let told : (rest : List ℕ) → (begins : BeginsWithHead c.args.text.now rest) → c.args.text.now ≡ head (told_tables c.split_at.result.0.now c.in-Some.section.items) (get_or c.split_at.result.0.now 3 0) (get_or c.split_at.result.1.now 3 0) ++ rest = λ rest begins. begins-told c.args.text.now rest c.split_at.result.0.now c.split_at.result.1.now c.in-Some.section.items begins c.split_at.ensures.front c.split_at.ensures.back (IsSomeAnd-at _ _ (λ v. v.items ≡ begins.tables.section) c.in-Some.is (c.in_ok-section.ensures.found begins.tables.pmt_pid begins.pmt_counter begins.tables.section rest (begins-sized c.args.text.now rest begins) (c.split_at.ensures.back ∙ begins-pmt c.args.text.now rest begins))) in
    let good : pmt_fault c.deref.result.now ≡ None = search (rules, c.if-not-branch.false, c.in_ok-is_pmt.ensures.good) in
    let read : pmt_fault c.deref-2.result.now ≡ None = ap pmt_fault (c.deref-2.ensures.value ∙ sym c.deref.ensures.value) ∙ good in
    the-head-made c.args.text.now c.split_at.result.0.now c.in-Some.section.items c.deref-2.result.now c.in_ok-made_head.field-0.items
    (get_or c.split_at.result.0.now 3 0) (get_or c.split_at.result.1.now 3 0) c.deref-2.ensures.value
    (c.made_head.ensures.sendable read) c.in_ok-made_head.ensures.is told

-- the section was found, so its packets are there
pub returns-in_err-section-clause-memory : goal.returns-in_err-section-clause-memory
returns-in_err-section-clause-memory c =
    let told = err_from_is_err_and c.from_residual.result c.from_residual.ensures.1 in
    rw told.1 (c.if-text.false, subst HasPackets c.split_at.ensures.back c.in_err-section.ensures.memory)

pub returns-in_err-is_pmt-clause-memory : goal.returns-in_err-is_pmt-clause-memory
returns-in_err-is_pmt-clause-memory c =
    let told = err_from_is_err_and c.from_residual-in_err-is_pmt.result c.from_residual-in_err-is_pmt.ensures.1 in
    rw told.1 (c.if-text.false, subst HasPackets c.split_at.ensures.back (c.in_ok-section.ensures.whole (ap is_some c.in-Some.is)))

pub returns-in_err-made_head-clause-memory : goal.returns-in_err-made_head-clause-memory
returns-in_err-made_head-clause-memory c =
    let told = err_from_is_err_and c.from_residual-in_err-made_head.result c.from_residual-in_err-made_head.ensures.1 in
    rw told.1 (c.if-text.false, subst HasPackets c.split_at.ensures.back (c.in_ok-section.ensures.whole (ap is_some c.in-Some.is)))

pub returns-clause-told : goal.returns-clause-told
returns-clause-told c =
    let section : c.in-Some.section.items ≡ section_in c.split_at.result.1.now = subst (λ o. IfSome o (λ bytes. bytes.items ≡ section_in c.split_at.result.1.now)) c.in-Some.is c.in_ok-section.ensures.section in
    let good : pmt_fault c.deref.result.now ≡ None = search (rules, c.if-not-branch.false, c.in_ok-is_pmt.ensures.good) in
    let back = c.split_at.ensures.back in
    let is = section ∙ ap section_in back in (
      ((c.if-text.false, subst HasPackets back (c.in_ok-section.ensures.whole (ap is_some c.in-Some.is))), sym (ap pmt_fault (c.deref.ensures.value ∙ is)) ∙ good),
      c.in_ok-made_head.ensures.is
          ∙ ap (λ x. head (told_tables c.split_at.result.0.now x) (get_or c.split_at.result.0.now 3 0) (get_or c.split_at.result.1.now 3 0)) (c.deref-2.ensures.value ∙ is)
          ∙ ap (λ x. head (told_tables x (section_in (drop 188 c.args.text.now))) (get_or x 3 0) (get_or c.split_at.result.1.now 3 0)) c.split_at.ensures.front
          ∙ ap (λ x. head (told_tables (take 188 c.args.text.now) (section_in (drop 188 c.args.text.now))) (get_or (take 188 c.args.text.now) 3 0) (get_or x 3 0)) back,
    )

pub returns-then-text-clause-none : goal.returns-then-text-clause-none
returns-then-text-clause-none c holds = omega (arith, c.if-text.true, holds.0.0)

pub returns-in_default-clause-none : goal.returns-in_default-clause-none
returns-in_default-clause-none c holds =
    IfNone-none _ c.in_default.not-Some c.in_ok-section.ensures.enough (subst HasPackets (sym c.split_at.ensures.back) holds.0.1)

pub returns-then-not-branch-clause-none : goal.returns-then-not-branch-clause-none
returns-then-not-branch-clause-none c holds =
    let section : c.in-Some.section.items ≡ section_in c.split_at.result.1.now = subst (λ o. IfSome o (λ bytes. bytes.items ≡ section_in c.split_at.result.1.now)) c.in-Some.is c.in_ok-section.ensures.section in
    let good : pmt_fault c.deref.result.now ≡ None = ap pmt_fault (c.deref.ensures.value ∙ (section ∙ ap section_in c.split_at.ensures.back)) ∙ holds.1 in
    absurd (search (rules, c.if-not-branch.true, c.in_ok-is_pmt.ensures.good, good))
