use Rattle.std.proofs.Common.{slice_range, ◌≡◌, ◌+◌, ◌-◌, ◌/◌, length, take, drop, arith, ap, ◌∙◌}
use Rattle.psi_tables.specs.Section.{length_at, number_at}
use Rattle.hls_check.specs.Heads.{payloads}
use Rattle.hls_check.proofs.Payloads.{number-told, length-section, section-carried}
use Rattle.hls_check.proofs.head.carried_section.Goals as goal

pub returns-then-packets-count-clause-found : goal.returns-then-packets-count-clause-found
returns-then-packets-count-clause-found c = λ pid counter section rest sized same.
    let told = ap (λ x. number_at x 6) same ∙ number-told pid counter section rest sized.fields in
    absurd (omega (arith, c.if-packets-count.true, c.read_length-len.ensures.value, told, sized.whole, length-section pid counter section rest, ap length same))

pub slice_bounds-from_slice-end : goal.slice_bounds-from_slice-end
slice_bounds-from_slice-end c = omega (arith, c.in_ok-carried.ensures.len, c.deref.ensures.len)

pub returns-clause-found : goal.returns-clause-found
returns-clause-found c = λ pid counter section rest sized same.
    let told = ap (λ x. number_at x 6) same ∙ number-told pid counter section rest sized.fields in
    let is : 3 + c.read_length-len.result ≡ length section = omega (arith, c.read_length-len.ensures.value, told, sized.whole) in
    let len = 3 + c.read_length-len.result in
    let count : 1 + len - 1 ≡ len = omega arith in
    let carried : c.deref.result.now ≡ payloads ((len + 184) / 184) c.args.packets.now = c.deref.ensures.value ∙ c.in_ok-carried.ensures.items in
    c.in_ok-section.ensures.items
    ∙ ap (λ k. take k (drop 1 c.deref.result.now)) count
    ∙ ap (λ x. take len (drop 1 x)) (carried ∙ ap (payloads ((len + 184) / 184)) same)
    ∙ section-carried pid counter len section rest is

pub returns-clause-section : goal.returns-clause-section
returns-clause-section c =
    let packets = c.args.packets.now in
    let n = c.read_length-len.result in
    let is : n ≡ length_at packets 6 = omega (arith, c.read_length-len.ensures.value) in
    let carried : c.deref.result.now ≡ payloads (((3 + n) + 184) / 184) packets = c.deref.ensures.value ∙ c.in_ok-carried.ensures.items in
    c.in_ok-section.ensures.items ∙ ap (λ x. slice_range x 1 (1 + (3 + n))) carried
    ∙ ap (λ k. slice_range (payloads (((3 + k) + 184) / 184) packets) 1 (1 + (3 + k))) is

pub returns-then-packets-count-clause-enough : goal.returns-then-packets-count-clause-enough
returns-then-packets-count-clause-enough c has = omega (arith, c.if-packets-count.true, c.read_length-len.ensures.value, has)
