-- What a clock keeps when it takes a PTS, and which it takes.
use Rattle.std.proofs.Common.{◌≡◌, ℕ, ℤ, ◌+◌, ◌<◌, ◌≤◌, ◌^◌, Bool, true, false, List, [], ◌∷◌, ◌++◌, length, Option, Some, None, sym, ap, ◌∙◌, arith, length-append, nat_lt, if◌then◌else◌}
use Rattle.std.specs.Prelude.{unsigned_abs, ◌&&◌}
use Rattle.std.proofs.lemmas.Bool.Decides.{nat_tests}
use Rattle.ghost_list.specs.declared.list.GhostList.{GhostList}
use Rattle.pes_time.specs.declared.clock.Stamp.{Stamp}
use Rattle.pes_time.specs.declared.clock.Last.{Last}
use Rattle.pes_time.specs.declared.clock.Clock.TheInside.{Inside}
use Rattle.pes_time.specs.Times.{Pushed, step, stamp_of, is_in_range, is_taken}
use Rattle.pes_time.specs.State.{clock_value, stamp_behind, IsInRange, IsTied}
use Rattle.pes_time.proofs.Behind.{stamp_of-first, stamp_of-append}

-- a clock that was pushed nothing
pub IsTied-none : (gap : ℕ) (list : GhostList ℕ) → list.items ≡ [] → IsTied (record { gap = gap; last = None; pushed = list })
IsTied-none gap list none = record { goes_on = λ p. rw none (stamp_of-first gap p); in_range = tt }

-- an epoch more, at most
one_more : (b : Bool) (n most : ℕ) → n ≤ most → (if b then n + 1 else n) ≤ most + 1
one_more true n most h = omega arith
one_more false n most h = omega arith

-- a clock has at most as many epochs as values
stamp_behind-epoch : (gap most : ℕ) (last : Option Last) (p : ℕ) → IsInRange most last →
    (stamp_behind gap last p).epoch ≤ most + 1
stamp_behind-epoch gap most None p in_range = omega arith
stamp_behind-epoch gap most (Some l) p in_range = one_more (nat_lt gap (unsigned_abs (step l.pts p))) l.stamp.epoch most in_range.2

-- what the test of the range says
within : (time : ℤ) → is_in_range time ≡ true → unsigned_abs time ≤ 2 ^ 62
within time in_range = grind (arith, nat_tests)

-- a clock that took one more
pub IsTied-one : (c : Inside) (list : GhostList ℕ) (p : ℕ) (s : Stamp) → IsTied c → list.items ≡ c.pushed.items ++ p ∷ [] →
    s ≡ stamp_behind c.gap c.last p → p < 2 ^ 33 → is_in_range s.time ≡ true →
    IsTied (record { gap = c.gap; last = Some (record { pts = p; stamp = s }); pushed = list })
IsTied-one c list p s tied grown is small in_range =
    let last : s ≡ stamp_of c.gap c.pushed.items p = is ∙ sym (tied.goes_on p) in
    let few : s.epoch ≤ length c.pushed.items + 1 = rw is (stamp_behind-epoch c.gap (length c.pushed.items) c.last p tied.in_range) in
    record {
      goes_on = λ q. rw grown (rw last (stamp_of-append c.gap c.pushed.items p q));
      in_range = (small, within s.time in_range, omega (arith, ap length grown, length-append c.pushed.items (p ∷ []), few));
    }

-- the test of a PTS of 33 bits is that of its time
small_test : (b : Bool) (p : ℕ) → p < 2 ^ 33 → b ≡ (nat_lt p (2 ^ 33) && b)
small_test b p small = grind (arith, nat_tests)

-- the test fails at a PTS of more bits
large_test : (b : Bool) (p : ℕ) → 2 ^ 33 ≤ p → false ≡ (nat_lt p (2 ^ 33) && b)
large_test b p large = grind (arith, nat_tests)

-- a PTS of more than 33 bits isn't taken
pub is_taken-large : (gap : ℕ) (list : List ℕ) (p : ℕ) → 2 ^ 33 ≤ p → false ≡ is_taken gap list p
unfolding is_taken
is_taken-large gap list p large = large_test _ p large

-- another is taken where the time that the clock finds for it is in range
pub is_taken-small : (c : Inside) (v : Pushed) (p : ℕ) (s : Stamp) → IsTied c → clock_value c ≡ v →
    s ≡ stamp_behind c.gap c.last p → p < 2 ^ 33 → is_in_range s.time ≡ is_taken v.gap v.list p
unfolding is_taken
is_taken-small c v p s tied is behind small =
    let stamp : s ≡ stamp_of v.gap v.list p = rw (← is) (behind ∙ sym (tied.goes_on p)) in
    ap (λ (t : Stamp). is_in_range t.time) stamp ∙ small_test _ p small
