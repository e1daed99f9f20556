-- The stamp of one PTS more.
use Rattle.std.proofs.Common.{◌≡◌, ℕ, suc, ◌+◌, Bool, true, false, cond, List, [], ◌∷◌, ◌++◌, length, Some, None, refl, sym, ap, ◌∙◌, arith, pos, ℤ, ◌+ℤ◌, ◌-ℤ◌, get_or, nat_lt, if◌then◌else◌}
use Rattle.std.specs.Prelude.{unsigned_abs}
use Rattle.std.specs.List.{count_by}
use Rattle.std.proofs.Math.Seq.{get_or-append_seam}
use Rattle.std.proofs.lemmas.Int.{ints}
use Rattle.std.proofs.lemmas.List.Sums.{sum_by-append}
use Rattle.pes_time.specs.declared.clock.Stamp.{Stamp}
use Rattle.pes_time.specs.Times.{step, times, times_from, distances, distances_from, epoch, stamp_of}
use Rattle.pes_time.specs.State.{stamp_behind}

-- a stamp of these two
abbrev stamp : ℤ → ℕ → Stamp
stamp time epoch = record { time = time; epoch = epoch }

-- the time of p behind a time, its PTS and a list
abbrev time_from : ℤ → ℕ → List ℕ → ℕ → ℤ
time_from u q [] p = u +ℤ step q p
time_from u q (r ∷ list) p = time_from (u +ℤ step q r) r list p

-- the time of p behind a list
abbrev time_behind : List ℕ → ℕ → ℤ
time_behind [] p = pos p
time_behind (q ∷ list) p = time_from (pos q) q list p

-- one PTS more adds one time behind a time and its PTS
times_from-append : (u : ℤ) (q : ℕ) (list : List ℕ) (p : ℕ) →
    times_from u q (list ++ p ∷ []) ≡ times_from u q list ++ time_from u q list p ∷ []
unfolding times_from
times_from-append u q [] p = refl
times_from-append u q (r ∷ list) p = ap (λ (us : List ℤ). (u +ℤ step q r) ∷ us) (times_from-append (u +ℤ step q r) r list p)

-- and behind none
times-append : (list : List ℕ) (p : ℕ) → times (list ++ p ∷ []) ≡ times list ++ time_behind list p ∷ []
unfolding times times_from
times-append [] p = refl
times-append (q ∷ list) p = ap (λ (us : List ℤ). pos q ∷ us) (times_from-append (pos q) q list p)

-- the time behind one PTS more is a step on
time_from-append : (u : ℤ) (q : ℕ) (list : List ℕ) (r p : ℕ) → time_from u q (list ++ r ∷ []) p ≡ time_from u q list r +ℤ step r p
time_from-append u q [] r p = refl
time_from-append u q (s ∷ list) r p = time_from-append (u +ℤ step q s) s list r p

-- and where the list begins with the first PTS
time_behind-append : (list : List ℕ) (r p : ℕ) → time_behind (list ++ r ∷ []) p ≡ time_behind list r +ℤ step r p
time_behind-append [] r p = refl
time_behind-append (q ∷ list) r p = time_from-append (pos q) q list r p

-- each PTS has one time
length-times_from : (u : ℤ) (q : ℕ) (list : List ℕ) → length (times_from u q list) ≡ length list
unfolding times_from
length-times_from u q [] = refl
length-times_from u q (p ∷ list) = ap suc (length-times_from (u +ℤ step q p) p list)

-- each PTS of a list has one time
length-times : (list : List ℕ) → length (times list) ≡ length list
unfolding times
length-times [] = refl
length-times (p ∷ list) = ap suc (length-times_from (pos p) p list)

-- the time of a stamp is the last of all
stamp_of-time : (gap : ℕ) (list : List ℕ) (p : ℕ) → (stamp_of gap list p).time ≡ time_behind list p
unfolding stamp_of
stamp_of-time gap list p =
    let last : get_or (times list ++ time_behind list p ∷ []) (length (times list)) (pos 0) ≡ time_behind list p = get_or-append_seam (times list) (time_behind list p) [] (pos 0) in
    rw times-append (rw (← length-times list) last)

-- one PTS more adds the time of its stamp
pub times-stamp_of : (gap : ℕ) (list : List ℕ) (p : ℕ) → times (list ++ p ∷ []) ≡ times list ++ (stamp_of gap list p).time ∷ []
times-stamp_of gap list p = times-append list p ∙ ap (λ (u : ℤ). times list ++ u ∷ []) (sym (stamp_of-time gap list p))

-- one time more adds one distance behind a time
distances_from-append : (before : ℤ) (us : List ℤ) (u v : ℤ) →
    distances_from before ((us ++ u ∷ []) ++ v ∷ []) ≡ distances_from before (us ++ u ∷ []) ++ unsigned_abs (v -ℤ u) ∷ []
unfolding distances_from
distances_from-append before [] u v = refl
distances_from-append before (t ∷ us) u v = ap (λ (ds : List ℕ). unsigned_abs (t -ℤ before) ∷ ds) (distances_from-append t us u v)

-- and behind none, where there is a time before it
distances-append : (us : List ℤ) (u v : ℤ) →
    distances ((us ++ u ∷ []) ++ v ∷ []) ≡ distances (us ++ u ∷ []) ++ unsigned_abs (v -ℤ u) ∷ []
unfolding distances distances_from
distances-append [] u v = refl
distances-append (t ∷ us) u v = distances_from-append t us u v

-- one more that passes the test or doesn't
counted : (b : Bool) (n : ℕ) → n + (0 + cond b 1 0) ≡ (if b then n + 1 else n)
counted true n = omega arith
counted false n = omega arith

-- the count with one item more
count_by-append_one : (p : ℕ → Bool) (xs : List ℕ) (x : ℕ) →
    count_by p (xs ++ x ∷ []) ≡ (if p x then count_by p xs + 1 else count_by p xs)
count_by-append_one p xs x = sum_by-append (λ y. cond (p y) 1 0) xs (x ∷ []) ∙ counted (p x) (count_by p xs)

-- the epoch of one time more
epoch-append : (gap : ℕ) (us : List ℤ) (u v : ℤ) →
    epoch gap ((us ++ u ∷ []) ++ v ∷ []) ≡ (if nat_lt gap (unsigned_abs (v -ℤ u)) then epoch gap (us ++ u ∷ []) + 1 else epoch gap (us ++ u ∷ []))
unfolding epoch
epoch-append gap us u v = ap (count_by (nat_lt gap)) (distances-append us u v) ∙ count_by-append_one (nat_lt gap) (distances (us ++ u ∷ [])) (unsigned_abs (v -ℤ u))

-- the stamp of the first PTS
pub stamp_of-first : (gap p : ℕ) → stamp_of gap [] p ≡ stamp_behind gap None p
unfolding stamp_of times times_from epoch distances distances_from
stamp_of-first gap p = refl

-- a time that moves by a step lies that step from where it was
moved : (u d : ℤ) → (u +ℤ d) -ℤ u ≡ d
moved u d = omega (arith, ints)

-- stamps are equal where both fields are
stamps : (t u : ℤ) (m n : ℕ) → t ≡ u → m ≡ n → stamp t m ≡ stamp u n
stamps t u m n e f = cc

-- its epoch is that of all the times
pub stamp_of-epoch : (gap : ℕ) (list : List ℕ) (p : ℕ) → (stamp_of gap list p).epoch ≡ epoch gap (times (list ++ p ∷ []))
unfolding stamp_of
stamp_of-epoch gap list p = refl

-- the epoch of a PTS behind another, by the list of all times
epochs : (gap : ℕ) (list : List ℕ) (q p : ℕ) →
    times ((list ++ q ∷ []) ++ p ∷ []) ≡ (times list ++ (stamp_of gap list q).time ∷ []) ++ ((stamp_of gap list q).time +ℤ step q p) ∷ [] →
    (stamp_of gap (list ++ q ∷ []) p).epoch ≡ (if nat_lt gap (unsigned_abs (step q p)) then (stamp_of gap list q).epoch + 1 else (stamp_of gap list q).epoch)
epochs gap list q p all =
    let u : ℤ = (stamp_of gap list q).time in
    let last : epoch gap (times list ++ u ∷ []) ≡ (stamp_of gap list q).epoch = ap (epoch gap) (sym (times-stamp_of gap list q)) ∙ sym (stamp_of-epoch gap list q) in
    stamp_of-epoch gap (list ++ q ∷ []) p ∙ ap (epoch gap) all ∙ epoch-append gap (times list) u (u +ℤ step q p) ∙ ap (λ (e : ℕ). if nat_lt gap (unsigned_abs ((u +ℤ step q p) -ℤ u)) then e + 1 else e) last
    ∙ ap (λ (d : ℤ). if nat_lt gap (unsigned_abs d) then (stamp_of gap list q).epoch + 1 else (stamp_of gap list q).epoch) (moved u (step q p))

-- the stamp of a PTS behind another follows from that one and its stamp
pub stamp_of-append : (gap : ℕ) (list : List ℕ) (q p : ℕ) →
    stamp_of gap (list ++ q ∷ []) p ≡ stamp_behind gap (Some (record { pts = q; stamp = stamp_of gap list q })) p
stamp_of-append gap list q p =
    let u : ℤ = (stamp_of gap list q).time in
    let time : (stamp_of gap (list ++ q ∷ []) p).time ≡ u +ℤ step q p
    = stamp_of-time gap (list ++ q ∷ []) p ∙ time_behind-append list q p ∙ ap (λ (t : ℤ). t +ℤ step q p) (sym (stamp_of-time gap list q)) in
    let all : times ((list ++ q ∷ []) ++ p ∷ []) ≡ (times list ++ u ∷ []) ++ (u +ℤ step q p) ∷ []
    = times-stamp_of gap (list ++ q ∷ []) p ∙ ap (λ (t : ℤ). times (list ++ q ∷ []) ++ t ∷ []) time ∙ ap (λ (us : List ℤ). us ++ (u +ℤ step q p) ∷ []) (times-stamp_of gap list q) in
    stamps _ _ _ _ time (epochs gap list q p all)
