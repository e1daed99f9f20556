-- What a reader keeps after a piece, and what it gives at the end.
use Rattle.std.proofs.Common.{◌≡◌, ℕ, ◌+◌, ◌<◌, ◌≤◌, Bool, true, false, cond, List, [], ◌++◌, length, Result, Ok, Err, refl, sym, ◌∙◌, ap, append_assoc, arith, length-append}
use Rattle.std.specs.Prelude.{OnErr}
use Rattle.std.proofs.lemmas.List.{append-nil}
use Rattle.std.proofs.lemmas.Bool.{false≢true, le-leb}
use Rattle.ts_packet.specs.Packets.{packets, packets_from, decided, decided_from, is_open, Rest, rest_from, rest_of, skipped}
use Rattle.ts_packet.specs.State.{needed, Keeps, Scans, GrowsAlike}
use Rattle.ts_packet.proofs.Front.{packets_from-short, rest_from-short}
use Rattle.ts_packet.proofs.Decided.{Splits-IsDecided, IsDecided-once, decided-IsDecided}

pub Keeps-none : (rest : List ℕ) → rest ≡ [] → Keeps [] false rest 0
unfolding packets decided decided_from rest_of
Keeps-none rest none = record {
  short = omega (arith, ap length none);
  goes_on = λ more. ap (λ (xs : List ℕ). packets_from false 0 (xs ++ more)) (sym none);
  leaves = λ more. ap (λ (xs : List ℕ). rest_from false 0 (xs ++ more)) (sym none);
  all_counted = omega (arith, ap length none);
}

-- what a scan of the rest with a piece behind it gives
pub record Feeds (fed piece : List ℕ) (old new : List (List ℕ)) (locked : Bool) (rest : List ℕ) (passed : ℕ) : Type 0 where
  pub grows : GrowsAlike (decided fed) (decided (fed ++ piece)) old new
  pub keeps : Keeps (fed ++ piece) locked rest passed

pub Keeps-piece : (fed piece : List ℕ) (locked : Bool) (rest : List ℕ) (passed : ℕ) (old new : List (List ℕ)) (locked_then : Bool) (rest_then : List ℕ) (more_passed : ℕ) →
    Keeps fed locked rest passed → Scans false locked (rest ++ piece) old new locked_then rest_then more_passed → length rest_then < needed false locked_then →
    Feeds fed piece old new locked_then rest_then (passed + more_passed)
unfolding packets
Keeps-piece fed piece locked rest passed old new locked_then rest_then more_passed kept scan short =
    let on : (more : List ℕ) → packets ((fed ++ piece) ++ more) ≡ (decided fed ++ scan.found) ++ packets_from locked_then 0 (rest_then ++ more)
    = λ more.
    ap packets (append_assoc fed piece more)
    ∙ kept.goes_on (piece ++ more)
    ∙ ap (λ (xs : List ℕ). decided fed ++ packets_from locked 0 xs) (sym (append_assoc rest piece more))
    ∙ ap (λ (xs : List (List ℕ)). decided fed ++ xs) (scan.finds.goes_on more (λ e. absurd (false≢true e)))
    ∙ sym (append_assoc (decided fed) scan.found _) in
    let same : decided (fed ++ piece) ≡ decided fed ++ scan.found
    = IsDecided-once (fed ++ piece) _ _ (decided-IsDecided (fed ++ piece))
    (Splits-IsDecided (fed ++ piece) _ (record { locked_then = locked_then; rest = rest_then; short = few locked_then (length rest_then) short; goes_on = on })) in
    let lengths : length (decided (fed ++ piece)) ≡ length (decided fed) + length scan.found = ap length same ∙ length-append (decided fed) scan.found in
    record {
      grows = record { more = scan.found; grown = same; given = scan.given };
      keeps = record {
        short = short;
        goes_on = λ more. rw same (on more);
        leaves = λ more.
            ap rest_of (append_assoc fed piece more)
            ∙ kept.leaves (piece ++ more)
            ∙ ap (rest_from locked 0) (sym (append_assoc rest piece more))
            ∙ scan.finds.leaves refl more;
        all_counted = omega (arith, lengths, kept.all_counted, scan.all_counted, length-append rest piece, length-append fed piece);
      };
    }
  where
    few : (locked : Bool) (n : ℕ) → n < needed false locked → n ≤ cond locked 187 376
    few true n h = omega arith
    few false n h = omega arith

-- what a scan of the rest at the end of the stream gives
pub record Ends (fed : List ℕ) (old new : List (List ℕ)) (passed : ℕ) : Type 0 where
  pub grows : GrowsAlike (decided fed) (packets fed) old new
  pub skips : passed ≡ skipped fed

pub Keeps-end : (fed : List ℕ) (locked : Bool) (rest : List ℕ) (passed : ℕ) (old new : List (List ℕ)) (locked_then : Bool) (rest_then : List ℕ) (more_passed : ℕ) →
    Keeps fed locked rest passed → Scans true locked rest old new locked_then rest_then more_passed → length rest_then < 188 →
    Ends fed old new (passed + more_passed + length rest_then)
unfolding skipped
Keeps-end fed locked rest passed old new locked_then rest_then more_passed kept scan short =
    let same : packets fed ≡ decided fed ++ scan.found =
    ap packets (sym (append-nil fed))
    ∙ kept.goes_on []
    ∙ ap (λ (xs : List (List ℕ)). decided fed ++ xs) (scan.finds.goes_on [] (λ e. refl)
    ∙ ap (λ (xs : List (List ℕ)). scan.found ++ xs) (ap (packets_from locked_then 0) (append-nil rest_then) ∙ packets_from-short locked_then rest_then short)
    ∙ append-nil scan.found) in
    let lengths : length (packets fed) ≡ length (decided fed) + length scan.found = ap length same ∙ length-append (decided fed) scan.found in
    record {
      grows = record { more = scan.found; grown = same; given = scan.given };
      skips = omega (arith, lengths, kept.all_counted, scan.all_counted);
    }

-- so few bytes tell nothing
few-open : (locked : Bool) (s : List ℕ) → length s < needed false locked → is_open locked s ≡ true
few-open true s few = le-leb _ 187 (omega (arith, few))
few-open false s few = le-leb _ 376 (omega (arith, few))

-- what is kept is the rest
pub Keeps-rest : (fed : List ℕ) (locked : Bool) (rest : List ℕ) (passed : ℕ) → Keeps fed locked rest passed → rest_of fed ≡ record { locked = locked; bytes = rest }
Keeps-rest fed locked rest passed kept =
    ap rest_of (sym (append-nil fed)) ∙ kept.leaves [] ∙ ap (rest_from locked 0) (append-nil rest) ∙ rest_from-short locked rest (few-open locked rest kept.short)

-- so many bytes are kept
pub kept-long : (fed now : List ℕ) (locked : Bool) (rest : List ℕ) (passed : ℕ) → Keeps fed locked rest passed → fed ≡ now → length (rest_of now).bytes ≡ length rest
kept-long fed now locked rest passed kept same = ap (λ (r : Rest). length r.bytes) (ap rest_of (sym same) ∙ Keeps-rest fed locked rest passed kept)

-- what an error says
pub on-err : {T E P : Type 0} (r : Result T E) → P → OnErr r P
on-err (Ok x) holds = _
on-err (Err e) holds = holds
