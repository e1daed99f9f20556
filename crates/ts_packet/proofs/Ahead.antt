-- The packets that stand one behind another at the front of a piece.
use Rattle.std.proofs.Common.{inl, inr, ◌≡◌, ◌≢◌, ℕ, suc, ◌+◌, ◌-◌, ◌*◌, ◌/◌, ◌<◌, ◌≤◌, leb, Bool, true, false, List, [], ◌∷◌, ◌++◌, length, take, drop, get_or, refl, sym, ◌∙◌, ap, arith, append_assoc, length-append, length-drop}
use Rattle.ghost_list.proofs.Chunks.{chunk_at}
use Rattle.std.proofs.Math.Seq.{take-suc}
use Rattle.std.proofs.lemmas.Bool.{le-leb, lt-leb, and_left, and_right}
use Rattle.std.proofs.lemmas.Bool.Decides.{eqb_tells}
use Rattle.std.proofs.lemmas.List.{get_or-take, get_or-drop}
use Rattle.std.specs.Simd.{first_chunks}
use Rattle.ts_packet.specs.Packets.{begins, decided, fits, packets_from}
use Rattle.ts_packet.specs.State.{needed, Scans, Keeps, GrowsAlike}
use Rattle.ts_packet.proofs.Feeding.{Keeps-piece}
use Rattle.ts_packet.proofs.Scanning.{Scans-packet}

-- one packet more
pub Scans-chunk : (bytes : List ℕ) (chunks : List (List ℕ)) (count : ℕ) → chunks ≡ first_chunks 188 (length bytes / 188) bytes → length chunks ≡ length bytes / 188
    → count < length chunks → get_or (get_or chunks count []) 0 0 ≡ 71
    → Scans false true bytes [] (take count chunks) true (drop (188 * count) bytes) 0
    → Scans false true bytes [] (take (count + 1) chunks) true (drop (188 * (count + 1)) bytes) 0
Scans-chunk bytes chunks count all long within sync scan =
    let s = drop (188 * count) bytes in
    let is : get_or chunks count [] ≡ take 188 s = ap (λ list. get_or list count []) all ∙ chunk_at 188 (length bytes / 188) count bytes [] (omega arith) in
    let enough : 188 ≤ length bytes - 188 * count = omega arith in
    let fit : leb 188 (length s) ≡ true = le-leb 188 _ (omega (arith, length-drop (188 * count) bytes)) in
    let first : get_or s 0 0 ≡ 71 = sym (get_or-take 188 s 0 0 (omega arith)) ∙ ap (λ list. get_or list 0 0) (sym is) ∙ sync in
    let begun : begins true s ≡ true = cc in
    let more : take count chunks ++ get_or chunks count [] ∷ [] ≡ take (count + 1) chunks = let next : suc count ≡ count + 1 = omega arith in sym (take-suc chunks count [] within) ∙ ap (λ k. take k chunks) next in
    let at : drop (188 * count + 188) bytes ≡ drop (188 * (count + 1)) bytes = let next : 188 * count + 188 ≡ 188 * (count + 1) = omega arith in ap (λ k. drop k bytes) next in
    rw (← more, ← at) (Scans-packet false true true bytes [] (take count chunks) (188 * count) 0 (get_or chunks count []) scan enough begun is)

-- what a scan found behind the packets that were ahead
pub Scans-both : (locked locked_then : Bool) (bytes : List ℕ) (lent old new : List (List ℕ)) (behind rest : List ℕ) (passed : ℕ)
    → Scans false locked bytes [] lent locked behind 0 → (scan : Scans false locked behind old new locked_then rest passed)
    → Scans false locked bytes [] (lent ++ scan.found) locked_then rest passed
Scans-both locked locked_then bytes lent old new behind rest passed ahead scan =
    let given : lent ≡ ahead.found = ahead.given in
    record {
      found = lent ++ scan.found;
      given = refl;
      finds = record {
        goes_on = λ more last.
            ahead.finds.goes_on more last
            ∙ ap (λ (xs : List (List ℕ)). xs ++ packets_from locked 0 (behind ++ more)) (sym given)
            ∙ ap (λ (xs : List (List ℕ)). lent ++ xs) (scan.finds.goes_on more last)
            ∙ sym (append_assoc lent scan.found _);
        leaves = λ going more. ahead.finds.leaves going more ∙ scan.finds.leaves going more;
      };
      all_counted = omega (arith, ahead.all_counted, scan.all_counted, ap length given, length-append lent scan.found);
    }

-- what a reader lends and gives of a piece, and what it keeps
pub record FeedsLending (fed piece : List ℕ) (lent old new : List (List ℕ)) (locked : Bool) (rest : List ℕ) (passed : ℕ) : Type 0 where
  pub grows : GrowsAlike (decided fed ++ lent) (decided (fed ++ piece)) old new
  pub keeps : Keeps (fed ++ piece) locked rest passed

pub Keeps-lending : (fed piece : List ℕ) (locked : Bool) (rest : List ℕ) (passed : ℕ) (lent old new : List (List ℕ)) (behind : List ℕ) (locked_then : Bool) (rest_then : List ℕ) (more_passed : ℕ) →
    Keeps fed locked rest passed → Scans false locked (rest ++ piece) [] lent locked behind 0 → Scans false locked behind old new locked_then rest_then more_passed
    → length rest_then < needed false locked_then → FeedsLending fed piece lent old new locked_then rest_then (passed + more_passed)
Keeps-lending fed piece locked rest passed lent old new behind locked_then rest_then more_passed kept ahead scan short =
    let feeds = Keeps-piece fed piece locked rest passed [] (lent ++ scan.found) locked_then rest_then more_passed kept (Scans-both locked locked_then (rest ++ piece) lent old new behind rest_then more_passed ahead scan) short in
    record {
      grows = record {
        more = scan.found;
        grown = feeds.grows.grown ∙ ap (λ xs. decided fed ++ xs) (sym feeds.grows.given) ∙ sym (append_assoc (decided fed) lent scan.found);
        given = scan.given;
      };
      keeps = feeds.keeps;
    }

-- none more fits behind the last
pub ahead-past : (bytes : List ℕ) (count n : ℕ) → n ≡ count → length bytes / 188 ≤ count → fits bytes (188 * n) ≡ false
ahead-past bytes count n same past = and_left _ _ (lt-leb (188 * n + 188) (length bytes) (omega (arith, same, past)))

-- or none begins there
pub ahead-other : (bytes : List ℕ) (chunks : List (List ℕ)) (count n : ℕ) → n ≡ count → chunks ≡ first_chunks 188 (length bytes / 188) bytes
    → count < length bytes / 188 → get_or (get_or chunks count []) 0 0 ≢ 71 → fits bytes (188 * n) ≡ false
ahead-other bytes chunks count n same all within other =
    let is : get_or chunks count [] ≡ take 188 (drop (188 * count) bytes) = ap (λ list. get_or list count []) all ∙ chunk_at 188 (length bytes / 188) count bytes [] within in
    let first : get_or (get_or chunks count []) 0 0 ≡ get_or bytes (188 * count) 0 =
    ap (λ list. get_or list 0 0) is ∙ get_or-take 188 (drop (188 * count) bytes) 0 0 (omega arith) ∙ get_or-drop (188 * count) bytes 0 0 ∙ ap (λ k. get_or bytes k 0) (omega arith) in
    let there : get_or bytes (188 * n) 0 ≢ 71 = λ sync. other (first ∙ ap (λ k. get_or bytes (188 * k) 0) (sym same) ∙ sync) in
    elim (eqb_tells (get_or bytes (188 * n) 0) 71) [ inl sync ↦ absurd (there sync.1) | inr unlike ↦ and_right _ _ unlike.0 ]
