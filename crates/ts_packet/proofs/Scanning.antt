-- One step of a scan.
use Rattle.std.proofs.Common.{◌≡◌, ℕ, ◌+◌, ◌-◌, ◌≤◌, Bool, true, false, List, [], ◌∷◌, ◌++◌, length, take, drop, refl, sym, ◌∙◌, ap, arith, append_assoc, length-append, length-drop}
use Rattle.std.proofs.lemmas.Bool.{false≢true}
use Rattle.std.proofs.lemmas.List.{append-nil, drop-drop}
use Rattle.ts_packet.specs.Packets.{begins, is_open}
use Rattle.ts_packet.specs.State.{needed, Scans}
use Rattle.ts_packet.proofs.Front.{begins-append, open-not-append, packets_from-packet_append, packets_from-other_append, rest_from-packet, rest_from-other}

pub needed-least : (at_end locked : Bool) (n : ℕ) → needed at_end locked ≤ n → 188 ≤ n
needed-least true locked n h = h
needed-least false true n h = h
needed-least false false n h = omega arith

begins-needed : (at_end locked : Bool) (s more : List ℕ) → needed at_end locked ≤ length s → (at_end ≡ true → more ≡ []) → begins locked (s ++ more) ≡ begins locked s
begins-needed true locked s more h last = ap (begins locked) (ap (λ (xs : List ℕ). s ++ xs) (last refl) ∙ append-nil s)
begins-needed false locked s more h last = begins-append locked s more h

-- the same, where the stream goes on
begins-going : (at_end locked : Bool) (s more : List ℕ) → at_end ≡ false → needed at_end locked ≤ length s → begins locked (s ++ more) ≡ begins locked s
begins-going true locked s more going h = absurd (false≢true (sym going))
begins-going false locked s more going h = begins-append locked s more h

open-needed : (at_end locked : Bool) (s more : List ℕ) → at_end ≡ false → needed at_end locked ≤ length s → is_open locked (s ++ more) ≡ false
open-needed true locked s more going h = absurd (false≢true (sym going))
open-needed false locked s more going h = open-not-append locked s more h

pub Scans-none : (at_end locked : Bool) (bytes : List ℕ) (old : List (List ℕ)) → Scans at_end locked bytes old old locked (drop 0 bytes) 0
Scans-none at_end locked bytes old =
    record { found = []; given = sym (append-nil old); finds = record { goes_on = λ more last. refl; leaves = λ going more. refl }; all_counted = omega arith }

pub Scans-packet : (at_end was locked : Bool) (bytes : List ℕ) (old new : List (List ℕ)) (at passed : ℕ) (packet : List ℕ) →
    Scans at_end was bytes old new locked (drop at bytes) passed → needed at_end locked ≤ length bytes - at →
    begins locked (drop at bytes) ≡ true → packet ≡ take 188 (drop at bytes) → Scans at_end was bytes old (new ++ packet ∷ []) true (drop (at + 188) bytes) passed
Scans-packet at_end was locked bytes old new at passed packet scan enough begun is =
    let s = drop at bytes in
    let long : needed at_end locked ≤ length s = rw length-drop enough in
    let whole : 188 ≤ length s = needed-least at_end locked _ long in
    record {
      found = scan.found ++ packet ∷ [];
      given = ap (λ (xs : List (List ℕ)). xs ++ packet ∷ []) scan.given ∙ append_assoc old scan.found (packet ∷ []);
      finds = record {
        goes_on = λ more last.
            scan.finds.goes_on more last
            ∙ ap (λ (xs : List (List ℕ)). scan.found ++ xs) (packets_from-packet_append locked s more whole (begins-needed at_end locked s more long last ∙ begun))
            ∙ rw (drop-drop 188 at bytes, is, append_assoc) refl;
        leaves = λ going more.
            scan.finds.leaves going more
            ∙ rest_from-packet locked s more whole (open-needed at_end locked s more going long) (begins-going at_end locked s more going long ∙ begun)
            ∙ rw (drop-drop 188 at bytes) refl;
      };
      all_counted = omega (arith, scan.all_counted, length-append scan.found (packet ∷ []), length-drop at bytes, length-drop (at + 188) bytes);
    }

pub Scans-other : (at_end was locked : Bool) (bytes : List ℕ) (old new : List (List ℕ)) (at passed : ℕ) →
    Scans at_end was bytes old new locked (drop at bytes) passed → needed at_end locked ≤ length bytes - at →
    begins locked (drop at bytes) ≡ false → Scans at_end was bytes old new false (drop (at + 1) bytes) (passed + 1)
Scans-other at_end was locked bytes old new at passed scan enough unbegun =
    let s = drop at bytes in
    let long : needed at_end locked ≤ length s = rw length-drop enough in
    let some : 188 ≤ length s = needed-least at_end locked _ long in
    record {
      found = scan.found;
      given = scan.given;
      finds = record {
        goes_on = λ more last.
            scan.finds.goes_on more last
            ∙ ap (λ (xs : List (List ℕ)). scan.found ++ xs) (packets_from-other_append locked s more (omega arith) (begins-needed at_end locked s more long last ∙ unbegun))
            ∙ rw (drop-drop 1 at bytes) refl;
        leaves = λ going more.
            scan.finds.leaves going more
            ∙ rest_from-other locked s more (omega arith) (open-needed at_end locked s more going long) (begins-going at_end locked s more going long ∙ unbegun)
            ∙ rw (drop-drop 1 at bytes) refl;
      };
      all_counted = omega (arith, scan.all_counted, length-drop at bytes, length-drop (at + 1) bytes);
    }
