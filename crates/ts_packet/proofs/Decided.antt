-- `decided` is the longest list that begins the packets however the stream goes on.
use Rattle.std.proofs.Common.{◌≡◌, ℕ, zero, suc, ◌≤◌, Bool, true, false, cond, List, [], ◌∷◌, ◌++◌, length, take, replicate, refl, sym, ◌∙◌, ap, arith, length-append, inl, inr}
use Rattle.std.proofs.lemmas.Bool.{cond-true, cond-false, cases_Bool, leb-true, leb-false}
use Rattle.std.proofs.lemmas.List.{append-nil, take_at, take-append-le}
use Rattle.ts_packet.specs.Packets.{is_open, begins, packets_from, packets, decided_from, decided, IsDecided}
use Rattle.ts_packet.proofs.Front.{begins-append, packets_from-short, packets_from-then_zeros}

-- however it goes on, these packets come first, and then those of a rest of too few bytes
pub record Splits (locked : Bool) (left : ℕ) (s : List ℕ) (ps : List (List ℕ)) : Type 0 where
  pub locked_then : Bool
  pub rest : List ℕ
  pub short : length rest ≤ cond locked_then 187 376
  pub goes_on : (more : List ℕ) → packets_from locked left (s ++ more) ≡ ps ++ packets_from locked_then 0 (rest ++ more)

-- a rest of too few bytes can go on so that it gives no packet
gives_none : (locked : Bool) (rest : List ℕ) → length rest ≤ cond locked 187 376 → (more : List ℕ) × (packets_from locked 0 (rest ++ more) ≡ [])
gives_none true rest short = ([], rw append-nil (packets_from-short true rest (omega arith)))
gives_none false rest short = (replicate 376 0, packets_from-then_zeros rest 376 short (omega arith))

pub Splits-IsDecided : (s : List ℕ) (ps : List (List ℕ)) → Splits false 0 s ps → IsDecided s ps
unfolding packets
Splits-IsDecided s ps split = record {
  always = λ more. (packets_from split.locked_then 0 (split.rest ++ more), split.goes_on more);
  longest = λ qs front.
      let end = gives_none split.locked_then split.rest split.short in
      let same : packets_from false 0 (s ++ end.0) ≡ ps ++ [] = split.goes_on end.0 ∙ ap (λ (xs : List (List ℕ)). ps ++ xs) end.1 in
      let lengths : length (ps ++ []) ≡ length (qs ++ (front end.0).0) = ap length (sym same ∙ (front end.0).1) in
      omega (arith, length-append ps [], length-append qs (front end.0).0);
}

-- there is one such list
pub IsDecided-once : (s : List ℕ) (ps qs : List (List ℕ)) → IsDecided s ps → IsDecided s qs → ps ≡ qs
IsDecided-once s ps qs p q =
    let a = p.always [] in
    let b = q.always [] in
    let same : length ps ≡ length qs = let x = p.longest qs q.always in let y = q.longest ps p.always in omega arith in
    sym (take_at ps a.0 (length ps) refl) ∙ ap (take (length ps)) (sym a.1 ∙ b.1) ∙ take_at qs b.0 (length ps) (sym same)

open-short : (locked : Bool) (s : List ℕ) → is_open locked s ≡ true → length s ≤ cond locked 187 376
open-short true s h = leb-true _ _ h
open-short false s h = leb-true _ _ h

open-not : (locked : Bool) (s : List ℕ) → is_open locked s ≡ false → cond locked 188 377 ≤ length s
open-not true s h = let k = leb-false _ _ h in omega arith
open-not false s h = let k = leb-false _ _ h in omega arith

holds_a_packet : (locked : Bool) (n : ℕ) → cond locked 188 377 ≤ n → 188 ≤ n
holds_a_packet true n h = h
holds_a_packet false n h = omega arith

split : (locked : Bool) (left : ℕ) (s : List ℕ) → left ≤ length s → Splits locked left s (decided_from locked left s)
unfolding packets_from decided_from
split true zero [] h = record { locked_then = true; rest = []; short = omega arith; goes_on = λ more. refl }
split false zero [] h = record { locked_then = false; rest = []; short = omega arith; goes_on = λ more. refl }
split locked (suc left) [] h = absurd (omega arith)
split locked (suc left) (b ∷ s) h =
    let r = split locked left s (omega arith) in
    record { locked_then = r.locked_then; rest = r.rest; short = r.short; goes_on = r.goes_on }
split locked zero (b ∷ s) h = elim (cases_Bool (is_open locked (b ∷ s))) [
  | inl o ↦ rw (cond-true _ _ _ o) (record { locked_then = locked; rest = b ∷ s; short = open-short locked (b ∷ s) o; goes_on = λ more. refl })
  | inr o ↦
      let long : cond locked 188 377 ≤ length (b ∷ s) = open-not locked (b ∷ s) o in
      let whole : 188 ≤ length (b ∷ s) = holds_a_packet locked _ long in
      elim (cases_Bool (begins locked (b ∷ s))) [
        | inl begun ↦
            let r = split true 187 s (omega arith) in
            rw (cond-false _ _ _ o, cond-true _ _ _ begun) (record {
              locked_then = r.locked_then;
              rest = r.rest;
              short = r.short;
              goes_on = λ more. cond-true _ _ _ (begins-append locked (b ∷ s) more long ∙ begun)
                  ∙ ap (λ (x : List ℕ). x ∷ packets_from true 187 (s ++ more)) (take-append-le 188 (b ∷ s) more whole)
                  ∙ ap (λ (xs : List (List ℕ)). take 188 (b ∷ s) ∷ xs) (r.goes_on more);
            })
        | inr unbegun ↦
            let r = split false 0 s (omega arith) in
            rw (cond-false _ _ _ o, cond-false _ _ _ unbegun) (record {
              locked_then = r.locked_then;
              rest = r.rest;
              short = r.short;
              goes_on = λ more. cond-false _ _ _ (begins-append locked (b ∷ s) more long ∙ unbegun) ∙ r.goes_on more;
            })
      ]
]

pub decided-IsDecided : (s : List ℕ) → IsDecided s (decided s)
unfolding decided
decided-IsDecided s = Splits-IsDecided s _ (split false 0 s (omega arith))
