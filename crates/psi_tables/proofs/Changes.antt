-- The packets that came behind the last one that changed the chosen PID.
use Rattle.std.proofs.Common.{◌≡◌, ℕ, zero, suc, ◌-◌, ◌<◌, ◌≤◌, true, false, List, [], ◌∷◌, ◌++◌, length, take, drop, refl, sym, ◌∙◌, ap, subst, arith, inl, inr, Option, Some, None}
use Rattle.std.proofs.lemmas.Bool.{cond-true, cond-false, cases_Bool, cases_lt, eqb-true, eq-eqb}
use Rattle.std.proofs.lemmas.List.{length-take-le, drop-append-le, drop_all}
use Rattle.psi_tables.specs.InForce.{choice, same_pid, since_change, IsSinceChange}
use Rattle.psi_tables.specs.declared.choice.Choice.{Choice}

pub same_pid-refl : (a : Option Choice) → same_pid a a ≡ true
same_pid-refl None = refl
same_pid-refl (Some a) = eq-eqb a.pmt_pid a.pmt_pid refl

same_pid-trans : (a b c : Option Choice) → same_pid a b ≡ true → same_pid b c ≡ true → same_pid a c ≡ true
same_pid-trans None None c one two = two
same_pid-trans (Some a) (Some b) (Some c) one two = eq-eqb a.pmt_pid c.pmt_pid (eqb-true a.pmt_pid b.pmt_pid one ∙ eqb-true b.pmt_pid c.pmt_pid two)
same_pid-trans (Some a) (Some b) None one two = cc
same_pid-trans None (Some b) c one two = cc
same_pid-trans (Some a) None c one two = cc

take-one : (ps : List (List ℕ)) (i : ℕ) → i < length ps → take (suc i) ps ≡ take i ps ++ take 1 (drop i ps)
take-one [] i within = absurd (omega arith)
take-one (p ∷ ps) zero within = refl
take-one (p ∷ ps) (suc i) within = ap (λ (qs : List (List ℕ)). p ∷ qs) (take-one ps i (omega arith))

at_start : (wanted : Option ℕ) (ps : List (List ℕ)) → IsSinceChange wanted ps 0 []
at_start wanted ps = record {
  from = 0;
  within = omega arith;
  rest = refl;
  same = λ j from below. subst (λ (k : ℕ). same_pid (choice wanted (take k ps)) (choice wanted []) ≡ true) (let e : 0 ≡ j = omega arith in e) (same_pid-refl (choice wanted []));
  changed = inl refl;
}

same_at : (wanted : Option ℕ) (ps : List (List ℕ)) (i j : ℕ) → i ≡ j → same_pid (choice wanted (take j ps)) (choice wanted (take i ps)) ≡ true
same_at wanted ps i j is = subst (λ (k : ℕ). same_pid (choice wanted (take k ps)) (choice wanted (take i ps)) ≡ true) is (same_pid-refl (choice wanted (take i ps)))

one_on : (wanted : Option ℕ) (ps : List (List ℕ)) (i : ℕ) (since : List (List ℕ)) → i < length ps → IsSinceChange wanted ps i since →
    same_pid (choice wanted (take i ps)) (choice wanted (take (suc i) ps)) ≡ true → IsSinceChange wanted ps (suc i) (since ++ take 1 (drop i ps))
one_on wanted ps i since within h test = record {
  from = h.from;
  within = let w = h.within in omega arith;
  rest = ap (λ (qs : List (List ℕ)). qs ++ take 1 (drop i ps)) h.rest
      ∙ sym (drop-append-le h.from (take i ps) (take 1 (drop i ps)) (let w = h.within in let l = length-take-le i ps (omega arith) in omega arith))
      ∙ ap (drop h.from) (sym (take-one ps i within));
  same = λ j from below. elim (cases_lt j (suc i)) [
    | inl before ↦ same_pid-trans (choice wanted (take j ps)) (choice wanted (take i ps)) (choice wanted (take (suc i) ps)) (h.same j from (omega arith)) test
    | inr there ↦ same_at wanted ps (suc i) j (omega arith)
  ];
  changed = h.changed;
}

changed_there : (wanted : Option ℕ) (ps : List (List ℕ)) (i : ℕ) → i < length ps →
    same_pid (choice wanted (take i ps)) (choice wanted (take (suc i) ps)) ≡ false → IsSinceChange wanted ps (suc i) []
changed_there wanted ps i within test = record {
  from = suc i;
  within = omega arith;
  rest = sym (drop_all (suc i) (take (suc i) ps) (let l = length-take-le (suc i) ps within in omega arith));
  same = λ j from below. same_at wanted ps (suc i) j (omega arith);
  changed = inr (ap (λ (k : ℕ). same_pid (choice wanted (take k ps)) (choice wanted (take (suc i) ps))) (let e : suc i - 1 ≡ i = omega arith in e) ∙ test);
}

pub since_change-is : (wanted : Option ℕ) (ps : List (List ℕ)) (i : ℕ) → i ≤ length ps → IsSinceChange wanted ps i (since_change wanted ps i)
unfolding since_change
since_change-is wanted ps zero within = at_start wanted ps
since_change-is wanted ps (suc i) within =
    let test = same_pid (choice wanted (take i ps)) (choice wanted (take (suc i) ps)) in
    let on = since_change wanted ps i ++ take 1 (drop i ps) in
    elim (cases_Bool test) [
      | inl y ↦ rw (cond-true test on [] y) (one_on wanted ps i (since_change wanted ps i) within (since_change-is wanted ps i (omega arith)) y)
      | inr n ↦ rw (cond-false test on [] n) (changed_there wanted ps i within n)
    ]
