-- The tables in force, one packet further on.
use Rattle.std.proofs.Common.{◌≡◌, ℕ, zero, suc, ◌<◌, ◌≤◌, true, false, cond, List, [], ◌∷◌, ◌++◌, length, take, drop, refl, sym, ◌∙◌, ap, arith, length-append, append-nil, Option, Some, None}
use Rattle.std.specs.Option.{option_or}
use Rattle.std.specs.List.{filter_map}
use Rattle.std.proofs.lemmas.Bool.{cond-true, cond-false, eqb-true}
use Rattle.std.proofs.lemmas.List.{take-append-le, take-append-drop, length-take-le, take_all}
use Rattle.std.proofs.lemmas.List.Elements.{filter_map-append}
use Rattle.psi_tables.specs.Sections.{carriers, sections_in, sections}
use Rattle.psi_tables.specs.State.{Gathered, gathered_sections, with_packet, pid_of, tables_among, Watches}
use Rattle.psi_tables.specs.InForce.{InForce, last_or, choice_of, choice, same_pid, since_change, tables_of, put_in_force, tables_before, tables_behind}
use Rattle.psi_tables.specs.declared.choice.Choice.{Choice}
use Rattle.psi_tables.proofs.Changes.{same_pid-refl}
use Rattle.psi_tables.proofs.Choosing.{last_or-append, last_or-or}

-- what stands in a longer list at a place of the shorter one
one_there : (ps more : List (List ℕ)) (i : ℕ) → i < length ps → take 1 (drop i (ps ++ more)) ≡ take 1 (drop i ps)
one_there [] more i within = absurd (omega arith)
one_there (p ∷ ps) more zero within = refl
one_there (p ∷ ps) more (suc i) within = one_there ps more i (omega arith)

since_change-append : (wanted : Option ℕ) (ps more : List (List ℕ)) (i : ℕ) → i ≤ length ps → since_change wanted (ps ++ more) i ≡ since_change wanted ps i
unfolding since_change
since_change-append wanted ps more zero within = refl
since_change-append wanted ps more (suc i) within =
    let before : take i (ps ++ more) ≡ take i ps = take-append-le i ps more (omega arith) in
    let behind : take (suc i) (ps ++ more) ≡ take (suc i) ps = take-append-le (suc i) ps more within in
    let here = one_there ps more i within in
    let rest = since_change-append wanted ps more i (omega arith) in
    rw (before, behind, here, rest) refl

-- later packets don't change the tables before
pub tables_before-append : (wanted : Option ℕ) (ps more : List (List ℕ)) (i : ℕ) → i ≤ length ps → tables_before wanted (ps ++ more) i ≡ tables_before wanted ps i
unfolding tables_before
tables_before-append wanted ps more zero within = refl
tables_before-append wanted ps more (suc i) within =
    let before : take i (ps ++ more) ≡ take i ps = take-append-le i ps more (omega arith) in
    let here = one_there ps more i within in
    let since = since_change-append wanted ps more i (omega arith) in
    let rest = tables_before-append wanted ps more i (omega arith) in
    rw (before, here, since, rest) refl

-- a list with one packet more, at its last place
all_before : (ps : List (List ℕ)) (p : List ℕ) → take (length ps) (ps ++ p ∷ []) ≡ ps
all_before ps p = take-append-le (length ps) ps (p ∷ []) (omega arith) ∙ take_all (length ps) ps (omega arith)

all_of : (ps : List (List ℕ)) (p : List ℕ) → take (suc (length ps)) (ps ++ p ∷ []) ≡ ps ++ p ∷ []
all_of ps p = take_all (suc (length ps)) (ps ++ p ∷ []) (omega (arith, length-append ps (p ∷ [])))

last_there : (ps : List (List ℕ)) (p : List ℕ) → take 1 (drop (length ps) (ps ++ p ∷ [])) ≡ p ∷ []
last_there [] p = refl
last_there (q ∷ ps) p = last_there ps p

one_longer : (ps : List (List ℕ)) (p : List ℕ) → length (ps ++ p ∷ []) ≡ suc (length ps)
one_longer ps p = omega (arith, length-append ps (p ∷ []))

since_change-there : (wanted : Option ℕ) (ps : List (List ℕ)) (p : List ℕ) →
    since_change wanted (ps ++ p ∷ []) (suc (length ps)) ≡ cond (same_pid (choice wanted ps) (choice wanted (ps ++ p ∷ []))) (since_change wanted ps (length ps) ++ p ∷ []) []
unfolding since_change
since_change-there wanted ps p =
    let before = all_before ps p in
    let behind = all_of ps p in
    let here = last_there ps p in
    let rest = since_change-append wanted ps (p ∷ []) (length ps) (omega arith) in
    rw (before, behind, here, rest) refl

since_change-push : (wanted : Option ℕ) (ps : List (List ℕ)) (p : List ℕ) →
    since_change wanted (ps ++ p ∷ []) (length (ps ++ p ∷ [])) ≡ cond (same_pid (choice wanted ps) (choice wanted (ps ++ p ∷ []))) (since_change wanted ps (length ps) ++ p ∷ []) []
since_change-push wanted ps p = ap (since_change wanted (ps ++ p ∷ [])) (one_longer ps p) ∙ since_change-there wanted ps p

tables_before-there : (wanted : Option ℕ) (ps : List (List ℕ)) (p : List ℕ) →
    tables_before wanted (ps ++ p ∷ []) (suc (length ps)) ≡ last_or (tables_behind wanted ps) (put_in_force (choice wanted ps) (since_change wanted ps (length ps)) (p ∷ []))
unfolding tables_before
tables_before-there wanted ps p =
    let before = all_before ps p in
    let here = last_there ps p in
    let since = since_change-append wanted ps (p ∷ []) (length ps) (omega arith) in
    let rest = tables_before-append wanted ps (p ∷ []) (length ps) (omega arith) in
    rw (before, here, since, rest) refl

tables_behind-push : (wanted : Option ℕ) (ps : List (List ℕ)) (p : List ℕ) →
    tables_behind wanted (ps ++ p ∷ []) ≡ last_or (tables_behind wanted ps) (put_in_force (choice wanted ps) (since_change wanted ps (length ps)) (p ∷ []))
tables_behind-push wanted ps p = ap (tables_before wanted (ps ++ p ∷ [])) (one_longer ps p) ∙ tables_before-there wanted ps p

choice-push : (wanted : Option ℕ) (ps found : List (List ℕ)) (p : List ℕ) → sections 0 (ps ++ p ∷ []) ≡ sections 0 ps ++ found →
    choice wanted (ps ++ p ∷ []) ≡ last_or (choice wanted ps) (filter_map (choice_of wanted) found)
unfolding choice
choice-push wanted ps found p grown =
    ap (λ (x : List (List ℕ)). last_or None (filter_map (choice_of wanted) x)) grown
    ∙ ap (last_or None) (filter_map-append (choice_of wanted) (sections 0 ps) found)
    ∙ last_or-append None (filter_map (choice_of wanted) (sections 0 ps)) (filter_map (choice_of wanted) found)

-- the sections that a packet completes
drop_front : (xs ys : List (List ℕ)) → drop (length xs) (xs ++ ys) ≡ ys
drop_front [] ys = refl
drop_front (x ∷ xs) ys = drop_front xs ys

put_in_force-found : (chosen : Option Choice) (gathered found : List (List ℕ)) (p : List ℕ) → sections (pid_of chosen) (gathered ++ p ∷ []) ≡ sections (pid_of chosen) gathered ++ found →
    put_in_force chosen gathered (p ∷ []) ≡ tables_among chosen found
put_in_force-found None gathered found p grown = refl
put_in_force-found (Some c) gathered found p grown =
    ap (λ (x : List (List ℕ)). filter_map (tables_of c) (drop (length (sections c.pmt_pid gathered)) x)) grown
    ∙ ap (filter_map (tables_of c)) (drop_front (sections c.pmt_pid gathered) found)

same_pid-pid_of : (a b : Option Choice) → same_pid a b ≡ true → pid_of a ≡ pid_of b
same_pid-pid_of None None same = refl
same_pid-pid_of (Some a) (Some b) same = eqb-true a.pmt_pid b.pmt_pid same
same_pid-pid_of None (Some b) same = cc
same_pid-pid_of (Some a) None same = cc

-- what one packet more makes of what a watch keeps
pub record Steps (wanted : Option ℕ) (pats pmts : Gathered) (chosen : Option Choice) (tables : Option InForce) (p : List ℕ) (chosen_then : Option Choice) (tables_then : Option InForce) : Type 0 where
  pub found : List (List ℕ)
  pub grown : gathered_sections (with_packet pats p) ≡ gathered_sections pats ++ found
  pub chosen_is : chosen_then ≡ last_or chosen (filter_map (choice_of wanted) found)
  pub pmts_found : List (List ℕ)
  pub pmts_grown : gathered_sections (with_packet pmts p) ≡ gathered_sections pmts ++ pmts_found
  pub tables_is : tables_then ≡ option_or (last_or None (tables_among chosen pmts_found)) tables

chosen_behind : (wanted : Option ℕ) (pats pmts : Gathered) (chosen : Option Choice) (tables : Option InForce) (p : List ℕ) (chosen_then : Option Choice) (tables_then : Option InForce) →
    Watches wanted pats pmts chosen tables → Steps wanted pats pmts chosen tables p chosen_then tables_then → chosen_then ≡ choice wanted (pats.packets ++ p ∷ [])
chosen_behind wanted pats pmts chosen tables p chosen_then tables_then w s =
    let grown : sections 0 (pats.packets ++ p ∷ []) ≡ sections 0 pats.packets ++ s.found = rw w.on_pid_0 at s.grown in
    s.chosen_is ∙ ap (λ (c : Option Choice). last_or c (filter_map (choice_of wanted) s.found)) w.chosen_last ∙ sym (choice-push wanted pats.packets s.found p grown)

tables_then_behind : (wanted : Option ℕ) (pats pmts : Gathered) (chosen : Option Choice) (tables : Option InForce) (p : List ℕ) (chosen_then : Option Choice) (tables_then : Option InForce) →
    Watches wanted pats pmts chosen tables → Steps wanted pats pmts chosen tables p chosen_then tables_then → tables_then ≡ tables_behind wanted (pats.packets ++ p ∷ [])
tables_then_behind wanted pats pmts chosen tables p chosen_then tables_then w s =
    let since = since_change wanted pats.packets (length pats.packets) in
    let grown : sections (pid_of chosen) (since ++ p ∷ []) ≡ sections (pid_of chosen) since ++ s.pmts_found = rw w.gathered at s.pmts_grown in
    s.tables_is ∙ sym (last_or-or tables (tables_among chosen s.pmts_found))
    ∙ ap (λ (t : Option InForce). last_or t (tables_among chosen s.pmts_found)) w.in_force
    ∙ ap (last_or (tables_behind wanted pats.packets)) (sym (put_in_force-found chosen since s.pmts_found p grown))
    ∙ ap (λ (c : Option Choice). last_or (tables_behind wanted pats.packets) (put_in_force c since (p ∷ []))) w.chosen_last
    ∙ sym (tables_behind-push wanted pats.packets p)

pub Watches-same : (wanted : Option ℕ) (pats pmts : Gathered) (chosen : Option Choice) (tables : Option InForce) (p : List ℕ) (chosen_then : Option Choice) (tables_then : Option InForce) →
    Watches wanted pats pmts chosen tables → Steps wanted pats pmts chosen tables p chosen_then tables_then → same_pid chosen chosen_then ≡ true →
    Watches wanted (with_packet pats p) (with_packet pmts p) chosen_then tables_then
Watches-same wanted pats pmts chosen tables p chosen_then tables_then w s same =
    let behind = chosen_behind wanted pats pmts chosen tables p chosen_then tables_then w s in
    let test : same_pid (choice wanted pats.packets) (choice wanted (pats.packets ++ p ∷ [])) ≡ true = rw (w.chosen_last, behind) at same in
    let since : since_change wanted (pats.packets ++ p ∷ []) (length (pats.packets ++ p ∷ [])) ≡ since_change wanted pats.packets (length pats.packets) ++ p ∷ []
    = since_change-push wanted pats.packets p ∙ cond-true _ _ _ test in
    record {
      on_pid_0 = w.on_pid_0;
      chosen_last = behind;
      gathered = ap (λ (g : Gathered). with_packet g p) w.gathered
          ∙ ap (λ (n : ℕ). record { pid = n; packets = since_change wanted pats.packets (length pats.packets) ++ p ∷ [] }) (same_pid-pid_of chosen chosen_then same)
          ∙ ap (λ (ps : List (List ℕ)). record { pid = pid_of chosen_then; packets = ps }) (sym since);
      in_force = tables_then_behind wanted pats pmts chosen tables p chosen_then tables_then w s;
    }

pub Watches-anew : (wanted : Option ℕ) (pats pmts : Gathered) (chosen : Option Choice) (tables : Option InForce) (p : List ℕ) (chosen_then : Option Choice) (tables_then : Option InForce) (pmts_then : Gathered) →
    Watches wanted pats pmts chosen tables → Steps wanted pats pmts chosen tables p chosen_then tables_then → same_pid chosen chosen_then ≡ false →
    pmts_then ≡ record { pid = pid_of chosen_then; packets = [] } → Watches wanted (with_packet pats p) pmts_then chosen_then tables_then
Watches-anew wanted pats pmts chosen tables p chosen_then tables_then pmts_then w s other anew =
    let behind = chosen_behind wanted pats pmts chosen tables p chosen_then tables_then w s in
    let test : same_pid (choice wanted pats.packets) (choice wanted (pats.packets ++ p ∷ [])) ≡ false = rw (w.chosen_last, behind) at other in
    let since : since_change wanted (pats.packets ++ p ∷ []) (length (pats.packets ++ p ∷ [])) ≡ []
    = since_change-push wanted pats.packets p ∙ cond-false _ _ _ test in
    record {
      on_pid_0 = w.on_pid_0;
      chosen_last = behind;
      gathered = anew ∙ ap (λ (ps : List (List ℕ)). record { pid = pid_of chosen_then; packets = ps }) (sym since);
      in_force = tables_then_behind wanted pats pmts chosen tables p chosen_then tables_then w s;
    }

-- nothing was pushed
watches_none : (wanted : Option ℕ) → Watches wanted (record { pid = 0; packets = [] }) (record { pid = 0; packets = [] }) None None
unfolding choice sections carriers sections_in since_change tables_before last_or
watches_none wanted = record { on_pid_0 = refl; chosen_last = refl; gathered = refl; in_force = refl }

pub Watches-none : (wanted : Option ℕ) (pats pmts : Gathered) → pats ≡ record { pid = 0; packets = [] } → pmts ≡ record { pid = 0; packets = [] } →
    Watches wanted pats pmts None None
Watches-none wanted pats pmts none_pats none_pmts = rw (none_pats, none_pmts) (watches_none wanted)

-- the tables before packet i are those behind the packets before it
pub tables_before-take : (wanted : Option ℕ) (ps : List (List ℕ)) (i : ℕ) → i ≤ length ps → tables_before wanted ps i ≡ tables_behind wanted (take i ps)
tables_before-take wanted ps i within =
    let long : length (take i ps) ≡ i = length-take-le i ps within in
    ap (λ (qs : List (List ℕ)). tables_before wanted qs i) (sym (take-append-drop i ps))
    ∙ tables_before-append wanted (take i ps) (drop i ps) i (omega arith)
    ∙ ap (tables_before wanted (take i ps)) (sym long)

-- no section is no choice, and puts nothing in force
no_tables : (chosen : Option Choice) (tables : Option InForce) → tables ≡ option_or (last_or None (tables_among chosen [])) tables
unfolding last_or
no_tables None tables = refl
no_tables (Some c) tables = refl

-- neither section that is gathered goes on
pub Watches-passed : (wanted : Option ℕ) (pats pmts : Gathered) (chosen : Option Choice) (tables : Option InForce) (p : List ℕ) →
    Watches wanted pats pmts chosen tables →
    gathered_sections (with_packet pats p) ≡ gathered_sections pats → gathered_sections (with_packet pmts p) ≡ gathered_sections pmts →
    Watches wanted (with_packet pats p) (with_packet pmts p) chosen tables
unfolding last_or
Watches-passed wanted pats pmts chosen tables p w no_pat no_pmt = Watches-same wanted pats pmts chosen tables p chosen tables w (record {
  found = [];
  grown = no_pat ∙ sym (append-nil (gathered_sections pats));
  chosen_is = refl;
  pmts_found = [];
  pmts_grown = no_pmt ∙ sym (append-nil (gathered_sections pmts));
  tables_is = no_tables chosen tables;
}) (same_pid-refl chosen)
