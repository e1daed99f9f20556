-- Tables in force are good.
use Rattle.std.proofs.Common.{◌≡◌, ℕ, zero, suc, ◌+◌, ◌*◌, ◌%◌, ◌<◌, ◌≤◌, ◌^◌, Bool, true, false, not, ◌==◌, ◌&&◌, ltb, leb, List, [], ◌∷◌, length, take, drop, refl, subst, arith, inl, inr, Option, Some, None}
use Rattle.std.specs.Option.{option_or, option_map, is_none, unwrap_or}
use Rattle.std.specs.List.{filter_map, cons_option, find}
use Rattle.std.proofs.lemmas.Bool.{cases_Bool, cond-true, cond-false, not-false, and_parts, eqb-true, leb-true}
use Rattle.psi_tables.specs.Crc.{crc}
use Rattle.psi_tables.specs.Section.{first_standing, bytes_before_crc, table_id, section_syntax_indicator, section_length, current_next_indicator, section_number, last_section_number}
use Rattle.psi_tables.specs.Association.{association, pat_fault, programs, chosen, is_wanted}
use Rattle.psi_tables.specs.ProgramMap.{program_map, pmt_fault, entries_of}
use Rattle.psi_tables.specs.Sections.{sections}
use Rattle.psi_tables.specs.InForce.{InForce, IsGood, HasPid, last_or, entry_choice, choice_of, choice, tables_of, put_in_force, completed_on, since_change, tables_before}
use Rattle.psi_tables.specs.declared.fault.TableFault.{TableFault}
use Rattle.psi_tables.specs.declared.fault.TableFault.TheVariants.{Short, WrongTable, BadCrc, NotCurrent, ManySections, BadLengths}
use Rattle.psi_tables.specs.declared.pat.ProgramEntry.{ProgramEntry}
use Rattle.psi_tables.specs.declared.choice.Choice.{Choice}

-- where no fault stands, the first doesn't, and none of the others
none_stands : (fault : TableFault) (test : Bool) (faults : List (TableFault × Bool)) → first_standing ((fault, test) ∷ faults) ≡ None → (test ≡ false) × (first_standing faults ≡ None)
none_stands fault true faults none = absurd (let e = none in cc)
none_stands fault false faults none = (refl, none)

pub record IsUnchanged (s : List ℕ) : Type 0 where
  pub unchanged : crc s ≡ 0
  pub short : length s ≤ 1024

pub pmt_unchanged : (s : List ℕ) → pmt_fault s ≡ None → IsUnchanged s
pmt_unchanged s good =
    let lengths_test : Bool = not ((3 + section_length s == length s) && leb (section_length s) 1021) in
    let from_entries : List (TableFault × Bool) = (BadLengths, is_none (entries_of s)) ∷ [] in
    let from_lengths : List (TableFault × Bool) = (BadLengths, lengths_test) ∷ from_entries in
    let many_test : Bool = not ((section_number s == 0) && (last_section_number s == 0)) in
    let from_many : List (TableFault × Bool) = (ManySections, many_test) ∷ from_lengths in
    let from_next : List (TableFault × Bool) = (NotCurrent, not (current_next_indicator s)) ∷ from_many in
    let from_bad : List (TableFault × Bool) = (BadCrc, not (crc s == 0)) ∷ from_next in
    let wrong_test : Bool = not ((table_id s == 2) && section_syntax_indicator s) in
    let short = none_stands Short (ltb (length s) 16) ((WrongTable, wrong_test) ∷ from_bad) good in
    let wrong = none_stands WrongTable wrong_test from_bad short.1 in
    let bad = none_stands BadCrc (not (crc s == 0)) from_next wrong.1 in
    let next = none_stands NotCurrent (not (current_next_indicator s)) from_many bad.1 in
    let many = none_stands ManySections many_test from_lengths next.1 in
    let lengths = none_stands BadLengths lengths_test from_entries many.1 in
    let fit = and_parts (3 + section_length s == length s) (leb (section_length s) 1021) (not-false _ lengths.0) in
    let is : 3 + section_length s ≡ length s = eqb-true (3 + section_length s) (length s) fit.0 in
    let most : section_length s ≤ 1021 = leb-true (section_length s) 1021 fit.1 in
    record { unchanged = eqb-true (crc s) 0 (not-false _ bad.0); short = omega arith }

-- PIDs have 13 bits
abbrev Pids : List ProgramEntry → Type 0
Pids [] = Unit {0}
Pids (e ∷ es) = (e.pid < 2 ^ 13) × Pids es

abbrev PidsIn : Option (List ProgramEntry) → Type 0
PidsIn None = Unit {0}
PidsIn (Some es) = Pids es

PidsIn-cons : (e : ProgramEntry) (es : Option (List ProgramEntry)) → e.pid < 2 ^ 13 → PidsIn es → PidsIn (option_map (λ es. e ∷ es) es)
PidsIn-cons e None below rest = tt
PidsIn-cons e (Some es) below rest = (below, rest)

PidsIn-programs : (bytes : List ℕ) → PidsIn (programs bytes)
unfolding programs
PidsIn-programs [] = tt
PidsIn-programs (a ∷ []) = tt
PidsIn-programs (a ∷ b ∷ []) = tt
PidsIn-programs (a ∷ b ∷ c ∷ []) = tt
PidsIn-programs (a ∷ b ∷ c ∷ d ∷ bytes) = PidsIn-cons (record { program = a * 256 + b; pid = (c * 256 + d) % 8192 }) (programs bytes) (omega arith) (PidsIn-programs bytes)

Pids-unwrap : (es : Option (List ProgramEntry)) → PidsIn es → Pids (unwrap_or es [])
Pids-unwrap None pids = tt
Pids-unwrap (Some es) pids = pids

abbrev PidIn : Option ProgramEntry → Type 0
PidIn None = Unit {0}
PidIn (Some e) = e.pid < 2 ^ 13

PidIn-find : (f : ProgramEntry → Bool) (es : List ProgramEntry) → Pids es → PidIn (find f es)
PidIn-find f [] pids = tt
PidIn-find f (e ∷ es) pids = elim (cases_Bool (f e)) [
  | inl y ↦ rw (cond-true (f e) (Some e) (find f es) y) pids.0
  | inr n ↦ rw (cond-false (f e) (Some e) (find f es) n) (PidIn-find f es pids.1)
]

HasPid-chosen : (stream_id : ℕ) (e : Option ProgramEntry) → PidIn e → HasPid (option_map (entry_choice stream_id) (option_map (λ (entry : ProgramEntry). (entry.program, entry.pid)) e))
HasPid-chosen stream_id None pid = tt
HasPid-chosen stream_id (Some e) pid = pid

HasPid-choice_of : (wanted : Option ℕ) (s : List ℕ) → HasPid (choice_of wanted s)
unfolding choice_of
HasPid-choice_of wanted s =
    let made = option_map (entry_choice (association s).transport_stream_id) (chosen wanted (association s)) in
    elim (cases_Bool (is_none (pat_fault s))) [
      | inl y ↦ rw (cond-true (is_none (pat_fault s)) made None y)
          (HasPid-chosen (association s).transport_stream_id (find (is_wanted wanted) (association s).entries) (PidIn-find (is_wanted wanted) (association s).entries (Pids-unwrap (programs (bytes_before_crc 8 s)) (PidsIn-programs (bytes_before_crc 8 s)))))
      | inr n ↦ rw (cond-false (is_none (pat_fault s)) made None n) tt
    ]

-- What holds of each thing that sections give holds of the last.
module _ {A : Type 0} (P : Option A → Type 0) where
  one_more : (before o : Option A) → P before → P o → P None → P (option_or o before)
  one_more before None p q r = p
  one_more before (Some x) p q r = q

  last_or-cons : (before o : Option A) (xs : List A) → last_or before (cons_option o xs) ≡ last_or (option_or o before) xs
  unfolding last_or
  last_or-cons before None xs = refl
  last_or-cons before (Some x) xs = refl

  pub last_or-keeps : (f : List ℕ → Option A) (before : Option A) (ss : List (List ℕ)) → P before → ((s : List ℕ) → P (f s)) → P None → P (last_or before (filter_map f ss))
  unfolding last_or
  last_or-keeps f before [] p each none = p
  last_or-keeps f before (s ∷ ss) p each none =
      rw (last_or-cons before (f s) (filter_map f ss)) (last_or-keeps f (option_or (f s) before) ss (one_more before (f s) p (each s) none) each none)

pub HasPid-choice : (wanted : Option ℕ) (packets : List (List ℕ)) → HasPid (choice wanted packets)
unfolding choice
HasPid-choice wanted packets = last_or-keeps HasPid (choice_of wanted) None (sections 0 packets) tt (HasPid-choice_of wanted) tt

abbrev pub AreGood : Option InForce → Type 0
AreGood None = Unit {0}
AreGood (Some t) = IsGood t

none_there : (fault : Option TableFault) → is_none fault ≡ true → fault ≡ None
none_there None none = refl
none_there (Some fault) none = absurd (let e : false ≡ true = none in cc)

pub good_tables : (c : Choice) (s : List ℕ) → c.pmt_pid < 2 ^ 13 → pmt_fault s ≡ None → (program_map s).program ≡ c.program →
    IsGood (record { stream_id = c.stream_id; program = c.program; pmt_pid = c.pmt_pid; section = s })
good_tables c s pid good of_program =
    let u = pmt_unchanged s good in
    record { good = good; unchanged = u.unchanged; short = u.short; of_program = of_program; pid = pid }

AreGood-tables_of : (c : Choice) (s : List ℕ) → c.pmt_pid < 2 ^ 13 → AreGood (tables_of c s)
unfolding tables_of
AreGood-tables_of c s pid =
    let t : InForce = record { stream_id = c.stream_id; program = c.program; pmt_pid = c.pmt_pid; section = s } in
    let test = is_none (pmt_fault s) && ((program_map s).program == c.program) in
    elim (cases_Bool test) [
      | inl y ↦
          let both = and_parts _ _ y in
          rw (cond-true test (Some t) None y) (good_tables c s pid (none_there (pmt_fault s) both.0) (eqb-true _ _ both.1))
      | inr n ↦ rw (cond-false test (Some t) None n) tt
    ]

AreGood-put : (c : Option Choice) (gathered packets : List (List ℕ)) (before : Option InForce) → HasPid c → AreGood before → AreGood (last_or before (put_in_force c gathered packets))
unfolding last_or
AreGood-put None gathered packets before pid good = good
AreGood-put (Some c) gathered packets before pid good =
    last_or-keeps AreGood (tables_of c) before (completed_on c.pmt_pid gathered packets) good (λ s. AreGood-tables_of c s pid) tt

pub AreGood-before : (wanted : Option ℕ) (packets : List (List ℕ)) (i : ℕ) → AreGood (tables_before wanted packets i)
unfolding tables_before
AreGood-before wanted packets zero = tt
AreGood-before wanted packets (suc i) =
    AreGood-put (choice wanted (take i packets)) (since_change wanted packets i) (take 1 (drop i packets)) (tables_before wanted packets i) (HasPid-choice wanted (take i packets)) (AreGood-before wanted packets i)

pub are_good : (o : Option InForce) (t : InForce) → o ≡ Some t → AreGood o → IsGood t
are_good None t is good = absurd (let e = is in cc)
are_good (Some u) t is good = subst IsGood (some-inj u t is) good
  where
    some-inj : (u t : InForce) → Some u ≡ Some t → u ≡ t
    some-inj u t e = cc
