-- Tables in force among packets of bytes can be sent in a head.
use Rattle.std.proofs.Common.{◌≡◌, ℕ, zero, suc, ◌<◌, ◌^◌, Bool, true, false, ◌&&◌, ◌==◌, List, [], ◌∷◌, ◌++◌, length, take, drop, Option, Some, None, refl, arith}
use Rattle.std.specs.Prelude.{if◌then◌else◌, is_none, option_map}
use Rattle.std.specs.List.{All, filter_map, cons_option}
use Rattle.std.proofs.lemmas.List.Elements.{All-nil, All-cons, All-head, All-tail, All-append, All-take, All-drop}
use Rattle.ghost_list.specs.Bytes.{AreBytes}
use Rattle.ghost_list.proofs.ByteLists.{two_bytes}
use Rattle.psi_tables.specs.declared.choice.Choice.{Choice}
use Rattle.psi_tables.specs.Association.{association, pat_fault, chosen}
use Rattle.psi_tables.specs.ProgramMap.{program_map, pmt_fault}
use Rattle.psi_tables.specs.Sections.{sections}
use Rattle.psi_tables.specs.Head.{IsSendable}
use Rattle.psi_tables.specs.InForce.{InForce, IsGood, last_or, entry_choice, choice_of, choice, same_pid, since_change, completed_on, tables_of, put_in_force, tables_before, tables_behind}
use Rattle.ingest.proofs.SectionBytes.{all_if, of-sections}

abbrev pub IfThere : {A : Type 0} → (A → Type 0) → Option A → Type 0
IfThere P None = Unit {0}
IfThere P (Some x) = P x

last-there : {A : Type 0} (P : A → Type 0) (before : Option A) (xs : List A) → IfThere P before → All P xs → IfThere P (last_or before xs)
unfolding last_or
last-there P before [] b all = b
last-there P before (x ∷ xs) b all = last-there P (Some x) xs (All-head P x xs all) (All-tail P x xs all)

all-cons_option : {A : Type 0} (P : A → Type 0) (o : Option A) (xs : List A) → IfThere P o → All P xs → All P (cons_option o xs)
all-cons_option P None xs o all = all
all-cons_option P (Some x) xs o all = All-cons P x xs o all

all-filter_map : {A B : Type 0} (Q : A → Type 0) (P : B → Type 0) (h : A → Option B) (xs : List A) → ((x : A) → Q x → IfThere P (h x)) → All Q xs → All P (filter_map h xs)
all-filter_map Q P h [] each all = All-nil P
all-filter_map Q P h (x ∷ xs) each all =
    all-cons_option P (h x) (filter_map h xs) (each x (All-head Q x xs all)) (all-filter_map Q P h xs each (All-tail Q x xs all))

there-if : {A : Type 0} (P : A → Type 0) (t : Bool) (o : Option A) → IfThere P o → IfThere P (if t then o else None)
there-if P true o h = h
there-if P false o h = tt

there-map : {A B : Type 0} (P : B → Type 0) (f : A → B) (o : Option A) → ((x : A) → P (f x)) → IfThere P (option_map f o)
there-map P f None each = tt
there-map P f (Some x) each = each x

-- a choice of a stream with a 16-bit number
abbrev IsNumbered : Choice → Type 0
IsNumbered c = c.stream_id < 2 ^ 16

of-choice : (wanted : Option ℕ) (packets : List (List ℕ)) → All AreBytes packets → IfThere IsNumbered (choice wanted packets)
unfolding choice choice_of
of-choice wanted packets all =
    last-there IsNumbered None (filter_map (choice_of wanted) (sections 0 packets)) tt
    (all-filter_map AreBytes IsNumbered (choice_of wanted) (sections 0 packets)
    (λ s bytes. there-if IsNumbered (is_none (pat_fault s)) (option_map (entry_choice (association s).transport_stream_id) (chosen wanted (association s)))
    (there-map IsNumbered (entry_choice (association s).transport_stream_id) (chosen wanted (association s)) (λ x. two_bytes s 3 bytes)))
    (of-sections 0 packets all))

-- tables that were read of bytes
pub record AreRead (t : InForce) : Type 0 where
  pub numbered : t.stream_id < 2 ^ 16
  pub bytes : AreBytes t.section

of-section : (c : Choice) → IsNumbered c → (s : List ℕ) → AreBytes s → IfThere AreRead (tables_of c s)
unfolding tables_of
of-section c numbered s bytes =
    there-if AreRead (is_none (pmt_fault s) && ((program_map s).program == c.program)) (Some (record { stream_id = c.stream_id; program = c.program; pmt_pid = c.pmt_pid; section = s })) (record { numbered = numbered; bytes = bytes })

of-put : (c : Option Choice) (gathered packets : List (List ℕ)) → IfThere IsNumbered c → All AreBytes gathered → All AreBytes packets → All AreRead (put_in_force c gathered packets)
of-put None gathered packets n g all = All-nil AreRead
of-put (Some c) gathered packets n g all =
    all-filter_map AreBytes AreRead (tables_of c) (completed_on c.pmt_pid gathered packets) (of-section c n)
    (All-drop AreBytes (length (sections c.pmt_pid gathered)) (sections c.pmt_pid (gathered ++ packets)) (of-sections c.pmt_pid (gathered ++ packets) (All-append AreBytes gathered packets g all)))

of-since : (wanted : Option ℕ) (packets : List (List ℕ)) (i : ℕ) → All AreBytes packets → All AreBytes (since_change wanted packets i)
unfolding since_change
of-since wanted packets zero all = All-nil AreBytes
of-since wanted packets (suc i) all =
    all_if AreBytes (same_pid (choice wanted (take i packets)) (choice wanted (take (suc i) packets))) (since_change wanted packets i ++ take 1 (drop i packets))
    (All-append AreBytes (since_change wanted packets i) (take 1 (drop i packets)) (of-since wanted packets i all)
    (All-take AreBytes 1 (drop i packets) (All-drop AreBytes i packets all)))

of-before : (wanted : Option ℕ) (packets : List (List ℕ)) (i : ℕ) → All AreBytes packets → IfThere AreRead (tables_before wanted packets i)
unfolding tables_before
of-before wanted packets zero all = tt
of-before wanted packets (suc i) all =
    last-there AreRead (tables_before wanted packets i)
    (put_in_force (choice wanted (take i packets)) (since_change wanted packets i) (take 1 (drop i packets))) (of-before wanted packets i all)
    (of-put (choice wanted (take i packets)) (since_change wanted packets i) (take 1 (drop i packets))
    (of-choice wanted (take i packets) (All-take AreBytes i packets all)) (of-since wanted packets i all)
    (All-take AreBytes 1 (drop i packets) (All-drop AreBytes i packets all)))

abbrev pub Goods : Type 0
Goods = (wanted : Option ℕ) (packets : List (List ℕ)) (i : ℕ) (t : InForce) → tables_before wanted packets i ≡ Some t → IsGood t

-- tables that can be sent, and are bytes
pub record CanGo (t : InForce) : Type 0 where
  pub tables : IsSendable t
  pub bytes : AreBytes t.section

can-by : Goods → (wanted : Option ℕ) (packets : List (List ℕ)) (o : Option InForce) → tables_behind wanted packets ≡ o → IfThere AreRead o → IfThere CanGo o
can-by goods wanted packets None e read = tt
can-by goods wanted packets (Some t) e read =
    let good = goods wanted packets (length packets) t e in
    record {
      tables = record {
        stream_id = read.numbered;
        program = omega (arith, good.of_program, two_bytes t.section 3 read.bytes);
        pmt_pid = good.pid;
        section = good.good;
      };
      bytes = read.bytes;
    }

pub can-go : Goods → (wanted : Option ℕ) (packets : List (List ℕ)) → All AreBytes packets → IfThere CanGo (tables_behind wanted packets)
can-go goods wanted packets all = can-by goods wanted packets (tables_behind wanted packets) refl (of-before wanted packets (length packets) all)
