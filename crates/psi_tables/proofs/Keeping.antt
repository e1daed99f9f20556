-- What an assembler keeps, one packet further on.
use Rattle.std.proofs.Common.{◌≡◌, ℕ, ◌<◌, true, false, cond, List, [], ◌∷◌, ◌++◌, refl, sym, ◌∙◌, ap, arith, append_assoc, inl, inr, Option, Some, None}
use Rattle.std.proofs.lemmas.Bool.{cases_Bool, cond-true, cond-false}
use Rattle.std.proofs.lemmas.List.{append-nil}
use Rattle.ts_packet.specs.Fields.{continuity_counter}
use Rattle.psi_tables.specs.Sections.{carrier, carriers, is_taken, last_counter, unfinished, sections_in, sections}
use Rattle.psi_tables.specs.State.{Gathered, gathered_sections, with_packet, to_come, Keeps, completed, left_behind, continued, IsCarried, IsLeftOut}
use Rattle.psi_tables.proofs.Flow.{IsFront, front_from, front_only, front_few}
use Rattle.psi_tables.proofs.Carrying.{taken_step, left_out_step, none_to_come, continued-is_front, left_behind-is_front}

-- nothing was pushed
kept_none : (on : ℕ) → Keeps (record { pid = on; packets = [] }) None []
unfolding sections to_come carriers sections_in unfinished last_counter
kept_none on = record { goes_on = λ more. refl; only_a_front = refl; short = omega arith; four_bits = tt; none = λ _. refl; counted = refl }

pub Keeps-none : (on : ℕ) (packets : List (List ℕ)) (begun : List ℕ) → packets ≡ [] → begun ≡ [] → Keeps (record { pid = on; packets = packets }) None begun
Keeps-none on packets begun none empty = rw (none, empty) (kept_none on)

-- the counter of the last packet that was taken, one packet further on
last_counter-push : (on : ℕ) (before : Option ℕ) (ps : List (List ℕ)) (p : List ℕ) →
    last_counter on before (ps ++ p ∷ []) ≡ cond (is_taken on (last_counter on before ps) p) (Some (continuity_counter p)) (last_counter on before ps)
unfolding last_counter
last_counter-push on before [] p = refl
last_counter-push on before (q ∷ ps) p = last_counter-push on (cond (is_taken on before q) (Some (continuity_counter q)) before) ps p

-- a packet that is taken behind the last counter carries parts of sections
pub taken-carried : (g : Gathered) (p : List ℕ) (last : Option ℕ) (begun : List ℕ) → Keeps g last begun → is_taken g.pid last p ≡ true → IsCarried g p
taken-carried g p last begun kept taken = ap (λ (b : Option ℕ). is_taken g.pid b p) (sym kept.counted) ∙ taken

pub four_bits : (p : List ℕ) → continuity_counter p < 16
four_bits p = omega arith

-- a packet that is taken
pub record Takes (g : Gathered) (p : List ℕ) (last : Option ℕ) (begun : List ℕ) (found : List (List ℕ)) : Type 0 where
  pub grown : gathered_sections (with_packet g p) ≡ gathered_sections g ++ found
  pub keeps : Keeps (with_packet g p) last begun

Takes-step : (g : Gathered) (p : List ℕ) (last : Option ℕ) (counter : ℕ) (begun begun_then : List ℕ) (found : List (List ℕ)) → Keeps g last begun → IsFront begun_then → counter < 16 → Some counter ≡ last_counter g.pid None (g.packets ++ p ∷ []) →
    ((more : List (List ℕ)) → to_come g.pid last begun (p ∷ more) ≡ found ++ to_come g.pid (Some counter) begun_then more) → Takes g p (Some counter) begun_then found
Takes-step g p last counter begun begun_then found kept front few counted step =
    let on = g.pid in
    let grown : sections on (g.packets ++ p ∷ []) ≡ sections on g.packets ++ found
    = kept.goes_on (p ∷ []) ∙ ap (λ (x : List (List ℕ)). sections on g.packets ++ x)
    (step [] ∙ ap (λ (x : List (List ℕ)). found ++ x) (none_to_come on (Some counter) begun_then front) ∙ append-nil found) in
    record {
      grown = grown;
      keeps = record {
        goes_on = λ more.
            ap (sections on) (append_assoc g.packets (p ∷ []) more) ∙ kept.goes_on (p ∷ more) ∙ ap (λ (x : List (List ℕ)). sections on g.packets ++ x) (step more)
            ∙ sym (append_assoc (sections on g.packets) found (to_come on (Some counter) begun_then more))
            ∙ ap (λ (x : List (List ℕ)). x ++ to_come on (Some counter) begun_then more) (sym grown);
        only_a_front = front_only begun_then front;
        short = front_few begun_then front;
        four_bits = few;
        none = λ is_none. cc;
        counted = counted;
      };
    }

pub Keeps-taken : (g : Gathered) (p : List ℕ) (last : Option ℕ) (begun : List ℕ) → Keeps g last begun → is_taken g.pid last p ≡ true →
    Takes g p (Some (continuity_counter p)) (left_behind (continued last begun (carrier p)) (carrier p)) (completed (continued last begun (carrier p)) (carrier p))
Keeps-taken g p last begun kept taken =
    let front = front_from begun kept.only_a_front in
    let going = continued-is_front last begun (carrier p) front in
    let counted = last_counter-push g.pid None g.packets p ∙ cond-true _ _ _ (taken-carried g p last begun kept taken) in
    Takes-step g p last (continuity_counter p) begun _ _ kept (left_behind-is_front _ (carrier p) going) (four_bits p) (sym counted) (λ more. taken_step g.pid last begun p more front taken)

-- a packet that is left out
pub record LeavesOut (g : Gathered) (p : List ℕ) : Type 0 where
  pub grown : gathered_sections (with_packet g p) ≡ gathered_sections g ++ []
  pub left_out : IsLeftOut g p

pub Keeps-left_out : (g : Gathered) (p : List ℕ) (last : Option ℕ) (begun : List ℕ) → Keeps g last begun → is_taken g.pid last p ≡ false → LeavesOut g p
Keeps-left_out g p last begun kept not_taken =
    let same : (more : List (List ℕ)) → sections g.pid (g.packets ++ p ∷ more) ≡ sections g.pid (g.packets ++ more)
    = λ more. kept.goes_on (p ∷ more) ∙ ap (λ (x : List (List ℕ)). gathered_sections g ++ x) (left_out_step g.pid last begun p more not_taken) ∙ sym (kept.goes_on more) in
    record {
      grown = same [] ∙ ap (sections g.pid) (append-nil g.packets) ∙ sym (append-nil (gathered_sections g));
      left_out = record {
        same = same;
        counted = last_counter-push g.pid None g.packets p ∙ cond-false _ _ _ (ap (λ (b : Option ℕ). is_taken g.pid b p) (sym kept.counted) ∙ not_taken);
      };
    }

pub Keeps-stays : (g : Gathered) (p : List ℕ) (last : Option ℕ) (begun : List ℕ) → Keeps g last begun → IsLeftOut g p → Keeps (with_packet g p) last begun
Keeps-stays g p last begun kept left_out =
    let now : sections g.pid (g.packets ++ p ∷ []) ≡ sections g.pid g.packets = left_out.same [] ∙ ap (sections g.pid) (append-nil g.packets) in
    record {
      goes_on = λ more.
          ap (sections g.pid) (append_assoc g.packets (p ∷ []) more) ∙ left_out.same more ∙ kept.goes_on more
          ∙ ap (λ (x : List (List ℕ)). x ++ to_come g.pid last begun more) (sym now);
      only_a_front = kept.only_a_front;
      short = kept.short;
      four_bits = kept.four_bits;
      none = kept.none;
      counted = kept.counted ∙ sym left_out.counted;
    }

-- what is kept depends on no more than what stands there
pub Keeps-same : (g : Gathered) (last last_then : Option ℕ) (begun begun_then : List ℕ) (packets : List (List ℕ)) → Keeps (record { pid = g.pid; packets = packets }) last begun →
    last_then ≡ last → begun_then ≡ begun → g.packets ≡ packets → Keeps g last_then begun_then
Keeps-same g last last_then begun begun_then packets kept same_last same_begun same_packets = rw (same_last, same_begun, same_packets) kept

-- Some state stands for each list: so the sections of a beginning begin the sections.
record SomeKeeps (g : Gathered) : Type 0 where
  pub last : Option ℕ
  pub begun : List ℕ
  pub keeps : Keeps g last begun

one_more : (g : Gathered) (p : List ℕ) → SomeKeeps g → SomeKeeps (with_packet g p)
one_more g p some = elim (cases_Bool (is_taken g.pid some.last p)) [
  | inl taken ↦ record { last = _; begun = _; keeps = (Keeps-taken g p some.last some.begun some.keeps taken).keeps }
  | inr not_taken ↦ record { last = some.last; begun = some.begun; keeps = Keeps-stays g p some.last some.begun some.keeps (Keeps-left_out g p some.last some.begun some.keeps not_taken).left_out }
]

all_more : (on : ℕ) (packets more : List (List ℕ)) → SomeKeeps (record { pid = on; packets = packets }) → SomeKeeps (record { pid = on; packets = packets ++ more })
all_more on packets [] some = rw (append-nil packets) some
all_more on packets (p ∷ more) some = rw (← append_assoc packets (p ∷ []) more) (all_more on (packets ++ p ∷ []) more (one_more (record { pid = on; packets = packets }) p some))

pub sections-append : (on : ℕ) (packets more : List (List ℕ)) → (others : List (List ℕ)) × (sections on (packets ++ more) ≡ sections on packets ++ others)
sections-append on packets more =
    let some = all_more on [] packets (record { last = None; begun = []; keeps = Keeps-none on [] [] refl refl }) in
    (to_come on some.last some.begun more, some.keeps.goes_on more)
