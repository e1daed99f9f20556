-- Sections in a flow of bytes.
use Rattle.std.proofs.Common.{◌≡◌, ℕ, zero, suc, ◌+◌, ◌≤◌, true, false, ◌==◌, List, [], ◌∷◌, ◌++◌, length, take, drop, refl, sym, ◌∙◌, ap, arith, append_assoc, inl, inr}
use Rattle.std.proofs.lemmas.Bool.{cond-true, cond-false, cases_Bool, eqb-true}
use Rattle.std.proofs.lemmas.List.{append-nil}
use Rattle.psi_tables.specs.Section.{section_length}
use Rattle.psi_tables.specs.Sections.{is_whole, first_section, begun_in, unfinished}
use Rattle.psi_tables.specs.State.{whole_front, open_front, open_rest, left_open}
use Rattle.psi_tables.proofs.Fronts.{IsWhole, IsOpen, IsNone, a_whole, an_open, a_none, front_of, whole_front-whole, whole_front-none, open_rest-whole, open_rest-open, open_rest-none}

pub none_begun : (flow : List ℕ) → begun_in 0 [] flow ≡ []
unfolding begun_in
none_begun flow = refl

none_unfinished : unfinished 0 [] ≡ []
unfolding unfinished
none_unfinished = refl

-- the bytes that are left of a section are passed over
passed : (n : ℕ) (bytes flow : List ℕ) → length bytes ≤ n → begun_in n bytes flow ≡ []
unfolding begun_in
passed n [] flow few = refl
passed zero (b ∷ bytes) flow few = absurd (omega arith)
passed (suc n) (b ∷ bytes) flow few = passed n bytes flow (omega arith)

begun_in-drop : (n : ℕ) (bytes flow : List ℕ) → begun_in n bytes flow ≡ begun_in 0 (drop n bytes) flow
unfolding begun_in
begun_in-drop zero bytes flow = refl
begun_in-drop (suc n) [] flow = refl
begun_in-drop (suc n) (b ∷ bytes) flow = begun_in-drop n bytes flow

unfinished-drop : (n : ℕ) (bytes : List ℕ) → unfinished n bytes ≡ unfinished 0 (drop n bytes)
unfolding unfinished
unfinished-drop zero bytes = refl
unfinished-drop (suc n) [] = refl
unfinished-drop (suc n) (b ∷ bytes) = unfinished-drop n bytes

-- whether a whole section stands at the front of the bytes and the flow
at_whole : (b : ℕ) (bytes flow : List ℕ) → is_whole ((b ∷ bytes) ++ flow) ≡ true →
    begun_in 0 (b ∷ bytes) flow ≡ first_section ((b ∷ bytes) ++ flow) ∷ begun_in (2 + section_length ((b ∷ bytes) ++ flow)) bytes flow
unfolding begun_in
at_whole b bytes flow whole = cond-true _ _ _ whole

at_none : (b : ℕ) (bytes flow : List ℕ) → is_whole ((b ∷ bytes) ++ flow) ≡ false → begun_in 0 (b ∷ bytes) flow ≡ []
unfolding begun_in
at_none b bytes flow not_whole = cond-false _ _ _ not_whole

none_there : (b : ℕ) (bytes : List ℕ) → is_whole (b ∷ bytes) ≡ false → begun_in 0 (b ∷ bytes) [] ≡ []
none_there b bytes not_whole = at_none b bytes [] (ap is_whole (append-nil (b ∷ bytes)) ∙ not_whole)

whole_there : (b : ℕ) (bytes flow : List ℕ) → IsWhole (b ∷ bytes) →
    begun_in 0 (b ∷ bytes) flow ≡ first_section (b ∷ bytes) ∷ begun_in (2 + section_length (b ∷ bytes)) bytes flow
whole_there b bytes flow h =
    at_whole b bytes flow (h.stays flow)
    ∙ ap (λ (s : List ℕ). s ∷ begun_in (2 + section_length ((b ∷ bytes) ++ flow)) bytes flow) (h.same flow)
    ∙ ap (λ (n : ℕ). first_section (b ∷ bytes) ∷ begun_in (2 + n) bytes flow) (h.same_length flow)

unfinished-whole : (b : ℕ) (bytes : List ℕ) → is_whole (b ∷ bytes) ≡ true → unfinished 0 (b ∷ bytes) ≡ unfinished (2 + section_length (b ∷ bytes)) bytes
unfolding unfinished
unfinished-whole b bytes whole = cond-true _ _ _ whole

pub unfinished-not_whole : (s : List ℕ) → is_whole s ≡ false → unfinished 0 s ≡ open_front s
unfolding unfinished
unfinished-not_whole [] not_whole = refl
unfinished-not_whole (b ∷ bytes) not_whole = cond-false _ _ _ not_whole

unfinished-open : (b : ℕ) (bytes : List ℕ) → IsOpen (b ∷ bytes) → unfinished 0 (b ∷ bytes) ≡ b ∷ bytes
unfinished-open b bytes h = unfinished-not_whole (b ∷ bytes) h.not_whole ∙ cond-true _ _ _ h.open_there

unfinished-none : (b : ℕ) (bytes : List ℕ) → IsNone (b ∷ bytes) → unfinished 0 (b ∷ bytes) ≡ []
unfinished-none b bytes h = unfinished-not_whole (b ∷ bytes) h.not_whole ∙ cond-false _ _ _ h.not_open

-- The bytes that come behind only go on what is unfinished.
pub split : (n : ℕ) (bytes flow : List ℕ) → begun_in n bytes flow ≡ begun_in n bytes [] ++ begun_in 0 (unfinished n bytes) flow
unfolding begun_in unfinished
split n [] flow = refl
split (suc n) (b ∷ bytes) flow = split n bytes flow
split zero (b ∷ bytes) flow =
    let s = b ∷ bytes in
    let n = 2 + section_length s in
    let behind = λ (found : List (List ℕ)) (left : List ℕ) (f : begun_in 0 s [] ≡ found) (l : unfinished 0 s ≡ left).
    ap (λ (x : List (List ℕ)). x ++ begun_in 0 (unfinished 0 s) flow) f ∙ ap (λ (x : List ℕ). found ++ begun_in 0 x flow) l in
    elim (front_of s) [
      | a_whole h ↦
          whole_there b bytes flow h
          ∙ ap (λ (x : List (List ℕ)). first_section s ∷ x) (split n bytes flow)
          ∙ sym (behind (first_section s ∷ begun_in n bytes []) (unfinished n bytes) (whole_there b bytes [] h) (unfinished-whole b bytes h.whole))
      | an_open h ↦ sym (behind [] s (none_there b bytes h.not_whole) (unfinished-open b bytes h))
      | a_none h ↦ at_none b bytes flow (h.never flow) ∙ sym (behind [] [] (none_there b bytes h.not_whole) (unfinished-none b bytes h) ∙ none_begun flow)
    ]

-- what is kept of a section: nothing, or the front of one that isn't whole
pub data IsFront : List ℕ → Type 0 where
  not_begun : IsFront []
  begun : (b : ℕ) (bytes : List ℕ) → IsOpen (b ∷ bytes) → IsFront (b ∷ bytes)

pub open_rest-is_front : (b : ℕ) (bytes : List ℕ) → IsFront (open_rest (b ∷ bytes))
open_rest-is_front b bytes = elim (front_of (b ∷ bytes)) [
  | a_whole h ↦ rw (open_rest-whole (b ∷ bytes) h.whole) not_begun
  | an_open h ↦ rw (open_rest-open (b ∷ bytes) h) (begun b bytes h)
  | a_none h ↦ rw (open_rest-none (b ∷ bytes) h) not_begun
]

unfinished-is_front : (n : ℕ) (bytes : List ℕ) → IsFront (unfinished n bytes)
unfolding unfinished
unfinished-is_front n [] = not_begun
unfinished-is_front (suc n) (b ∷ bytes) = unfinished-is_front n bytes
unfinished-is_front zero (b ∷ bytes) = elim (front_of (b ∷ bytes)) [
  | a_whole h ↦ rw (unfinished-whole b bytes h.whole) (unfinished-is_front (2 + section_length (b ∷ bytes)) bytes)
  | an_open h ↦ rw (unfinished-open b bytes h) (begun b bytes h)
  | a_none h ↦ rw (unfinished-none b bytes h) not_begun
]

pub front_from : (s : List ℕ) → unfinished 0 s ≡ s → IsFront s
front_from s only = rw only at (unfinished-is_front 0 s)

pub front_only : (s : List ℕ) → IsFront s → unfinished 0 s ≡ s
front_only [] not_begun = none_unfinished
front_only (_ ∷ _) (begun b bytes h) = unfinished-open b bytes h

pub front_few : (s : List ℕ) → IsFront s → length s ≤ 1024
front_few [] not_begun = omega arith
front_few (_ ∷ _) (begun b bytes h) = h.few

pub front_none : (s : List ℕ) → IsFront s → begun_in 0 s [] ≡ []
front_none [] not_begun = none_begun []
front_none (_ ∷ _) (begun b bytes h) = none_there b bytes h.not_whole

pub front_of_rest : (n : ℕ) (bytes : List ℕ) → IsFront (unfinished n bytes)
front_of_rest n bytes = unfinished-is_front n bytes

-- an open front ends in a whole section, or in none
pub one_section : (b : ℕ) (bytes flow : List ℕ) → IsOpen (b ∷ bytes) → begun_in 0 (b ∷ bytes) flow ≡ whole_front ((b ∷ bytes) ++ flow)
one_section b bytes flow h =
    let s = (b ∷ bytes) ++ flow in
    elim (cases_Bool (is_whole s)) [
      | inl whole ↦
          let few : length bytes ≤ 2 + section_length s = (let m = h.most flow in omega arith) in
          at_whole b bytes flow whole ∙ ap (λ (x : List (List ℕ)). first_section s ∷ x) (passed (2 + section_length s) bytes flow few) ∙ sym (whole_front-whole s whole)
      | inr not_whole ↦ at_none b bytes flow not_whole ∙ sym (whole_front-none s not_whole)
    ]

-- more bytes of a section that was begun
pub goes_on : (t more flow : List ℕ) → IsFront t → begun_in 0 t (more ++ flow) ≡ begun_in 0 t more ++ begun_in 0 (left_open t more) flow
goes_on [] more flow not_begun = none_begun (more ++ flow) ∙ sym (ap (λ (x : List (List ℕ)). x ++ begun_in 0 [] flow) (none_begun more) ∙ none_begun flow)
goes_on (_ ∷ _) more flow (begun b bytes h) =
    let t = b ∷ bytes in
    let s = t ++ more in
    let all : begun_in 0 t (more ++ flow) ≡ whole_front (s ++ flow) = one_section b bytes (more ++ flow) h ∙ ap whole_front (sym (append_assoc t more flow)) in
    let now : begun_in 0 t more ≡ whole_front s = one_section b bytes more h in
    let parts = λ (found : List (List ℕ)) (left : List ℕ) (f : whole_front s ≡ found) (l : open_rest s ≡ left).
    ap (λ (x : List (List ℕ)). x ++ begun_in 0 (open_rest s) flow) (now ∙ f) ∙ ap (λ (x : List ℕ). found ++ begun_in 0 x flow) l in
    elim (front_of s) [
      | a_whole x ↦
          all ∙ whole_front-whole (s ++ flow) (x.stays flow) ∙ ap (λ (section : List ℕ). section ∷ []) (x.same flow)
          ∙ sym (parts (first_section s ∷ []) [] (whole_front-whole s x.whole) (open_rest-whole s x.whole) ∙ ap (λ (found : List (List ℕ)). first_section s ∷ found) (none_begun flow))
      | an_open x ↦
          all ∙ sym (parts [] s (whole_front-none s x.not_whole) (open_rest-open s x) ∙ one_section b (bytes ++ more) flow x)
      | a_none x ↦
          all ∙ whole_front-none (s ++ flow) (x.never flow) ∙ sym (parts [] [] (whole_front-none s x.not_whole) (open_rest-none s x) ∙ none_begun flow)
    ]

pub left_open-is_front : (t more : List ℕ) → IsFront t → IsFront (left_open t more)
left_open-is_front [] more not_begun = not_begun
left_open-is_front (_ ∷ _) more (begun b bytes h) = open_rest-is_front b (bytes ++ more)

-- what the code's loop goes by
pub no_section : (s : List ℕ) → is_whole s ≡ false → begun_in 0 s [] ≡ []
no_section [] not_whole = none_begun []
no_section (b ∷ bytes) not_whole = none_there b bytes not_whole

-- a whole section at the front, and what lies behind it
pub record Steps (s : List ℕ) : Type 0 where
  pub found : begun_in 0 s [] ≡ first_section s ∷ begun_in 0 (drop (3 + section_length s) s) []
  pub left : unfinished 0 s ≡ unfinished 0 (drop (3 + section_length s) s)

pub step_over : (s : List ℕ) → is_whole s ≡ true → Steps s
step_over [] whole = absurd (let e : false ≡ true = whole in cc)
step_over (b ∷ bytes) whole =
    let s = b ∷ bytes in
    let n = section_length s in
    let behind : drop (2 + n) bytes ≡ drop (3 + n) s = (let e : 3 + n ≡ suc (2 + n) = omega arith in rw e refl) in
    let there : begun_in 0 s [] ≡ first_section s ∷ begun_in (2 + n) bytes []
    = elim (front_of s) [
      | a_whole h ↦ whole_there b bytes [] h
      | an_open h ↦ absurd (let e = h.not_whole in cc)
      | a_none h ↦ absurd (let e = h.not_whole in cc)
    ] in
    record {
      found = there ∙ ap (λ (x : List (List ℕ)). first_section s ∷ x) (begun_in-drop (2 + n) bytes [] ∙ ap (λ (x : List ℕ). begun_in 0 x []) behind);
      left = unfinished-whole b bytes whole ∙ unfinished-drop (2 + n) bytes ∙ ap (unfinished 0) behind;
    }

-- one section more was found
pub found_more : (all found found_then : List (List ℕ)) (s section behind : List ℕ) (n : ℕ) → all ≡ found ++ begun_in 0 s [] → is_whole s ≡ true → n ≡ section_length s →
    section ≡ take (3 + n) s → behind ≡ drop (3 + n) s → found_then ≡ found ++ section ∷ [] → all ≡ found_then ++ begun_in 0 behind []
found_more all found found_then s section behind n so_far whole length_is section_is behind_is then_is =
    let first : section ≡ first_section s = section_is ∙ ap (λ (k : ℕ). take (3 + k) s) length_is in
    let after : behind ≡ drop (3 + section_length s) s = behind_is ∙ ap (λ (k : ℕ). drop (3 + k) s) length_is in
    so_far ∙ ap (λ (x : List (List ℕ)). found ++ x) ((step_over s whole).found
    ∙ ap (λ (x : List ℕ). x ∷ begun_in 0 (drop (3 + section_length s) s) []) (sym first) ∙ ap (λ (x : List ℕ). section ∷ begun_in 0 x []) (sym after))
    ∙ sym (append_assoc found (section ∷ []) (begun_in 0 behind [])) ∙ ap (λ (x : List (List ℕ)). x ++ begun_in 0 behind []) (sym then_is)

pub left_more : (left s behind : List ℕ) (n : ℕ) → left ≡ unfinished 0 s → is_whole s ≡ true → n ≡ section_length s → behind ≡ drop (3 + n) s → left ≡ unfinished 0 behind
left_more left s behind n so_far whole length_is behind_is =
    so_far ∙ (step_over s whole).left ∙ ap (unfinished 0) (sym (behind_is ∙ ap (λ (k : ℕ). drop (3 + k) s) length_is))

-- all sections were found
pub found_all : (all found : List (List ℕ)) (s : List ℕ) → all ≡ found ++ begun_in 0 s [] → is_whole s ≡ false → found ≡ all
found_all all found s so_far not_whole = sym (so_far ∙ ap (λ (x : List (List ℕ)). found ++ x) (no_section s not_whole) ∙ append-nil found)

-- more bytes of a section that was begun, as far as the section at the front goes
pub brought_front : (t more : List ℕ) → unfinished 0 t ≡ t → (length t == 0) ≡ false → begun_in 0 t more ≡ whole_front (t ++ more)
brought_front t more only some = brought t more (front_from t only) some
  where
    brought : (t more : List ℕ) → IsFront t → (length t == 0) ≡ false → begun_in 0 t more ≡ whole_front (t ++ more)
    brought [] more not_begun some = absurd (let e : true ≡ false = some in cc)
    brought (_ ∷ _) more (begun b bytes h) some = one_section b bytes more h

pub brought_left : (t more : List ℕ) → (length t == 0) ≡ false → left_open t more ≡ open_rest (t ++ more)
brought_left [] more some = absurd (let e : true ≡ false = some in cc)
brought_left (b ∷ bytes) more some = refl

pub brought_none : (t more : List ℕ) → (length t == 0) ≡ true → begun_in 0 t more ≡ []
brought_none [] more none = none_begun more
brought_none (b ∷ bytes) more none = absurd (let e = eqb-true (suc (length bytes)) 0 none in omega arith)
