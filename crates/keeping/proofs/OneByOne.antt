-- Segments that are taken away one after another.
use Rattle.std.specs.Prelude.{ltb, take, drop}
use Rattle.std.specs.List.{All}
use Rattle.std.proofs.Common.{arith, ◌≡◌, ℕ, zero, suc, ◌+◌, ◌<◌, ◌≤◌, ◌⊎◌, inl, inr, Bool, true, false, List, [], ◌∷◌, ◌++◌, refl, sym, ap, ◌∙◌, append-nil, append_assoc, length, get_or, get_or-drop}
use Rattle.std.proofs.lemmas.List.{length-drop, map-append}
use Rattle.std.proofs.lemmas.Bool.{ltb-false, ltb-true}
use Rattle.std.proofs.lemmas.List.Elements.{All-drop, All-take}
use Rattle.retention.specs.Steps.{MayGo}
use Rattle.retention.specs.declared.step.Step.{Step}
use Rattle.folder.specs.Moves.{Move, Remove}
use Rattle.item_io.specs.FileNames.{segment_file_name}
use Rattle.item_io.specs.FolderMoves.{FolderState}
use Rattle.keeping.specs.Keepings.{KeepingValue, LetsGo, removals, removals_of}
use Rattle.keeping.specs.OneByOne.{HaveGone, Swept}

-- one more
pub removals-more : (name : List ℕ) (number n : ℕ) → removals name number n ++ Remove (segment_file_name name (number + n)) ∷ [] ≡ removals name number (suc n)
removals-more name number zero = ap (λ (k : ℕ). Remove (segment_file_name name k) ∷ []) (omega arith)
removals-more name number (suc n) =
    ap (λ (moves : List Move). Remove (segment_file_name name number) ∷ moves)
    (ap (λ (k : ℕ). removals name (number + 1) n ++ Remove (segment_file_name name k) ∷ []) (omega arith) ∙ removals-more name (number + 1) n)

-- none yet
pub none-went : (name : List ℕ) (base gone until : ℕ) (made : List Move) → gone ≤ until → HaveGone name base gone gone until made made
none-went name base gone until made within = record { count = 0; now = omega arith; within = within; made_are = sym (append-nil made) }

number : (base gone gone_now count : ℕ) → gone_now ≡ gone + count → base + gone_now ≡ (base + gone) + count
number base gone gone_now count now = omega (arith, now)

-- one more
pub one-went : (name : List ℕ) (base gone gone_now until : ℕ) (made made_now made_then : List Move) → HaveGone name base gone gone_now until made made_now → gone_now < until →
    made_then ≡ made_now ++ Remove (segment_file_name name (base + gone_now)) ∷ [] → HaveGone name base gone (gone_now + 1) until made made_then
one-went name base gone gone_now until made made_now made_then went below is = record {
  count = suc went.count;
  now = omega (arith, went.now);
  within = omega (arith, below);
  made_are = is
      ∙ ap (λ (moves : List Move). moves ++ Remove (segment_file_name name (base + gone_now)) ∷ []) went.made_are
      ∙ append_assoc made (removals name (base + gone) went.count) (Remove (segment_file_name name (base + gone_now)) ∷ [])
      ∙ ap (λ (k : ℕ). made ++ (removals name (base + gone) went.count ++ Remove (segment_file_name name k) ∷ [])) (number base gone gone_now went.count went.now)
      ∙ ap (λ (moves : List Move). made ++ moves) (removals-more name (base + gone) went.count);
}

-- no more went than may go
pub within-kept : (least : ℕ) (steps : List Step) (gone until : ℕ) → ((n : ℕ) → n < gone → MayGo least steps n) → (MayGo least steps until → ⊥) → gone ≤ until
within-kept least steps gone until may kept =
    elim (ltb until gone) as (λ (t : Bool). ltb until gone ≡ t → gone ≤ until) [
      | true ↦ λ is. absurd (kept (may until (ltb-true until gone is)))
      | false ↦ λ is. ltb-false until gone is
    ] refl

-- the same outlet but for its folder, twice
pub same-but : {F : Type 0} (x y z : FolderState F) → y ≡ record x { folder = y.folder } → z ≡ record y { folder = z.folder } → z ≡ record x { folder = z.folder }
same-but {F} x y z first second = second ∙ ap (λ (f : FolderState F). record f { folder = z.folder }) first

-- the first of some numbers, one more of them
take-suc : (n : ℕ) (numbers : List ℕ) → n < length numbers → take (suc n) numbers ≡ take n numbers ++ get_or numbers n 0 ∷ []
take-suc n [] below = absurd (omega (arith, below))
take-suc zero (x ∷ numbers) below = refl
take-suc (suc n) (x ∷ numbers) below = ap (λ (l : List ℕ). x ∷ l) (take-suc n numbers (omega (arith, below)))

take-one-more : (n : ℕ) (numbers : List ℕ) → n < length numbers → take (n + 1) numbers ≡ take n numbers ++ get_or numbers n 0 ∷ []
take-one-more n numbers below =
    let next : n + 1 ≡ suc n = omega arith in
    ap (λ (k : ℕ). take k numbers) next ∙ take-suc n numbers below

pub removals_of-more : (name numbers : List ℕ) (n : ℕ) → n < length numbers → removals_of name (take n numbers) ++ Remove (segment_file_name name (get_or numbers n 0)) ∷ [] ≡ removals_of name (take (n + 1) numbers)
removals_of-more name numbers n below =
    sym (ap (removals_of name) (take-one-more n numbers below) ∙ map-append (λ k. Remove (segment_file_name name k)) (take n numbers) (get_or numbers n 0 ∷ []))

-- none of some numbers yet
pub none-swept : (name numbers : List ℕ) (swept : ℕ) (made : List Move) → swept ≤ length numbers → Swept name numbers swept swept made made
none-swept name numbers swept made within = record { more = 0; now = omega arith; within = within; few = omega arith; made_are = sym (append-nil made) }

-- one more
pub one-swept : (name numbers : List ℕ) (swept done number : ℕ) (made made_now made_then : List Move) → made_now ≡ made ++ removals_of name (take done (drop swept numbers)) →
    swept + done < length numbers → get_or numbers (swept + done) 0 ≡ number → made_then ≡ made_now ++ Remove (segment_file_name name number) ∷ [] →
    made_then ≡ made ++ removals_of name (take (done + 1) (drop swept numbers))
one-swept name numbers swept done number made made_now made_then went below at is =
    let left = drop swept numbers in
    let short : done < length left = omega (arith, below, length-drop swept numbers) in
    let same : get_or left done 0 ≡ number = get_or-drop swept numbers done 0 ∙ at in
    is ∙ ap (λ (moves : List Move). moves ++ Remove (segment_file_name name number) ∷ []) went
    ∙ append_assoc made (removals_of name (take done left)) (Remove (segment_file_name name number) ∷ [])
    ∙ ap (λ (k : ℕ). made ++ (removals_of name (take done left) ++ Remove (segment_file_name name k) ∷ [])) (sym same)
    ∙ ap (λ (moves : List Move). made ++ moves) (removals_of-more name left done short)

-- all that went behind a block
pub lets-go : (k : KeepingValue) (gone swept until : ℕ) (made made_mid made_then : List Move) → HaveGone k.name k.base k.gone gone until made made_mid → Swept k.name k.older k.swept swept made_mid made_then →
    ((n : ℕ) → n < until → MayGo k.kept.least k.kept.steps n) → ((swept ≡ k.swept) ⊎ (0 < gone)) → All (λ n. n < k.base) k.older →
    LetsGo k (record k { gone = gone; swept = swept }) made made_then
lets-go k gone swept until made made_mid made_then went some may past earlier = record {
  count = went.count;
  more = some.more;
  now = ap (λ (n : ℕ). record k { gone = n; swept = swept }) went.now ∙ ap (λ (n : ℕ). record k { gone = k.gone + went.count; swept = n }) some.now;
  may_go = λ n lower. may n (omega (arith, lower, went.now, went.within));
  some_went = λ one. elim past [
    | inl same ↦ absurd (omega (arith, one, same, some.now))
    | inr gone_some ↦ omega (arith, gone_some, went.now)
  ];
  up_to = omega (arith, some.now, some.within);
  few = some.few;
  earlier = All-take (λ n. n < k.base) some.more (drop k.swept k.older) (All-drop (λ n. n < k.base) k.swept k.older earlier);
  made_are = some.made_are
      ∙ ap (λ (moves : List Move). moves ++ removals_of k.name (take some.more (drop k.swept k.older))) went.made_are
      ∙ append_assoc made (removals k.name (k.base + k.gone) went.count) (removals_of k.name (take some.more (drop k.swept k.older)));
}
