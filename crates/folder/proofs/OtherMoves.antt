-- Moves made behind others, of a folder from which old files are taken away.
use Rattle.std.specs.Prelude.{not}
use Rattle.std.proofs.Common.{arith, ◌≡◌, ℕ, suc, ◌+◌, Bool, true, false, List, [], ◌∷◌, ◌++◌, length, refl, ap, ◌∙◌, inl, inr, append-nil}
use Rattle.folder.specs.Moves.{Looked, Move, Remove, Rename, Sync, Write, is_hidden}
use Rattle.folder.specs.Kills.{IsFailedWrite}
use Rattle.folder.specs.Pruning.{counted, is_pruning, other_moves, pruned_names, prunings, prunings_from, unless_hidden, unless_pruning, with_pruning}

unless-append : (t : Bool) (m : Move) (moves more : List Move) → unless_pruning t m (moves ++ more) ≡ unless_pruning t m moves ++ more
unless-append true m moves more = refl
unless-append false m moves more = refl

pub other_moves-append : (made more : List Move) → other_moves (made ++ more) ≡ other_moves made ++ other_moves more
other_moves-append [] more = refl
other_moves-append (m ∷ made) more =
    ap (unless_pruning (is_pruning m) m) (other_moves-append made more) ∙ unless-append (is_pruning m) m (other_moves made) (other_moves more)

-- one more move that isn't one
pub another : (m : Move) (made now : List Move) → is_pruning m ≡ false → now ≡ made ++ m ∷ [] → other_moves now ≡ other_moves made ++ m ∷ []
another m made now other is =
    ap other_moves is ∙ other_moves-append made (m ∷ []) ∙ ap (λ (t : Bool). other_moves made ++ unless_pruning t m []) other

-- one more that is
pub no-other : (m : Move) (made now : List Move) → is_pruning m ≡ true → now ≡ made ++ m ∷ [] → other_moves now ≡ other_moves made
no-other m made now prunes is =
    ap other_moves is ∙ other_moves-append made (m ∷ []) ∙ ap (λ (t : Bool). other_moves made ++ unless_pruning t m []) prunes ∙ append-nil (other_moves made)

-- a write that failed did nothing else
failed-others : (name bytes : List ℕ) (more : List Move) → IsFailedWrite name bytes more → IsFailedWrite name bytes (other_moves more)
failed-others name bytes more (inl none) = inl (ap other_moves none)
failed-others name bytes more (inr (inl gone)) =
    elim (is_hidden name) as (λ (t : Bool). is_hidden name ≡ t → IsFailedWrite name bytes (other_moves more)) [
      | true ↦ λ hidden. inr (inl (ap other_moves gone ∙ ap (λ (t : Bool). unless_pruning (not t) (Remove name) []) hidden))
      | false ↦ λ shown. inl (ap other_moves gone ∙ ap (λ (t : Bool). unless_pruning (not t) (Remove name) []) shown)
    ] refl
failed-others name bytes more (inr (inr (front, rest, whole, inl wrote))) = inr (inr (front, rest, whole, inl (ap other_moves wrote)))
failed-others name bytes more (inr (inr (front, rest, whole, inr wrote))) =
    elim (is_hidden name) as (λ (t : Bool). is_hidden name ≡ t → IsFailedWrite name bytes (other_moves more)) [
      | true ↦ λ hidden. inr (inr (front, rest, whole, inr (ap other_moves wrote ∙ ap (λ (t : Bool). Write name front ∷ unless_pruning (not t) (Remove name) []) hidden)))
      | false ↦ λ shown. inr (inr (front, rest, whole, inl (ap other_moves wrote ∙ ap (λ (t : Bool). Write name front ∷ unless_pruning (not t) (Remove name) []) shown)))
    ] refl

pub cut-off : (name bytes : List ℕ) (made now : List Move) → ((more : List Move) × (now ≡ made ++ more) × IsFailedWrite name bytes more) →
    ((more : List Move) × (other_moves now ≡ other_moves made ++ more) × IsFailedWrite name bytes more)
cut-off name bytes made now (more, is, failed) = (other_moves more, ap other_moves is ∙ other_moves-append made more, failed-others name bytes more failed)

unless_hidden-append : (t : Bool) (name : List ℕ) (names more : List (List ℕ)) → unless_hidden t name (names ++ more) ≡ unless_hidden t name names ++ more
unless_hidden-append true name names more = refl
unless_hidden-append false name names more = refl

pub pruned_names-append : (made more : List Move) → pruned_names (made ++ more) ≡ pruned_names made ++ pruned_names more
pruned_names-append [] more = refl
pruned_names-append (Write name bytes ∷ made) more = pruned_names-append made more
pruned_names-append (Rename old new ∷ made) more = pruned_names-append made more
pruned_names-append (Remove name ∷ made) more =
    ap (unless_hidden (is_hidden name) name) (pruned_names-append made more) ∙ unless_hidden-append (is_hidden name) name (pruned_names made) (pruned_names more)
pruned_names-append (Looked name there ∷ made) more = pruned_names-append made more
pruned_names-append (Sync ∷ made) more = pruned_names-append made more

abbrev Pruned : Type 0
Pruned = ℕ × List ℕ

removed-append : (t : Bool) (count : ℕ) (name : List ℕ) (made more : List Move) →
    ((c : ℕ) → prunings_from c (made ++ more) ≡ prunings_from c made ++ prunings_from (c + length (other_moves made)) more) →
    with_pruning t count name (prunings_from (counted t count) (made ++ more)) ≡
    with_pruning t count name (prunings_from (counted t count) made) ++ prunings_from (count + length (unless_pruning (not t) (Remove name) (other_moves made))) more
removed-append true count name made more later =
    later (count + 1) ∙ ap (λ (c : ℕ). prunings_from (count + 1) made ++ prunings_from c more) (omega arith)
removed-append false count name made more later = ap (λ (l : List Pruned). (count, name) ∷ l) (later count)

other-append : (count : ℕ) (made more : List Move) →
    ((c : ℕ) → prunings_from c (made ++ more) ≡ prunings_from c made ++ prunings_from (c + length (other_moves made)) more) →
    prunings_from (count + 1) (made ++ more) ≡ prunings_from (count + 1) made ++ prunings_from (count + suc (length (other_moves made))) more
other-append count made more later = later (count + 1) ∙ ap (λ (c : ℕ). prunings_from (count + 1) made ++ prunings_from c more) (omega arith)

pub prunings-append : (made more : List Move) (count : ℕ) → prunings_from count (made ++ more) ≡ prunings_from count made ++ prunings_from (count + length (other_moves made)) more
prunings-append [] more count = ap (λ (c : ℕ). prunings_from c more) (omega arith)
prunings-append (Write n bytes ∷ made) more count = other-append count made more (prunings-append made more)
prunings-append (Rename old new ∷ made) more count = other-append count made more (prunings-append made more)
prunings-append (Remove n ∷ made) more count = removed-append (is_hidden n) count n made more (prunings-append made more)
prunings-append (Looked n there ∷ made) more count = other-append count made more (prunings-append made more)
prunings-append (Sync ∷ made) more count = other-append count made more (prunings-append made more)

-- wherever it is counted from, nothing is taken away
abbrev TakesNone : List Move → Type 0
TakesNone moves = (count : ℕ) → prunings_from count moves ≡ []

-- behind moves that take nothing away
none-pruned : (made now more : List Move) → now ≡ made ++ more → TakesNone more → prunings now ≡ prunings made
none-pruned made now more is none =
    ap prunings is ∙ prunings-append made more 0 ∙ ap (λ (l : List Pruned). prunings made ++ l) (none (0 + length (other_moves made))) ∙ append-nil (prunings made)

-- one move that takes nothing away
pub none-by : (m : Move) (made now : List Move) → TakesNone (m ∷ []) → now ≡ made ++ m ∷ [] → prunings now ≡ prunings made
none-by m made now none is = none-pruned made now (m ∷ []) is none

hidden-takes-none : (name : List ℕ) → is_hidden name ≡ true → TakesNone (Remove name ∷ [])
hidden-takes-none name hidden count = ap (λ (t : Bool). with_pruning t count name []) hidden

-- neither does a write of a hidden file that failed
none-by-failed : (name bytes : List ℕ) (more : List Move) → is_hidden name ≡ true → IsFailedWrite name bytes more → TakesNone more
none-by-failed name bytes more hidden (inl none) count = ap (prunings_from count) none
none-by-failed name bytes more hidden (inr (inl gone)) count = ap (prunings_from count) gone ∙ hidden-takes-none name hidden count
none-by-failed name bytes more hidden (inr (inr (front, rest, whole, inl wrote))) count = ap (prunings_from count) wrote
none-by-failed name bytes more hidden (inr (inr (front, rest, whole, inr wrote))) count = ap (prunings_from count) wrote ∙ hidden-takes-none name hidden (count + 1)

pub failed-pruned : (name bytes : List ℕ) (made now : List Move) → is_hidden name ≡ true → ((more : List Move) × (now ≡ made ++ more) × IsFailedWrite name bytes more) →
    prunings now ≡ prunings made
failed-pruned name bytes made now hidden (more, is, failed) = none-pruned made now more is (none-by-failed name bytes more hidden failed)

pub removed-pruned : (name : List ℕ) (made now : List Move) → is_hidden name ≡ true → now ≡ made ++ Remove name ∷ [] → prunings now ≡ prunings made
removed-pruned name made now hidden is = none-pruned made now (Remove name ∷ []) is (hidden-takes-none name hidden)
