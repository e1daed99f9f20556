-- Texts to which a beginning of what was to come is appended.
use Rattle.std.proofs.Common.{◌≡◌, ◌∙◌, ℕ, List, [], ◌∷◌, ◌++◌, is_ok, if◌then◌else◌, length, refl, sym, ap, subst, ◌≤◌, arith}
use Rattle.std.specs.Prelude.{Result, Ok, Err, OnErr, codes}
use Rattle.std.proofs.lemmas.List.{append-nil, append_assoc, append_cancel_left}
use Rattle.playlist_text.specs.Appended.{AppendsPart}
use Rattle.playlist_text.specs.Lines.{ended_line, text_of}
use Rattle.playlist_text.proofs.TextLines.{text_of-append, text_of-line}

-- nothing was
pub part-none : (old more new : List ℕ) → new ≡ old → AppendsPart old more new
part-none old more new same = record { front = []; rest = more; split = refl; appended = same ∙ sym (append-nil old) }

-- all of some was, and nothing behind it
pub part-all : (old xs ys new : List ℕ) → new ≡ old ++ xs → AppendsPart old (xs ++ ys) new
part-all old xs ys new all = record { front = xs; rest = ys; split = refl; appended = all }

-- a beginning of the first ones
pub part-front : (old xs ys new : List ℕ) → AppendsPart old xs new → AppendsPart old (xs ++ ys) new
part-front old xs ys new p = record {
  front = p.front;
  rest = p.rest ++ ys;
  split = ap (λ (zs : List ℕ). zs ++ ys) p.split ∙ append_assoc p.front p.rest ys;
  appended = p.appended;
}

-- the first ones, and a beginning of those behind them
pub part-then : (old between new xs ys : List ℕ) → between ≡ old ++ xs → AppendsPart between ys new → AppendsPart old (xs ++ ys) new
part-then old between new xs ys first p = record {
  front = xs ++ p.front;
  rest = p.rest;
  split = ap (λ (zs : List ℕ). xs ++ zs) p.split ∙ sym (append_assoc xs p.front p.rest);
  appended = p.appended ∙ (ap (λ (zs : List ℕ). zs ++ p.front) first ∙ append_assoc old xs p.front);
}

-- of two beginnings of a list the shorter one begins the longer one
front-of-longer : (a b x y : List ℕ) → a ++ x ≡ b ++ y → length a ≤ length b → (rest : List ℕ) × (b ≡ a ++ rest)
front-of-longer [] b x y e short = (b, refl)
front-of-longer (p ∷ a) [] x y e short = absurd (omega (arith, short))
front-of-longer (p ∷ a) (q ∷ b) x y e short =
    let same : p ≡ q = cc in
    let more : a ++ x ≡ b ++ y = cc in
    let rest = front-of-longer a b x y more (omega (arith, short)) in
    (rest.0, ap (λ head. head ∷ b) (sym same) ∙ ap (λ list. p ∷ list) rest.1)

-- a text that goes on, where what it is to become is known
pub part-of-whole : (old between new left more : List ℕ) → between ++ left ≡ old ++ more → length old ≤ length between → AppendsPart between left new → AppendsPart old more new
part-of-whole old between new left more whole longer p =
    let front = front-of-longer old between more left (sym whole) longer in
    let split : more ≡ front.0 ++ left =
    append_cancel_left old more (front.0 ++ left) (sym whole ∙ (ap (λ (zs : List ℕ). zs ++ left) front.1 ∙ append_assoc old front.0 left)) in
    subst (λ (all : List ℕ). AppendsPart old all new) (sym split) (part-then old between new front.0 left front.1 p)

-- the last step appends all or nothing
pub last-or-none : {T E : Type 0} (r : Result T E) (old all more new : List ℕ) → new ≡ (if is_ok r then old ++ all else old) → OnErr r (AppendsPart old more new)
last-or-none (Ok x) old all more new is = tt
last-or-none (Err e) old all more new is = part-none old more new is

-- what follows of the last step
pub on-err : {T E P Q : Type 0} (r : Result T E) → OnErr r P → (P → Q) → OnErr r Q
on-err (Ok x) p f = tt
on-err (Err e) p f = f p

-- the text of a line
pub part-line : (old new line : List ℕ) → AppendsPart old (ended_line line) new → AppendsPart old (text_of (line ∷ [])) new
part-line old new line p = subst (λ (all : List ℕ). AppendsPart old all new) (sym (text_of-line line)) p

-- the text of some lines, and of those behind them
pub text-front : (old new : List ℕ) (xs ys : List (List ℕ)) → AppendsPart old (text_of xs) new → AppendsPart old (text_of (xs ++ ys)) new
text-front old new xs ys p = subst (λ (all : List ℕ). AppendsPart old all new) (sym (text_of-append xs ys)) (part-front old (text_of xs) (text_of ys) new p)

pub text-then : (old between new : List ℕ) (xs ys : List (List ℕ)) → between ≡ old ++ text_of xs → AppendsPart between (text_of ys) new → AppendsPart old (text_of (xs ++ ys)) new
text-then old between new xs ys first p =
    subst (λ (all : List ℕ). AppendsPart old all new) (sym (text_of-append xs ys)) (part-then old between new (text_of xs) (text_of ys) first p)

-- a line whose end was written last, in part
pub line-then : (old between new line : List ℕ) → between ≡ old ++ line → AppendsPart between (text_of ([] ∷ [])) new → AppendsPart old (text_of (line ∷ [])) new
line-then old between new line first p =
    part-line old new line (part-then old between new line (ended_line []) first (subst (λ (all : List ℕ). AppendsPart between all new) (text_of-line []) p))

-- or what stands before its end
pub line-front : (old new line : List ℕ) → AppendsPart old line new → AppendsPart old (text_of (line ∷ [])) new
line-front old new line p = part-line old new line (part-front old line (ended_line []) new p)

-- a line whose last bytes were written with its end, in part
pub line-behind : (old between new front back : List ℕ) → between ≡ old ++ front → AppendsPart between (text_of (back ∷ [])) new → AppendsPart old (text_of ((front ++ back) ∷ [])) new
line-behind old between new front back first p =
    part-line old new (front ++ back)
    (subst (λ (all : List ℕ). AppendsPart old all new) (sym (append_assoc front back (codes "\n")))
    (part-then old between new front (ended_line back) first (subst (λ (all : List ℕ). AppendsPart between all new) (text_of-line back) p)))

-- all was, and no more
pub part-whole : (old xs new : List ℕ) → new ≡ old ++ xs → AppendsPart old xs new
part-whole old xs new all = record { front = xs; rest = []; split = sym (append-nil xs); appended = all }
