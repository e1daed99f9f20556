-- Inputs with which a run may begin.
use Rattle.std.proofs.Common.{arith, ◌≡◌, ◌≢◌, refl, ◌∙◌, ap, sym, ℕ, zero, suc, ◌<◌, List, [], ◌∷◌, ◌++◌, Any, length, map, Bool, true, false, ◌&&◌, Option, Some, None, get_or}
use Rattle.std.proofs.lemmas.Grind.{common_steps}
use Rattle.std.specs.Prelude.{if◌then◌else◌, slice_set}
use Rattle.read_ahead.specs.Sources.{IsUnknown, MayBegin}
use Rattle.read_ahead.specs.declared.incoming.Incoming.{Incoming}
use Rattle.read_ahead.specs.declared.incoming.Phase.{Phase}
use Rattle.read_ahead.specs.declared.incoming.Phase.TheVariants.{Opening, Going, Ended, Failed}

-- what is told of an input that is being opened: that a run may begin, where opening it may wait and was awaited
abbrev told : Bool → Bool → Option Bool
told was waits = if was && waits then Some true else None

waiting : (was waits : Bool) → told was waits ≡ Some true → waits ≡ true
waiting true true is = refl
waiting true false is = absurd (cc is)
waiting false waits is = absurd (cc is)

never : (was waits : Bool) → told was waits ≡ Some false → ⊥
never true true is = cc is
never true false is = cc is
never false waits is = cc is

-- one of which it is told that a run may begin
pub begins : {I : Type 0} (i : Incoming I) (was waits : Bool) (result : Option Bool) → result ≡ Some true → (i.phase ≡ Failed → result ≡ Some false) → (i.phase ≡ Opening → result ≡ told was waits) →
    i.may_wait ≡ waits → MayBegin i
begins i was waits result is failed opening same = record {
  stands = λ f. cc (sym is ∙ failed f);
  waits = λ o. same ∙ waiting was waits (sym (opening o) ∙ is);
}

-- one of which it is told that none may
pub fails : (phase : Phase) (was waits : Bool) (result : Option Bool) → result ≡ Some false → (phase ≡ Opening → result ≡ told was waits) →
    (phase ≢ Opening → phase ≢ Failed → result ≡ Some true) → phase ≡ Failed
fails Opening was waits result is opening going = absurd (never was waits (sym (opening refl) ∙ is))
fails Going was waits result is opening going = absurd (cc (sym is ∙ going (λ e. cc e) (λ e. cc e)))
fails Ended was waits result is opening going = absurd (cc (sym is ∙ going (λ e. cc e) (λ e. cc e)))
fails Failed was waits result is opening going = refl

unawaited : (was waits : Bool) → told was waits ≡ None → (was && waits) ≡ false
unawaited true true is = cc is
unawaited true false is = refl
unawaited false waits is = refl

-- what nothing is told of is being opened
still : (phase : Phase) (result : Option Bool) → result ≡ None → (phase ≡ Failed → result ≡ Some false) → (phase ≢ Opening → phase ≢ Failed → result ≡ Some true) → phase ≡ Opening
still Opening result is failed going = refl
still Going result is failed going = absurd (cc (sym is ∙ going (λ e. cc e) (λ e. cc e)))
still Ended result is failed going = absurd (cc (sym is ∙ going (λ e. cc e) (λ e. cc e)))
still Failed result is failed going = absurd (cc (sym is ∙ failed refl))

-- one of which nothing is told
pub not_told : {I : Type 0} (i : Incoming I) (was waits : Bool) (result : Option Bool) → result ≡ None → (i.phase ≡ Failed → result ≡ Some false) → (i.phase ≡ Opening → result ≡ told was waits) →
    (i.phase ≢ Opening → i.phase ≢ Failed → result ≡ Some true) → i.may_wait ≡ waits → IsUnknown was i
not_told i was waits result is failed opening going same = let o = still i.phase result is failed going in record {
  opening = o;
  unawaited = ap (λ (b : Bool). was && b) same ∙ unawaited was waits (sym (opening o) ∙ is);
}

-- one of which it is told that a run may begin before the moment is over
pub is_early : (phase : Phase) (was waits : Bool) (result : Option Bool) → result ≡ Some true → (phase ≡ Opening → result ≡ told was waits) → was ≡ false → phase ≢ Opening
is_early phase was waits result is opening before o = cc (sym is ∙ opening o ∙ ap (λ (b : Bool). told b waits) before)

-- one of some, and one more
pub any_more : {A : Type 0} (P : A → Type 0) (xs : List A) (y : A) → Any P xs → Any P (xs ++ y ∷ [])
any_more P xs y (i, x, lt, at, p) = (i, x, grind (arith, common_steps, lt), grind (arith, common_steps, lt, at), p)

-- one is put in place of another of which the same is told
pub same_set : {A B : Type 0} (f : A → B) (xs : List A) (i : ℕ) (d new : A) → i < length xs → f new ≡ f (get_or xs i d) → map f (slice_set xs i new) ≡ map f xs
same_set {A} {B} f [] i d new lt same = absurd (omega (arith, lt))
same_set {A} {B} f (x ∷ xs) zero d new lt same = ap (λ (y : B). y ∷ map f xs) same
same_set {A} {B} f (x ∷ xs) (suc i) d new lt same = ap (λ (l : List B). f x ∷ l) (same_set f xs i d new (omega (arith, lt)) same)
