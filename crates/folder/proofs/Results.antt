-- What is said of an answer.
use Rattle.std.specs.Prelude.{◌≡◌, Bool, true, false, IfOk, OnErr, OnOk}
use Rattle.std.proofs.Common.{Result, Ok, Err, refl}

pub OnOk-map : {T E P Q : Type 0} (r : Result T E) → (P → Q) → OnOk r P → OnOk r Q
OnOk-map (Ok x) f p = f p
OnOk-map (Err e) f p = tt

pub OnErr-map : {T E P Q : Type 0} (r : Result T E) → (P → Q) → OnErr r P → OnErr r Q
OnErr-map (Ok x) f p = tt
OnErr-map (Err e) f p = f p

pub IfOk-map : {T E : Type 0} {P Q : T → Type 0} (r : Result T E) → ((x : T) → P x → Q x) → IfOk r P → IfOk r Q
IfOk-map (Ok x) f p = f x p
IfOk-map (Err e) f p = tt

-- what a success implies, and so does a failure
pub either-way : {T E P : Type 0} (r : Result T E) → OnOk r P → OnErr r P → P
either-way (Ok x) p q = p
either-way (Err e) p q = q

pub IfOk-or : {T E Q R : Type 0} {P : T → Type 0} (r : Result T E) → ((x : T) → P x → R) → (Q → R) → IfOk r P → OnErr r Q → R
IfOk-or (Ok x) f h p q = f x p
IfOk-or (Err e) f h p q = h q

-- what yes implies, and so does no
pub by-answer : {P : Type 0} (answer : Bool) → (answer ≡ true → P) → (answer ≡ false → P) → P
by-answer true f h = f refl
by-answer false f h = h refl
