-- Plans that lie in a reel.
use Rattle.std.proofs.Common.{◌≡◌, ◌∙◌, ℕ, zero, suc, ◌+◌, ◌-◌, ◌≤◌, List, [], ◌∷◌, ◌++◌, length, take, drop, Option, Some, None, refl, sym, ap, subst, arith}
use Rattle.std.specs.Prelude.{slice_get, slice_range}
use Rattle.std.proofs.lemmas.List.{length-drop, drop-append-le, take-append-le, take-append-drop, drop-drop}
use Rattle.cutter.specs.declared.plan.Frame.{Frame}
use Rattle.cutter.specs.declared.framing.Pending.{Pending}
use Rattle.cutter.specs.declared.reel.PlanAt.{PlanAt}
use Rattle.cutter.specs.Framing.{IsWithin}
use Rattle.cutter.specs.Reels.{labelled, plan_in, plans_in, AreWithin, AreJoined}

pub plans_at_len : (bytes : List ℕ) (frames : List Frame) (plans_at : List PlanAt) → length (plans_in bytes frames plans_at) ≡ length plans_at
plans_at_len bytes frames [] = refl
plans_at_len bytes frames (plan_at ∷ plans_at) = let h = plans_at_len bytes frames plans_at in omega (arith, h)

pub plans_at_get : (bytes : List ℕ) (frames : List Frame) (plans_at : List PlanAt) (i : ℕ) (plan_at : PlanAt) → slice_get plans_at i ≡ Some plan_at → slice_get (plans_in bytes frames plans_at) i ≡ Some (plan_in bytes frames plan_at)
plans_at_get bytes frames [] i plan_at e = absurd (cc)
plans_at_get bytes frames (x ∷ plans_at) zero plan_at e = let same : x ≡ plan_at = cc e in ap (λ r. Some (plan_in bytes frames r)) same
plans_at_get bytes frames (x ∷ plans_at) (suc i) plan_at e = plans_at_get bytes frames plans_at i plan_at e

pub within_get : (b f : ℕ) (plans_at : List PlanAt) (i : ℕ) (plan_at : PlanAt) → AreWithin b f plans_at → slice_get plans_at i ≡ Some plan_at → (plan_at.body_at ≤ plan_at.body_end) × (plan_at.body_end ≤ b) × (plan_at.frames_at ≤ plan_at.frames_end) × (plan_at.frames_end ≤ f)
within_get b f [] i plan_at h e = absurd (cc)
within_get b f (x ∷ plans_at) zero plan_at h e = let same : x ≡ plan_at = cc e in subst (λ (r : PlanAt). (r.body_at ≤ r.body_end) × (r.body_end ≤ b) × (r.frames_at ≤ r.frames_end) × (r.frames_end ≤ f)) same (h.0, h.1, h.2, h.3)
within_get b f (x ∷ plans_at) (suc i) plan_at h e = within_get b f plans_at i plan_at h.4 e

pub within_more : (b c f g : ℕ) (plans_at : List PlanAt) → b ≤ c → f ≤ g → AreWithin b f plans_at → AreWithin c g plans_at
within_more b c f g [] x y h = tt
within_more b c f g (plan_at ∷ plans_at) x y h = (h.0, omega (arith, h.1), h.2, omega (arith, h.3), within_more b c f g plans_at x y h.4)

pub within_last : (b f : ℕ) (plans_at : List PlanAt) (plan_at : PlanAt) → AreWithin b f plans_at → plan_at.body_at ≤ plan_at.body_end → plan_at.body_end ≤ b → plan_at.frames_at ≤ plan_at.frames_end → plan_at.frames_end ≤ f → AreWithin b f (plans_at ++ plan_at ∷ [])
within_last b f [] plan_at h p q r s = (p, q, r, s, tt)
within_last b f (x ∷ plans_at) plan_at h p q r s = (h.0, h.1, h.2, h.3, within_last b f plans_at plan_at h.4 p q r s)

-- without the last one
pub within_less : (b f : ℕ) (plans_at : List PlanAt) (plan_at : PlanAt) → AreWithin b f (plans_at ++ plan_at ∷ []) → AreWithin b f plans_at × (plan_at.body_at ≤ b) × (plan_at.frames_at ≤ f)
within_less b f [] plan_at h = (tt, omega (arith, h.0, h.1), omega (arith, h.2, h.3))
within_less b f (x ∷ plans_at) plan_at h = let behind = within_less b f plans_at plan_at h.4 in ((h.0, h.1, h.2, h.3, behind.0), behind.1, behind.2)

-- the last one lies there
pub within_last_one : (b f : ℕ) (plans_at : List PlanAt) (plan_at : PlanAt) → AreWithin b f (plans_at ++ plan_at ∷ []) → (plan_at.body_at ≤ plan_at.body_end) × (plan_at.frames_at ≤ plan_at.frames_end)
within_last_one b f [] plan_at h = (h.0, h.2)
within_last_one b f (x ∷ plans_at) plan_at h = within_last_one b f plans_at plan_at h.4

pub joined_last : (p q b f c g : ℕ) (plans_at : List PlanAt) (plan_at : PlanAt) → AreJoined p q b f plans_at → plan_at.body_at ≡ b → plan_at.frames_at ≡ f → plan_at.body_end ≡ c → plan_at.frames_end ≡ g
    → AreJoined p q c g (plans_at ++ plan_at ∷ [])
joined_last p q b f c g [] plan_at h at place end last = (at ∙ h.0, place ∙ h.1, (sym end, sym last))
joined_last p q b f c g (x ∷ plans_at) plan_at h at place end last = (h.0, h.1, joined_last x.body_end x.frames_end b f c g plans_at plan_at h.2 at place end last)

pub joined_less : (p q b f : ℕ) (plans_at : List PlanAt) (plan_at : PlanAt) → AreJoined p q b f (plans_at ++ plan_at ∷ []) → AreJoined p q plan_at.body_at plan_at.frames_at plans_at
joined_less p q b f [] plan_at h = (h.0, h.1)
joined_less p q b f (x ∷ plans_at) plan_at h = (h.0, h.1, joined_less x.body_end x.frames_end b f plans_at plan_at h.2)

-- the body that goes on begins where the last one ends
pub joined_end : (p q b f : ℕ) (plans_at : List PlanAt) (plan_at : PlanAt) → AreJoined p q b f (plans_at ++ plan_at ∷ []) → (b ≡ plan_at.body_end) × (f ≡ plan_at.frames_end)
joined_end p q b f [] plan_at h = h.2
joined_end p q b f (x ∷ plans_at) plan_at h = joined_end x.body_end x.frames_end b f plans_at plan_at h.2

-- the first one, or else the body that goes on, lies in front
abbrev pub AreInFront : ℕ → ℕ → List PlanAt → Type 0
AreInFront b f [] = (b ≡ 0) × (f ≡ 0)
AreInFront b f (plan_at ∷ plans_at) = (plan_at.body_at ≡ 0) × (plan_at.frames_at ≡ 0)

pub in_front : (b f : ℕ) (plans_at : List PlanAt) → AreJoined 0 0 b f plans_at → AreInFront b f plans_at
in_front b f [] h = h
in_front b f (plan_at ∷ plans_at) h = (h.0, h.1)

-- where there is none, the body that goes on does
pub alone_in_front : (bytes : List ℕ) (frames : List Frame) (b f : ℕ) (plans_at : List PlanAt) → AreJoined 0 0 b f plans_at → plans_in bytes frames plans_at ≡ [] → (plans_at ≡ []) × (b ≡ 0) × (f ≡ 0)
alone_in_front bytes frames b f [] h e = (refl, h.0, h.1)
alone_in_front bytes frames b f (plan_at ∷ plans_at) h e = absurd (cc)

pub pending_more : (p : Option Pending) (n m : ℕ) → n ≤ m → IsWithin p n → IsWithin p m
pending_more None n m below h = tt
pending_more (Some p) n m below h = omega (arith, below, h)

pub part_more : {A : Type 0} (xs ys : List A) (at end : ℕ) → at ≤ end → end ≤ length xs → slice_range (xs ++ ys) at end ≡ slice_range xs at end
part_more xs ys at end p q =
    let fits : at ≤ length xs = omega (arith, p, q) in
    let left : length (drop at xs) ≡ length xs - at = length-drop at xs in
    ap (take (end - at)) (drop-append-le at xs ys fits) ∙ take-append-le (end - at) (drop at xs) ys (omega (arith, left, p, q))

-- with more bytes and I-frames behind
pub plans_at_more : (bytes more : List ℕ) (frames others : List Frame) (plans_at : List PlanAt) → AreWithin (length bytes) (length frames) plans_at
    → plans_in (bytes ++ more) (frames ++ others) plans_at ≡ plans_in bytes frames plans_at
plans_at_more bytes more frames others [] h = refl
plans_at_more bytes more frames others (plan_at ∷ plans_at) h =
    λ i. labelled plan_at.label (part_more bytes more plan_at.body_at plan_at.body_end h.0 h.1 i) (part_more frames others plan_at.frames_at plan_at.frames_end h.2 h.3 i)
    ∷ plans_at_more bytes more frames others plans_at h.4 i

pub plans_at_last : (bytes : List ℕ) (frames : List Frame) (plans_at : List PlanAt) (plan_at : PlanAt) → plans_in bytes frames (plans_at ++ plan_at ∷ []) ≡ plans_in bytes frames plans_at ++ plan_in bytes frames plan_at ∷ []
plans_at_last bytes frames [] plan_at = refl
plans_at_last bytes frames (x ∷ plans_at) plan_at = ap (λ l. plan_in bytes frames x ∷ l) (plans_at_last bytes frames plans_at plan_at)

-- two lists that end by one item
pub front_same : {A : Type 0} (xs ys : List A) (x y : A) → xs ++ x ∷ [] ≡ ys ++ y ∷ [] → xs ≡ ys
front_same [] [] x y e = refl
front_same [] (b ∷ []) x y e = absurd (cc)
front_same [] (b ∷ c ∷ ys) x y e = absurd (cc)
front_same (a ∷ []) [] x y e = absurd (cc)
front_same (a ∷ c ∷ xs) [] x y e = absurd (cc)
front_same (a ∷ xs) (b ∷ ys) x y e =
    let same : a ≡ b = cc e in
    let rest : xs ++ x ∷ [] ≡ ys ++ y ∷ [] = cc e in
    λ i. same i ∷ front_same xs ys x y rest i

pub last_same : {A : Type 0} (xs ys : List A) (x y : A) → xs ++ x ∷ [] ≡ ys ++ y ∷ [] → x ≡ y
last_same [] [] x y e = cc e
last_same [] (b ∷ []) x y e = absurd (cc)
last_same [] (b ∷ c ∷ ys) x y e = absurd (cc)
last_same (a ∷ []) [] x y e = absurd (cc)
last_same (a ∷ c ∷ xs) [] x y e = absurd (cc)
last_same (a ∷ xs) (b ∷ ys) x y e =
    let rest : xs ++ x ∷ [] ≡ ys ++ y ∷ [] = cc e in
    last_same xs ys x y rest

-- what stands from one place on is a part, and what stands behind it
pub part_rest : {A : Type 0} (xs : List A) (at end : ℕ) → at ≤ end → drop at xs ≡ slice_range xs at end ++ drop end xs
part_rest xs at end below =
    let place : at + (end - at) ≡ end = omega arith in
    sym (take-append-drop (end - at) (drop at xs))
    ∙ ap (λ l. slice_range xs at end ++ l) (drop-drop (end - at) at xs ∙ ap (λ n. drop n xs) place)

pub past_is : {A : Type 0} (xs : List A) → drop (length xs) xs ≡ []
past_is [] = refl
past_is (x ∷ xs) = past_is xs

pub past_more : {A : Type 0} (xs ys : List A) → drop (length xs) (xs ++ ys) ≡ ys
past_more [] ys = refl
past_more (x ∷ xs) ys = past_more xs ys

take_all : {A : Type 0} (ys : List A) → take (length ys) ys ≡ ys
take_all [] = refl
take_all (y ∷ ys) = ap (λ l. y ∷ l) (take_all ys)

pub rest_is : {A : Type 0} (xs : List A) (at : ℕ) → slice_range xs at (length xs) ≡ drop at xs
rest_is xs at = ap (λ n. take n (drop at xs)) (sym (length-drop at xs)) ∙ take_all (drop at xs)
