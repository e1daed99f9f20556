-- Numbers go on from run to run.
use Rattle.std.proofs.Common.{◌≡◌, ◌∙◌, ℕ, zero, suc, ◌<◌, ◌^◌, ◌⊎◌, inl, inr, List, [], ◌∷◌, Some, slice_get, refl, ap, sym, subst, arith}
use Rattle.std.specs.Prelude.{Option}
use Rattle.std.proofs.lemmas.Option.{same_Some}
use Rattle.playlist_text.specs.Vectors.{salted_vector}
use Rattle.playlist_text.proofs.SaltedVectors.{same_vectors}
use Rattle.segment_job.specs.Rotation.{KeyRotation, number_of, vector_of}
use Rattle.segment_job.specs.Runs.{KeyRun, GoesOnBehind, GoOn}

-- what goes on behind a run that goes on goes on behind the one before it
behind-both : (a b c : KeyRotation) (i j : ℕ) → GoesOnBehind a i b → GoesOnBehind b j c → GoesOnBehind a i c
behind-both a b c i j on next = record { salt = next.salt ∙ on.salt; first = omega (arith, on.first, next.first) }

-- each later run goes on behind a run
later : (run : KeyRun) (runs : List KeyRun) (j : ℕ) (b : KeyRun) → GoOn run runs → slice_get runs j ≡ Some b → GoesOnBehind run.keys run.count b.keys
later run [] j b on at = cc
later run (next ∷ runs) zero b on at = subst (λ (q : KeyRun). GoesOnBehind run.keys run.count q.keys) (same_Some next b at) on.0
later run (next ∷ runs) (suc j) b on at = behind-both run.keys next.keys b.keys run.count next.count on.0 (later next runs j b on.1 at)

-- .. behind each earlier one
ordered : (run : KeyRun) (runs : List KeyRun) (i j : ℕ) (a b : KeyRun) → GoOn run runs → i < j
    → slice_get (run ∷ runs) i ≡ Some a → slice_get (run ∷ runs) j ≡ Some b → GoesOnBehind a.keys a.count b.keys
ordered run runs i zero a b on less at_a at_b = absurd (omega (arith, less))
ordered run runs zero (suc j) a b on less at_a at_b = subst (λ (q : KeyRun). GoesOnBehind q.keys q.count b.keys) (same_Some run a at_a) (later run runs j b on at_b)
ordered run [] (suc i) (suc j) a b on less at_a at_b = cc
ordered run (next ∷ runs) (suc i) (suc j) a b on less at_a at_b = ordered next runs i j a b on.1 (omega (arith, less)) at_a at_b

-- segments of two such runs have two vectors
apart : (a b : KeyRun) (m n : ℕ) → GoesOnBehind a.keys a.count b.keys → m < a.count → number_of b.keys n < 2 ^ 64
    → vector_of a.keys m ≡ vector_of b.keys n → ⊥
apart a b m n on within small same =
    let salted : vector_of b.keys n ≡ salted_vector a.keys.salt (number_of b.keys n) = ap (λ (salt : Option (List ℕ)). salted_vector salt (number_of b.keys n)) on.salt in
    let below : number_of a.keys m < number_of b.keys n = omega (arith, on.first, within) in
    let one : number_of a.keys m ≡ number_of b.keys n =
    same_vectors a.keys.salt (number_of a.keys m) (number_of b.keys n) (omega (arith, below, small)) small (same ∙ salted) in
    omega (arith, below, one)

-- segments of one run have two vectors
alone : (a b : KeyRun) (m n : ℕ) → a ≡ b → number_of a.keys m < 2 ^ 64 → number_of b.keys n < 2 ^ 64
    → vector_of a.keys m ≡ vector_of b.keys n → m ≡ n
alone a b m n one small_m small_n same =
    let number : number_of a.keys n ≡ number_of b.keys n = ap (λ (q : KeyRun). number_of q.keys n) one in
    let vector : vector_of a.keys m ≡ vector_of a.keys n = same ∙ sym (ap (λ (q : KeyRun). vector_of q.keys n) one) in
    let numbers : number_of a.keys m ≡ number_of a.keys n =
    same_vectors a.keys.salt (number_of a.keys m) (number_of a.keys n) small_m (omega (arith, number, small_n)) vector in
    omega (arith, numbers)

-- of two places one is before the other, or they are the same
further : (i j : ℕ) → (i < j) ⊎ ((j < i) ⊎ (i ≡ j)) → (suc i < suc j) ⊎ ((suc j < suc i) ⊎ (suc i ≡ suc j))
further i j (inl less) = inl (omega (arith, less))
further i j (inr (inl more)) = inr (inl (omega (arith, more)))
further i j (inr (inr same)) = inr (inr (ap (λ n. suc n) same))

compared : (i j : ℕ) → (i < j) ⊎ ((j < i) ⊎ (i ≡ j))
compared zero zero = inr (inr refl)
compared zero (suc j) = inl (omega arith)
compared (suc i) zero = inr (inl (omega arith))
compared (suc i) (suc j) = further i j (compared i j)

by-places : (run : KeyRun) (runs : List KeyRun) (i j m n : ℕ) (a b : KeyRun) → GoOn run runs
    → slice_get (run ∷ runs) i ≡ Some a → slice_get (run ∷ runs) j ≡ Some b → m < a.count → n < b.count
    → number_of a.keys m < 2 ^ 64 → number_of b.keys n < 2 ^ 64 → vector_of a.keys m ≡ vector_of b.keys n
    → (i < j) ⊎ ((j < i) ⊎ (i ≡ j)) → (i ≡ j) × (m ≡ n)
by-places run runs i j m n a b on at_a at_b in_a in_b small_m small_n same (inl less) =
    absurd (apart a b m n (ordered run runs i j a b on less at_a at_b) in_a small_n same)
by-places run runs i j m n a b on at_a at_b in_a in_b small_m small_n same (inr (inl more)) =
    absurd (apart b a n m (ordered run runs j i b a on more at_b at_a) in_b small_m (sym same))
by-places run runs i j m n a b on at_a at_b in_a in_b small_m small_n same (inr (inr place)) =
    let one : a ≡ b = same_Some a b (sym at_a ∙ (ap (slice_get (run ∷ runs)) place ∙ at_b)) in
    (place, alone a b m n one small_m small_n same)

pub no-vector-twice : (run : KeyRun) (runs : List KeyRun) (i j m n : ℕ) (a b : KeyRun) → GoOn run runs
    → slice_get (run ∷ runs) i ≡ Some a → slice_get (run ∷ runs) j ≡ Some b → m < a.count → n < b.count
    → number_of a.keys m < 2 ^ 64 → number_of b.keys n < 2 ^ 64 → vector_of a.keys m ≡ vector_of b.keys n
    → (i ≡ j) × (m ≡ n)
no-vector-twice run runs i j m n a b on at_a at_b in_a in_b small_m small_n same =
    by-places run runs i j m n a b on at_a at_b in_a in_b small_m small_n same (compared i j)
