-- Texts that are opened one after another, and what stands behind their heads.
use Rattle.std.proofs.Common.{◌≡◌, Option, Some, None, true, false, is_some, ℕ, ◌+◌, ◌<◌, List, [], ◌∷◌, ◌++◌, length, get_or, refl, sym, ap, ◌∙◌, subst, arith, append-nil, length-append}
use Rattle.std.specs.List.{concat}
use Rattle.std.proofs.lemmas.List.{get_or_append_left}
use Rattle.std.proofs.lemmas.List.Folds.{concat-append}
use Rattle.hls_check.specs.Unpacking.{Packed, BeginsWithHead}
use Rattle.hls_check.specs.Texts.{OpensAlone, AreRests, IsFirstHeadless, HaveBytes}
use Rattle.hls_check.proofs.Growing.{each-more, get_or-last}

-- the first i entries open, and this is found in their texts
pub record CountedSoFar (p : Packed) (i : ℕ) (headless : Option ℕ) (bytes : ℕ) : Type 0 where
  pub texts : List (List ℕ)
  pub each_one : length texts ≡ i
  pub opens : (j : ℕ) → j < i → OpensAlone p j (get_or texts j [])
  pub found : HaveBytes texts headless bytes

-- an earlier text stays where it is
earlier : (Holds : List ℕ → Type 0) (texts : List (List ℕ)) (text : List ℕ) (j : ℕ) → j < length texts → Holds (get_or texts j []) → Holds (get_or (texts ++ text ∷ []) j [])
earlier Holds texts text j lt = subst Holds (sym (get_or_append_left texts (text ∷ []) [] j lt))

longer : (texts : List (List ℕ)) (text : List ℕ) → length (texts ++ text ∷ []) ≡ length texts + 1
longer texts text = length-append texts (text ∷ [])

-- a rest more
rests-more : (texts rests : List (List ℕ)) (text rest : List ℕ) → AreRests texts rests → BeginsWithHead text rest → AreRests (texts ++ text ∷ []) (rests ++ rest ∷ [])
rests-more texts rests text rest behind begins =
    let all = texts ++ text ∷ [] in
    let last = subst (λ t. BeginsWithHead t rest) (get_or-last texts text (length texts) refl) begins in
    record {
      each_one = omega (arith, longer rests rest, longer texts text, behind.each_one);
      begins = λ j lt.
          each-more (λ j r. BeginsWithHead (get_or all j []) r) rests rest (length texts) behind.each_one
          (λ j lt. earlier (λ t. BeginsWithHead t (get_or rests j [])) texts text j lt (behind.begins j (omega (arith, lt, behind.each_one))))
          last j (omega (arith, lt, longer rests rest, behind.each_one));
    }

bytes-more : (rests : List (List ℕ)) (rest : List ℕ) → length (concat rests) + length rest ≡ length (concat (rests ++ rest ∷ []))
bytes-more rests rest =
    sym (length-append (concat rests) rest) ∙ ap (λ x. length (concat rests ++ x)) (sym (append-nil rest)) ∙ ap length (sym (concat-append rests (rest ∷ [])))

-- a first text without a head stays that
headless-stays : (texts : List (List ℕ)) (text : List ℕ) (k : ℕ) → IsFirstHeadless texts k → IsFirstHeadless (texts ++ text ∷ []) k
headless-stays texts text k first = record {
  text = omega (arith, first.text, longer texts text);
  without = earlier (λ t. (rest : List ℕ) → ¬ BeginsWithHead t rest) texts text k first.text first.without;
  before = λ j lt. earlier (λ t. (rest : List ℕ) × BeginsWithHead t rest) texts text j (omega (arith, lt, first.text)) (first.before j lt);
}

module _ (p : Packed) (i bytes : ℕ) (text : List ℕ) (opens : OpensAlone p i text) where
  all-open : (texts : List (List ℕ)) → length texts ≡ i → ((j : ℕ) → j < i → OpensAlone p j (get_or texts j []))
      → (j : ℕ) → j < i + 1 → OpensAlone p j (get_or (texts ++ text ∷ []) j [])
  all-open texts long each = each-more (OpensAlone p) texts text i long each opens

  -- a text behind one without a head
  pub past : (headless : Option ℕ) → is_some headless ≡ true → CountedSoFar p i headless bytes → CountedSoFar p (i + 1) headless bytes
  past None some so = absurd (cc some)
  past (Some k) some so = record {
    texts = so.texts ++ text ∷ [];
    each_one = longer so.texts text ∙ ap (λ n. n + 1) so.each_one;
    opens = all-open so.texts so.each_one so.opens;
    found = headless-stays so.texts text k so.found;
  }

  -- the first text without a head
  pub headless-here : (headless : Option ℕ) → is_some headless ≡ false → ((rest : List ℕ) → ¬ BeginsWithHead text rest) → CountedSoFar p i headless bytes → CountedSoFar p (i + 1) (Some i) bytes
  headless-here (Some k) none without so = absurd (cc none)
  headless-here None none without so = record {
    texts = so.texts ++ text ∷ [];
    each_one = longer so.texts text ∙ ap (λ n. n + 1) so.each_one;
    opens = all-open so.texts so.each_one so.opens;
    found = record {
      text = omega (arith, longer so.texts text, so.each_one);
      without = subst (λ t. (rest : List ℕ) → ¬ BeginsWithHead t rest) (get_or-last so.texts text i so.each_one) without;
      before = λ j lt.
          earlier (λ t. (rest : List ℕ) × BeginsWithHead t rest) so.texts text j (omega (arith, lt, so.each_one))
          (_, so.found.1.begins j (omega (arith, lt, so.each_one, so.found.1.each_one)));
    };
  }

  -- a text with its rest
  pub counted-here : (headless : Option ℕ) (rest : List ℕ) (sum : ℕ) → is_some headless ≡ false → BeginsWithHead text rest → sum ≡ bytes + length rest
      → CountedSoFar p i headless bytes → CountedSoFar p (i + 1) headless sum
  counted-here (Some k) rest sum none begins is so = absurd (cc none)
  counted-here None rest sum none begins is so = record {
    texts = so.texts ++ text ∷ [];
    each_one = longer so.texts text ∙ ap (λ n. n + 1) so.each_one;
    opens = all-open so.texts so.each_one so.opens;
    found = (
      so.found.0 ++ rest ∷ [],
      rests-more so.texts so.found.0 text rest so.found.1 begins,
      is ∙ ap (λ n. n + length rest) so.found.2 ∙ bytes-more so.found.0 rest,
    );
  }
