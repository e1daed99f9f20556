-- A text that is written in parts.
use Rattle.std.proofs.Common.{◌≡◌, ℕ, ◌%◌, true, List, [], ◌++◌, length, sym, ap, ◌∙◌, subst}
use Rattle.std.specs.Prelude.{Option, Result, Ok, Err, IsOk, OnOk, is_ok}
use Rattle.std.specs.List.{concat}
use Rattle.std.specs.Io.KnownBytes.{Appends}
use Rattle.std.proofs.KnownBytes.{Appends-trans}
use Rattle.std.proofs.lemmas.Bool.{false≢true}
use Rattle.aes_cbc.specs.Chain.{cbc, blocks, sealed_text}
use Rattle.aes_cbc.specs.Opening.{last_block}
use Rattle.aes_cbc.proofs.SealedParts.{piece_sealed}

-- whatever writes the rest to a writer that holds b has written the whole to one that held a
pub record GoesOn (a b : Option (List ℕ)) (whole rest : List ℕ) : Type 0 where
  pub by : (c : Option (List ℕ)) → Appends b c rest → Appends a c whole

-- one more part is written
GoesOn-part : (a b c : Option (List ℕ)) (whole rest part next : List ℕ) → GoesOn a b whole rest → Appends b c part → rest ≡ part ++ next
    → GoesOn a c whole next
GoesOn-part a b c whole rest part next on wrote parts = record {
  by = λ d h. on.by d (subst (Appends b d) (sym parts) (Appends-trans b c d part next wrote h));
}

-- one more chunk is encrypted and written
pub GoesOn-chunk : (a b c : Option (List ℕ)) (whole k v w chunk next rest bytes : List ℕ) → length chunk % 16 ≡ 0 → rest ≡ chunk ++ next
    → bytes ≡ concat (cbc k v (blocks chunk)) → w ≡ last_block v (cbc k v (blocks chunk))
    → GoesOn a b whole (sealed_text k v rest) → Appends b c bytes → GoesOn a c whole (sealed_text k w next)
GoesOn-chunk a b c whole k v w chunk next rest bytes blocks_whole parts encrypted last on wrote =
    GoesOn-part a b c whole (sealed_text k v rest) bytes (sealed_text k w next) on wrote
    (sym (piece_sealed k v [] chunk next rest bytes w blocks_whole parts encrypted last))

-- what holds where a call went well, where it did
pub OnOk-taken : {T E P : Type 0} (r : Result T E) → is_ok r ≡ true → OnOk r P → P
OnOk-taken (Ok x) ok p = p
OnOk-taken (Err e) ok p = absurd (false≢true ok)

-- what holds anyhow
pub OnOk-fact : {T E P : Type 0} (r : Result T E) → P → OnOk r P
OnOk-fact (Ok x) p = p
OnOk-fact (Err e) p = tt

-- what a fact where a call went well implies
pub OnOk-map : {T E P Q : Type 0} (r : Result T E) → (P → Q) → OnOk r P → OnOk r Q
OnOk-map (Ok x) f p = f p
OnOk-map (Err e) f p = tt

-- the rest of a text is written behind its head
pub written_behind : {T S E F : Type 0} (front : Result T E) (back : Result S F) (a b c : Option (List ℕ)) (head part rest whole : List ℕ) → head ≡ part
    → part ++ rest ≡ whole → OnOk front (Appends a b head) → OnOk back (IsOk front) → OnOk back (Appends b c rest) → OnOk back (Appends a c whole)
written_behind front (Err e) a b c head part rest whole same parts wrote went goes = tt
written_behind (Err e) (Ok y) a b c head part rest whole same parts wrote went goes = absurd (false≢true went)
written_behind (Ok x) (Ok y) a b c head part rest whole same parts wrote went goes =
    subst (Appends a c) (ap (λ h. h ++ rest) same ∙ parts) (Appends-trans a b c head rest wrote goes)
