-- What stands under which name.
use Rattle.std.proofs.Common.{◌≡◌, ◌≢◌, ℕ, true, false, Option, List, refl, ap, ◌∙◌}
use Rattle.std.specs.Prelude.{if◌then◌else◌}
use Rattle.std.specs.Str.{bytes_eq}
use Rattle.std.proofs.lemmas.Slice.Eq.{bytes_eq-Decides}
use Rattle.std.proofs.lemmas.Bool.{false_from_ne_true}
use Rattle.folder.specs.Moves.{Files, Same, Shows, is_hidden, with_file}

pub at_name : (files : Files) (name : List ℕ) (bytes : Option (List ℕ)) → with_file files name bytes name ≡ bytes
at_name files name bytes =
    let same : bytes_eq name name ≡ true = (bytes_eq-Decides name name).1 refl in
    rw same refl

pub elsewhere : (files : Files) (name other : List ℕ) (bytes : Option (List ℕ)) → name ≢ other → with_file files name bytes other ≡ files other
elsewhere files name other bytes apart =
    let differs : bytes_eq name other ≡ false = false_from_ne_true _ (λ same. apart ((bytes_eq-Decides name other).0 same)) in
    rw differs refl

pub hidden-apart : (hidden shown : List ℕ) → is_hidden hidden ≡ true → is_hidden shown ≡ false → hidden ≢ shown
hidden-apart hidden shown h s same = cc (h, s, ap is_hidden same)

-- a change of a hidden file isn't seen
pub Shows-hidden : (files : Files) (name : List ℕ) (bytes : Option (List ℕ)) → is_hidden name ≡ true → Shows (with_file files name bytes) files
Shows-hidden files name bytes h other shown = elsewhere files name other bytes (hidden-apart name other h shown)

pub Shows-trans : (a b c : Files) → Shows a b → Shows b c → Shows a c
Shows-trans a b c p q name shown = p name shown ∙ q name shown

pub Shows-Same : (a b c : Files) → Same a b → Shows b c → Shows a c
Shows-Same a b c p q name shown = p name ∙ q name shown

-- the same change of both
pub Shows-with_file : (a b : Files) (name : List ℕ) (bytes : Option (List ℕ)) → Shows a b → Shows (with_file a name bytes) (with_file b name bytes)
Shows-with_file a b name bytes p other shown =
    elim (bytes_eq name other) as (λ t. (if t then bytes else a other) ≡ (if t then bytes else b other)) [ true ↦ refl | false ↦ p other shown ]
