-- Why the entries of a ladder can't be listed, one by one.
use Rattle.std.specs.Fmt.{WritesOnOk}
use Rattle.std.specs.declared.fmt.Error.{Error}
use Rattle.std.specs.declared.fmt.Formatter.{Formatter}
use Rattle.std.proofs.Common.{◌≡◌, ◌∙◌, ℕ, ◌+◌, ◌<◌, ◌≤◌, Bool, true, false, cond, List, [], ◌++◌, Bor, Any, Decides, Option, Some, None, map, length, take, drop, get_or, bytes_eq, codes, decimal, refl, sym, ap, subst, append_assoc, Result, arith, drop_of_length-le, lt-ltb, le-ltb}
use Rattle.std.proofs.lemmas.List.{drop_more, get_or-map, length-map, length-take-le, take_more}
use Rattle.std.proofs.lemmas.List.Folds.{Any-from_list_any, list_any-from_Any}
use Rattle.std.proofs.lemmas.Slice.Eq.{bytes_eq-Decides}
use Rattle.limits.specs.declared.TheConstants.{MOST_RENDITIONS}
use Rattle.commands.specs.declared.entry.EntryWords.{EntryWords}
use Rattle.commands.specs.Entries.{entry_of, entry_value}
use Rattle.command_line.specs.EntryTexts.{IsNamed, has_four_colons, parts_of}
use Rattle.command_line.specs.SettingsWords.{entries_words, entry_why, first_of, first_why, is_among, is_named, parts_why, unlistable}
use Rattle.command_line.proofs.EntryNames.{four-colons, has-four-colons}
use Rattle.command_line.proofs.Numbers.{both-of, each-of-two, same-bool}

named-told : (name text : List ℕ) → is_named name text ≡ true → IsNamed name text
named-told name text is =
    let each = each-of-two (has_four_colons text) (bytes_eq (entry_of text).name name) is in
    record { colons = has-four-colons text each.0; is = (bytes_eq-Decides (entry_of text).name name).0 each.1 }

named-tells : (name text : List ℕ) → IsNamed name text → is_named name text ≡ true
named-tells name text named =
    both-of (has_four_colons text) (bytes_eq (entry_of text).name name) (four-colons text named.colons) ((bytes_eq-Decides (entry_of text).name name).1 named.is)

-- what decides whether one of these texts is an entry of this name is that
pub among-decided : (name : List ℕ) (texts : List (List ℕ)) (b : Bool) → Decides b (Any (IsNamed name) texts) → b ≡ is_among name texts
unfolding is_among
among-decided name texts b decides =
    same-bool b _
    (λ is. list_any-from_Any (is_named name) texts (let (k, text, within, at, named) = decides.0 is in (k, text, within, at, named-tells name text named)))
    (λ is. decides.1 (let (k, text, within, at, named) = Any-from_list_any (is_named name) texts is in (k, text, within, at, named-told name text named)))

first-from : (xs : List (List ℕ)) (place : ℕ) (d : List ℕ) → place < length xs
    → first_why (take place xs) (drop place xs) ≡ first_of (parts_why (parts_of (get_or xs place d)) (take place xs) (place + 1)) (first_why (take (place + 1) xs) (drop (place + 1) xs))
unfolding first_why
first-from xs place d within = rw (drop_more xs place d within, take_more xs place d within, length-take-le place xs (omega arith)) refl

module _ (texts : List (Bor (List ℕ))) (place : ℕ) (e : Bor (List ℕ)) (within : place < length texts) where
  abbrev before : List (List ℕ)
  before = take place (map (λ t. t.now) texts)

  abbrev whys : Option (List ℕ)
  whys = first_why before (drop place (map (λ t. t.now) texts))

  abbrev later : Option (List ℕ)
  later = first_why (take (place + 1) (map (λ t. t.now) texts)) (drop (place + 1) (map (λ t. t.now) texts))

  here : whys ≡ first_of (parts_why (parts_of (get_or texts place e).now) before (place + 1)) later
  here =
      first-from (map (λ t. t.now) texts) place [] (omega (arith, within, length-map texts (λ t. t.now)))
      ∙ ap (λ text. first_of (parts_why (parts_of text) before (place + 1)) later) (get_or-map (λ t. t.now) texts place e [] within)

  -- a text that is no entry
  pub no-entry : None ≡ parts_of (get_or texts place e).now → whys ≡ later
  no-entry none = here ∙ ap (λ parts. first_of (parts_why parts before (place + 1)) later) (sym none)

  module _ (words : EntryWords) (is : Some (entry_value words) ≡ parts_of (get_or texts place e).now) where
    entry-here : whys ≡ first_of (entry_why (unlistable words.name.now words.codecs.now words.size.now) before (place + 1) words.name.now) later
    entry-here = here ∙ ap (λ parts. first_of (parts_why parts before (place + 1)) later) (sym is)

    -- an entry that can't be listed alone
    pub unlistable-entry : (why : List ℕ) → Some why ≡ unlistable words.name.now words.codecs.now words.size.now → whys ≡ Some (codes "entry " ++ decimal (place + 1) ++ codes ": " ++ why)
    unlistable-entry why told = entry-here ∙ ap (λ found. first_of (entry_why found before (place + 1) words.name.now) later) (sym told)

    alone : None ≡ unlistable words.name.now words.codecs.now words.size.now
        → whys ≡ first_of (cond (is_among words.name.now before) (Some (codes "entry " ++ decimal (place + 1) ++ codes " has the name of an earlier one, " ++ words.name.now)) None) later
    alone told = entry-here ∙ ap (λ found. first_of (entry_why found before (place + 1) words.name.now) later) (sym told)

    -- one of an earlier name
    pub named-entry : None ≡ unlistable words.name.now words.codecs.now words.size.now → true ≡ is_among words.name.now before
        → whys ≡ Some (codes "entry " ++ decimal (place + 1) ++ codes " has the name of an earlier one, " ++ words.name.now)
    named-entry told among =
        alone told
        ∙ ap (λ b. first_of (cond b (Some (codes "entry " ++ decimal (place + 1) ++ codes " has the name of an earlier one, " ++ words.name.now)) None) later) (sym among)

    -- any other
    pub listed-entry : None ≡ unlistable words.name.now words.codecs.now words.size.now → false ≡ is_among words.name.now before → whys ≡ later
    listed-entry told among =
        alone told
        ∙ ap (λ b. first_of (cond b (Some (codes "entry " ++ decimal (place + 1) ++ codes " has the name of an earlier one, " ++ words.name.now)) None) later) (sym among)

pub many-entries : (texts : List (List ℕ)) → MOST_RENDITIONS < length texts → entries_words texts ≡ codes "there are more than " ++ decimal MOST_RENDITIONS ++ codes " entries"
unfolding entries_words
many-entries texts many = rw (lt-ltb MOST_RENDITIONS (length texts) many) refl

pub why-entries : (texts : List (List ℕ)) (why : List ℕ) → length texts ≤ MOST_RENDITIONS → first_why [] texts ≡ Some why → entries_words texts ≡ why
unfolding entries_words
why-entries texts why few told = rw (le-ltb MOST_RENDITIONS (length texts) few, told) refl

pub no-why : (texts : List (List ℕ)) (n : ℕ) → length texts ≤ n → first_why (take n texts) (drop n texts) ≡ first_why [] texts → length texts ≤ MOST_RENDITIONS
    → entries_words texts ≡ codes "an option is outside its range"
unfolding entries_words first_why
no-why texts n past same few =
    let none : first_why [] texts ≡ None = sym same ∙ ap (first_why (take n texts)) (drop_of_length-le texts past) in
    rw (le-ltb MOST_RENDITIONS (length texts) few, none) refl

-- what was written, of the formatter as it was, in the words of a definition
pub written : {W : Type 0} (took : W → List ℕ → W → Type 0) (f h g : Formatter W) (r : Result (Unit {0}) Error) (text words : List ℕ) → h ≡ f → words ≡ text → WritesOnOk took h r text g
    → WritesOnOk took f r words g
written took f h g r text words kept same wrote = subst (λ x. WritesOnOk took x r words g) kept (subst (λ t. WritesOnOk took h r t g) (sym same) wrote)

pub grouped : (a b c d : List ℕ) → a ++ b ++ c ++ d ≡ a ++ (b ++ (c ++ d))
grouped a b c d = append_assoc (a ++ b) c d ∙ append_assoc a b (c ++ d)
