-- The words of a ladder's keys, those of each entry behind those of the entries before.
use Rattle.std.proofs.Common.{◌≡◌, ◌∙◌, ℕ, ◌+◌, ◌<◌, ◌&&◌, true, List, Bor, [], ◌∷◌, ◌++◌, map, length, take, get_or, All, refl, ap, sym, arith, length-append}
use Rattle.std.proofs.lemmas.List.{take_more, length-map, map-append, length-take-le, append_assoc, append-nil}
use Rattle.std.proofs.lemmas.List.Elements.{recursion_from_All}
use Rattle.std.proofs.lemmas.List.Folds.{list_all-append, list_all-map}
use Rattle.std.specs.List.{list_all, AllByRecursion}
use Rattle.commands.specs.declared.entry.EntryWords.{EntryWords}
use Rattle.commands.specs.declared.key_word.KeyWord.{KeyWord}
use Rattle.commands.specs.Entries.{Entry, entry_value}
use Rattle.commands.specs.KeyFiles.{ToldWord, is_key_word, told}
use Rattle.commands.specs.KeyLists.{key_texts}
use Rattle.commands.specs.LadderOptions.{IsWhole, key_total, key_words, numbered}

-- one text more of an entry
pub numbered-next : (n : ℕ) (before : List ToldWord) (texts : List (Bor (List ℕ))) (i : ℕ) (d : Bor (List ℕ)) (old new : List KeyWord) (word : KeyWord) → i < length texts
    → map told old ≡ before ++ numbered n (map (λ t. t.now) (take i texts)) → new ≡ old ++ word ∷ [] → word.number ≡ n → word.text ≡ get_or texts i d
    → map told new ≡ before ++ numbered n (map (λ t. t.now) (take (i + 1) texts))
numbered-next n before texts i d old new word inside so_far pushed number text =
    let now = λ (t : Bor (List ℕ)). t.now in
    let one = λ (t : List ℕ). (let w : ToldWord = record { number = n; text = t } in w) in
    let taken : numbered n (map now (take (i + 1) texts)) ≡ numbered n (map now (take i texts)) ++ one (get_or texts i d).now ∷ []
    = ap (λ ts. map one (map now ts)) (take_more texts i d inside) ∙ ap (map one) (map-append now (take i texts) (get_or texts i d ∷ []))
    ∙ map-append one (map now (take i texts)) ((get_or texts i d).now ∷ []) in
    let last : told word ≡ one (get_or texts i d).now = λ k. record { number = number k; text = (text k).now } in
    ap (map told) pushed ∙ map-append told old (word ∷ []) ∙ ap (λ ws. ws ++ told word ∷ []) so_far
    ∙ append_assoc before (numbered n (map now (take i texts))) (told word ∷ []) ∙ ap (λ w. before ++ (numbered n (map now (take i texts)) ++ w ∷ [])) last ∙ sym (ap (λ ws. before ++ ws) taken)

words-more : (n : ℕ) (entries : List Entry) (entry : Entry) → key_words n (entries ++ entry ∷ []) ≡ key_words n entries ++ numbered (n + length entries) (key_texts entry.keys)
words-more n [] entry = append-nil (numbered n (key_texts entry.keys)) ∙ ap (λ k. numbered k (key_texts entry.keys)) (let same : n ≡ n + 0 = omega arith in same)
words-more n (e ∷ entries) entry =
    let same : n + 1 + length entries ≡ n + length (e ∷ entries) = omega arith in
    ap (λ ws. numbered n (key_texts e.keys) ++ ws) (words-more (n + 1) entries entry ∙ ap (λ k. key_words (n + 1) entries ++ numbered k (key_texts entry.keys)) same)
    ∙ sym (append_assoc (numbered n (key_texts e.keys)) (key_words (n + 1) entries) (numbered (n + length (e ∷ entries)) (key_texts entry.keys)))

-- the words of one entry more
pub words-next : (entries : List EntryWords) (i : ℕ) (d : EntryWords) (old new : List ToldWord) → i < length entries
    → old ≡ key_words 1 (map entry_value (take i entries)) → new ≡ old ++ numbered (i + 1) (key_texts (get_or entries i d).keys.now)
    → new ≡ key_words 1 (map entry_value (take (i + 1) entries))
words-next entries i d old new inside so_far pushed =
    let values = map entry_value (take i entries) in
    let taken : map entry_value (take (i + 1) entries) ≡ values ++ entry_value (get_or entries i d) ∷ []
    = ap (map entry_value) (take_more entries i d inside) ∙ map-append entry_value (take i entries) (get_or entries i d ∷ []) in
    let many : i + 1 ≡ 1 + length values = omega (arith, length-map (take i entries) entry_value, length-take-le i entries (omega (arith, inside))) in
    pushed ∙ ap (λ ws. ws ++ numbered (i + 1) (key_texts (get_or entries i d).keys.now)) so_far ∙ ap (λ k. key_words 1 values ++ numbered k (key_texts (get_or entries i d).keys.now)) many
    ∙ sym (ap (key_words 1) taken ∙ words-more 1 values (entry_value (get_or entries i d)))

pub words-length : (n : ℕ) (entries : List Entry) → length (key_words n entries) ≡ key_total entries
words-length n [] = refl
words-length n (e ∷ entries) =
    length-append (numbered n (key_texts e.keys)) (key_words (n + 1) entries) ∙ ap (λ k. k + length (key_words (n + 1) entries)) (length-map (key_texts e.keys) (λ (t : List ℕ). (let w : ToldWord = record { number = n; text = t } in w)))
    ∙ ap (λ k. length (key_texts e.keys) + k) (words-length (n + 1) entries)

good-words : (n : ℕ) (entries : List Entry) → AllByRecursion IsWhole entries → list_all (λ word. is_key_word word.text) (key_words n entries) ≡ true
good-words n [] whole = refl
good-words n (e ∷ entries) whole =
    list_all-append (λ (w : ToldWord). is_key_word w.text) (numbered n (key_texts e.keys)) (key_words (n + 1) entries)
    ∙ ap (λ b. b && list_all (λ (w : ToldWord). is_key_word w.text) (key_words (n + 1) entries))
    (list_all-map (λ (w : ToldWord). is_key_word w.text) (λ (t : List ℕ). (let w : ToldWord = record { number = n; text = t } in w)) (key_texts e.keys) ∙ whole.0.parts.keys_are)
    ∙ good-words (n + 1) entries whole.1

-- the words of good entries are good
pub all-good : (n : ℕ) (entries : List Entry) → All IsWhole entries → list_all (λ word. is_key_word word.text) (key_words n entries) ≡ true
all-good n entries whole = good-words n entries (recursion_from_All IsWhole entries whole)
