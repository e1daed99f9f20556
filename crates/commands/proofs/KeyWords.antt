-- Words of keys, one behind another, and the keys that they tell.
use Rattle.std.proofs.Common.{◌≡◌, ◌∙◌, ℕ, suc, ◌+◌, ◌<◌, ◌&&◌, ◌==◌, Bool, true, false, cond, List, Bor, [], ◌∷◌, ◌++◌, map, length, take, set, get_or, refl, ap, sym, subst, arith}
use Rattle.std.proofs.lemmas.List.{take_more, take_more_set, length-map, map-append, length-take-le, get_or-map}
use Rattle.std.proofs.lemmas.List.Folds.{list_all_at}
use Rattle.std.specs.List.{list_all, slice_split, onto_first}
use Rattle.commands.specs.KeyLists.{key_texts}
use Rattle.commands.specs.declared.key_word.KeyWord.{KeyWord}
use Rattle.commands.specs.declared.key_word.KeyFileFault.{KeyFileFault}
use Rattle.commands.specs.declared.key_word.KeyFileFault.TheVariants.{Unread, BadKeyFile, NoMemory}
use Rattle.commands.specs.KeyFiles.{GivesNoKey, IsKeyFault, IsOfFile, StopsAt, TellKeys, TellsKey, ToldWord, counted, is_key_word, no_word, told, texts_of}

-- one text more
pub counted-more : (n : ℕ) (texts : List (List ℕ)) (text : List ℕ) → counted n (texts ++ text ∷ []) ≡ counted n texts ++ record { number = n + length texts; text = text } ∷ []
counted-more n [] text = let same : n ≡ n + 0 = omega arith in ap (λ k. record { number = k; text = text } ∷ []) same
counted-more n (t ∷ texts) text =
    let same : n + 1 + length texts ≡ n + length (t ∷ texts) = omega arith in
    ap (λ words. record { number = n; text = t } ∷ words) (counted-more (n + 1) texts text ∙ ap (λ k. counted (n + 1) texts ++ record { number = k; text = text } ∷ []) same)

pub counted-next : (texts : List (Bor (List ℕ))) (i : ℕ) (d : Bor (List ℕ)) (old new : List KeyWord) (word : KeyWord) → i < length texts
    → map told old ≡ counted 1 (map (λ t. t.now) (take i texts)) → new ≡ old ++ word ∷ [] → word.number ≡ i + 1 → word.text ≡ get_or texts i d
    → map told new ≡ counted 1 (map (λ t. t.now) (take (i + 1) texts))
counted-next texts i d old new word inside so_far pushed number text =
    let taken : map (λ t. t.now) (take (i + 1) texts) ≡ map (λ t. t.now) (take i texts) ++ (get_or texts i d).now ∷ []
    = ap (map (λ (t : Bor (List ℕ)). t.now)) (take_more texts i d inside) ∙ map-append (λ (t : Bor (List ℕ)). t.now) (take i texts) (get_or texts i d ∷ []) in
    let many : 1 + length (map (λ t. t.now) (take i texts)) ≡ word.number
    = omega (arith, number, length-map (take i texts) (λ (t : Bor (List ℕ)). t.now), length-take-le i texts (omega (arith, inside))) in
    let last : told word ≡ record { number = 1 + length (map (λ t. t.now) (take i texts)); text = (get_or texts i d).now }
    = λ k. record { number = sym many k; text = (text k).now } in
    ap (map told) pushed ∙ map-append told old (word ∷ []) ∙ ap (λ words. words ++ told word ∷ []) so_far
    ∙ ap (λ w. counted 1 (map (λ t. t.now) (take i texts)) ++ w ∷ []) last
    ∙ sym (ap (counted 1) taken ∙ counted-more 1 (map (λ t. t.now) (take i texts)) (get_or texts i d).now)

pub counted-texts : (n : ℕ) (texts : List (List ℕ)) → texts_of (counted n texts) ≡ texts
counted-texts n [] = refl
counted-texts n (t ∷ texts) = ap (λ rest. t ∷ rest) (counted-texts (n + 1) texts)

pub counted-good : (n : ℕ) (texts : List (List ℕ)) → list_all (λ word. is_key_word word.text) (counted n texts) ≡ list_all is_key_word texts
counted-good n [] = refl
counted-good n (t ∷ texts) = ap (λ b. is_key_word t && b) (counted-good (n + 1) texts)

tell-more : (gives : List ℕ → List ℕ → Type 0) (texts keys : List (List ℕ)) (text key : List ℕ) → TellKeys gives texts keys → TellsKey gives text key
    → TellKeys gives (texts ++ text ∷ []) (keys ++ key ∷ [])
tell-more gives [] [] text key are is = (is, tt)
tell-more gives [] (k ∷ keys) text key are is = absurd are
tell-more gives (t ∷ texts) [] text key are is = absurd are
tell-more gives (t ∷ texts) (k ∷ keys) text key are is = (are.0, tell-more gives texts keys text key are.1 is)

-- the key of one place more
pub tell-next : (gives : List ℕ → List ℕ → Type 0) (words : List KeyWord) (keys : List (List ℕ)) (i : ℕ) (d : KeyWord) (key : List ℕ) → i < length words → i < length keys
    → TellKeys gives (take i (texts_of (map told words))) (take i keys) → TellsKey gives (get_or words i d).text.now key
    → TellKeys gives (take (i + 1) (texts_of (map told words))) (take (i + 1) (set keys i key))
tell-next gives words keys i d key inside within so_far next =
    let texts = texts_of (map told words) in
    let many : length texts ≡ length words = length-map (map told words) (λ (w : ToldWord). w.text) ∙ length-map words told in
    let at : get_or texts i [] ≡ (get_or words i d).text.now
    = get_or-map (λ (w : ToldWord). w.text) (map told words) i (told d) [] (omega (arith, inside, length-map words told)) ∙ ap (λ (w : ToldWord). w.text) (get_or-map told words i d (told d) inside) in
    rw (take_more texts i [] (omega (arith, many, inside)), take_more_set keys i key within, at)
    (tell-more gives (take i texts) (take i keys) (get_or words i d).text.now key so_far next)

pub tell-length : (gives : List ℕ → List ℕ → Type 0) (texts keys : List (List ℕ)) → TellKeys gives texts keys → length keys ≡ length texts
tell-length gives [] [] are = refl
tell-length gives [] (k ∷ keys) are = absurd are
tell-length gives (t ∷ texts) [] are = absurd are
tell-length gives (t ∷ texts) (k ∷ keys) are = ap suc (tell-length gives texts keys are.1)

-- each word of good ones is good
pub good-at : (words : List KeyWord) (i : ℕ) (d : KeyWord) → i < length words → list_all (λ word. is_key_word word.text) (map told words) ≡ true
    → is_key_word (get_or words i d).text.now ≡ true
good-at words i d inside good = elim (is_key_word (get_or words i d).text.now) as (λ b. is_key_word (get_or words i d).text.now ≡ b → is_key_word (get_or words i d).text.now ≡ true) [
  | true ↦ λ is. is
  | false ↦ λ is. absurd (let no = list_all_at (λ (w : ToldWord). is_key_word w.text) (map told words) i (told d) (omega (arith, inside, length-map words told))
      (ap (λ (w : ToldWord). is_key_word w.text) (get_or-map told words i d (told d) inside) ∙ is) in let off : true ≡ false = sym good ∙ no in cc off)
] refl

by-why : (gives : List ℕ → List ℕ → Type 0) (refuses wants : List ℕ → Type 0) (words : List ToldWord) (k : ℕ) (why : KeyFileFault) → (why ≡ Unread → StopsAt gives refuses words k)
    → ((n : ℕ) → why ≡ BadKeyFile n → StopsAt gives (GivesNoKey gives) words n) → (why ≡ NoMemory → StopsAt gives wants words k) → IsKeyFault gives refuses wants words why
by-why gives refuses wants words k Unread unread bad memory = (k, unread refl)
by-why gives refuses wants words k (BadKeyFile n) unread bad memory = bad n refl
by-why gives refuses wants words k NoMemory unread bad memory = (k, memory refl)

-- why the keys aren't all read, where the word at a place tells none and all before it do
pub key-fault : (gives : List ℕ → List ℕ → Type 0) (refuses wants : List ℕ → Type 0) (words : List KeyWord) (keys : List (List ℕ)) (i : ℕ) (d : KeyWord) (why : KeyFileFault) → i < length words
    → TellKeys gives (take i (texts_of (map told words))) keys → (why ≡ Unread → IsOfFile refuses (get_or words i d).text.now)
    → ((n : ℕ) → why ≡ BadKeyFile n → (n ≡ (get_or words i d).number) × IsOfFile (GivesNoKey gives) (get_or words i d).text.now)
    → (why ≡ NoMemory → IsOfFile wants (get_or words i d).text.now) → IsKeyFault gives refuses wants (map told words) why
key-fault gives refuses wants words keys i d why inside before unread bad memory =
    let at : get_or (map told words) i no_word ≡ told (get_or words i d) = get_or-map told words i d no_word inside in
    let stops : (holds : List ℕ → Type 0) (n : ℕ) → n ≡ (get_or words i d).number → IsOfFile holds (get_or words i d).text.now → StopsAt gives holds (map told words) n
    = λ holds n number is. record {
      place = i;
      within = omega (arith, inside, length-map words told);
      keys = keys;
      before = before;
      number_is = number ∙ sym (ap (λ (w : ToldWord). w.number) at);
      stops = subst (λ (w : ToldWord). IsOfFile holds w.text) (sym at) is;
    } in
    by-why gives refuses wants (map told words) (get_or words i d).number why
    (λ is. stops refuses _ refl (unread is)) (λ n is. stops (GivesNoKey gives) n (bad n is).0 (bad n is).1) (λ is. stops wants _ refl (memory is))

onto-some : {X : Type 0} (x : X) (parts : List (List X)) → 0 < length (onto_first x parts)
onto-some x [] = omega arith
onto-some x (part ∷ parts) = omega arith

either-some : {X : Type 0} (b : Bool) (x : X) (parts : List (List X)) → 0 < length (cond b ([] ∷ parts) (onto_first x parts))
either-some true x parts = omega arith
either-some false x parts = onto-some x parts

split-some : {X : Type 0} (p : X → Bool) (xs : List X) → 0 < length (slice_split p xs)
split-some p [] = omega arith
split-some p (x ∷ xs) = either-some (p x) x (slice_split p xs)

-- there is a text at least
pub some-text : (text : List ℕ) → 0 < length (key_texts text)
some-text text = split-some (λ b. b == 43) text
