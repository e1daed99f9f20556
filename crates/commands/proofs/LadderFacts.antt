-- A ladder within its limits is so under whatever keys, and each rendition has its share of them.
use Rattle.std.proofs.Common.{◌≡◌, ◌∙◌, ℕ, suc, List, [], ◌∷◌, ◌++◌, ◌+◌, ◌<◌, ◌≢◌, map, take, drop, get_or, length, refl, ap, sym, arith, ◌≤◌, All, Any, subst, length-append, lit≤, ◌⊎◌, Result, Err, inl, inr}
use Rattle.std.proofs.Math.Seq.{drop-cons, take-length}
use Rattle.std.proofs.lemmas.List.Elements.{All-map, All-from_recursion}
use Rattle.std.proofs.lemmas.Option.{none-some}
use Rattle.std.specs.List.{AllByRecursion}
use Rattle.std.proofs.lemmas.List.{take_more, map-append, append_assoc, append-nil, drop_all, length-map}
use Rattle.ladder_items.specs.declared.settings.Kind.{Kind}
use Rattle.ladder_items.specs.declared.settings.Kind.TheVariants.{Live, Event}
use Rattle.ladder_items.specs.Ladder.{Ladder, RenditionValue, GoesOn, HasAll, IsAllowed, IsCutAllowed, IsNew, unmeasured}
use Rattle.ladder_items.specs.Shown.{AreNextRows}
use Rattle.limits.specs.declared.TheConstants.{LEAST, MOST_RENDITIONS, MOST_WINDOW, MOST_QUEUE, MOST_KEYS}
use Rattle.commands.specs.declared.entry.EntryWords.{EntryWords}
use Rattle.commands.specs.declared.ladder_fault.LadderFault.{LadderFault}
use Rattle.commands.specs.declared.ladder_fault.LadderFault.TheVariants.{BadEntry, BadVector, TooMany, ZeroPeriod, Settings as Outside, Unread, BadKeyFile, NoMemory}
use Rattle.commands.specs.Entries.{Entry, entry_of, entry_value}
use Rattle.commands.specs.KeyLists.{key_texts}
use Rattle.commands.specs.LadderOptions.{Asked, entry_words, AreRenditionsOf, ShareKeys, joined, key_total, IsAskedLadder, IsWithin, IsInside, IsOutside, IsBehindTexts, HasUnreadKey, HasBadKeyFile, IsBadEntry, HasBadSalt, HasTooMany, HasNoPeriod, HasTurns, IsWhole, key_count}
use Rattle.commands.specs.Settings.{Words, IsRenditionOf}
use Rattle.commands.proofs.GoodEntries.{none-bad}

pub one-listed : (words : Words) (turns : ℕ) (own other : List (List ℕ)) (a b : RenditionValue) → IsRenditionOf words turns own a → IsRenditionOf words turns other b → unmeasured a ≡ unmeasured b
one-listed words turns own other a b is was =
    let name : a.name ≡ b.name = is.name_is ∙ sym was.name_is in
    let codecs : a.codecs ≡ b.codecs = is.codecs_are ∙ sym was.codecs_are in
    let width : a.width ≡ b.width = is.size_is.width_is.value ∙ sym was.size_is.width_is.value in
    let height : a.height ≡ b.height = is.size_is.height_is.value ∙ sym was.size_is.height_is.value in
    λ i. record { name = name i; codecs = codecs i; width = width i; height = height i; peak = 0; average = 0; frame_peak = 0; frame_average = 0 }

-- under whatever keys, the renditions are listed alike
same-listed : (words : Entry → Words) (turns : ℕ) (entries : List Entry) (shares others : List (List (List ℕ))) (xs ys : List RenditionValue)
    → AreRenditionsOf words turns entries shares xs → AreRenditionsOf words turns entries others ys → map unmeasured xs ≡ map unmeasured ys
same-listed words turns [] [] [] [] [] are were = refl
same-listed words turns [] [] [] [] (y ∷ ys) are were = absurd were
same-listed words turns [] [] [] (x ∷ xs) ys are were = absurd are
same-listed words turns [] [] (o ∷ others) xs ys are were = absurd were
same-listed words turns [] (s ∷ shares) others xs ys are were = absurd are
same-listed words turns (e ∷ entries) [] others xs ys are were = absurd are
same-listed words turns (e ∷ entries) (s ∷ shares) [] xs ys are were = absurd were
same-listed words turns (e ∷ entries) (s ∷ shares) (o ∷ others) [] ys are were = absurd are
same-listed words turns (e ∷ entries) (s ∷ shares) (o ∷ others) (x ∷ xs) [] are were = absurd were
same-listed words turns (e ∷ entries) (s ∷ shares) (o ∷ others) (x ∷ xs) (y ∷ ys) are were =
    let first = one-listed (words e) turns s o x y are.0 were.0 in
    let rest = same-listed words turns entries shares others xs ys are.1 were.1 in
    λ i. first i ∷ rest i

each-made : (P : RenditionValue → Type 0) (words : Entry → Words) (turns : ℕ) (entries : List Entry) (shares : List (List (List ℕ))) (made : List RenditionValue)
    → ((w : Words) (own : List (List ℕ)) (r : RenditionValue) → IsRenditionOf w turns own r → P r) → AreRenditionsOf words turns entries shares made → AllByRecursion P made
each-made P words turns [] [] [] holds are = tt
each-made P words turns [] [] (m ∷ made) holds are = absurd are
each-made P words turns [] (s ∷ shares) made holds are = absurd are
each-made P words turns (e ∷ entries) [] made holds are = absurd are
each-made P words turns (e ∷ entries) (s ∷ shares) [] holds are = absurd are
each-made P words turns (e ∷ entries) (s ∷ shares) (m ∷ made) holds are = (holds (words e) s m are.0, each-made P words turns entries shares made holds are.1)

none-follow : (target first : ℕ) → AreNextRows target first []
none-follow target first k row at = absurd (none-some row at)

-- one of which nothing came before goes on from that
pub new-goes-on : (kind : Kind) (target : ℕ) (r : RenditionValue) → IsNew r → GoesOn kind target r
new-goes-on kind target r new = record {
  first = rw new.gone (rw new.earlier new.first);
  few = rw new.earlier (lit≤ tt);
  follow = rw new.earlier (none-follow target r.gone.rows);
  turns = rw new.earlier (All-from_recursion (λ row. row.key < MOST_KEYS) [] tt);
  limit = rw new.first (lit≤ tt);
  discontinuities = rw new.gone (rw new.earlier (lit≤ tt));
  small = rw new.gone (record { rows = lit≤ tt; frames = lit≤ tt; discontinuities = lit≤ tt });
  all = rw new.gone (elim kind as (λ k. HasAll k (record { rows = 0; frames = 0; discontinuities = 0 })) [ Live ↦ tt | Event ↦ (refl, refl) ]);
}

-- A ladder is allowed if one is that lists its renditions alike and has the same numbers, where those go on, and hold their salts.
pub allowed-alike : (a b : Ladder) → map unmeasured a.renditions ≡ map unmeasured b.renditions → a.cut ≡ b.cut → a.window ≡ b.window → a.queue ≡ b.queue
    → All (λ r. r.keys.salt ≡ r.salt) b.renditions → All (GoesOn b.kind b.cut.target) b.renditions → IsAllowed a → IsAllowed b
allowed-alike a b listed cut window queue salts go_on allowed =
    let many : length a.renditions ≡ length b.renditions = sym (length-map a.renditions unmeasured) ∙ ap length listed ∙ length-map b.renditions unmeasured in
    let limits = allowed.within in
    record {
      within = record {
        renditions = subst (λ n. (LEAST ≤ n) × (n ≤ MOST_RENDITIONS)) many limits.renditions;
        cut = subst IsCutAllowed cut limits.cut;
        window = subst (λ n. (LEAST ≤ n) × (n ≤ MOST_WINDOW)) window limits.window;
        queue = subst (λ n. (LEAST ≤ n) × (n ≤ MOST_QUEUE)) queue limits.queue;
        salts = salts;
        go_on = go_on;
      };
      listable = rw (sym listed) allowed.listable;
    }

pub within-any : (asked : Asked) (keys others : List (List ℕ)) (a b : Ladder) → IsAskedLadder asked keys a → IsAskedLadder asked others b → IsWithin asked a → IsWithin asked b
within-any asked keys others a b is was within =
    let words = entry_words asked.salt asked.event in
    let turns = asked.numbers.period in
    let listed : map unmeasured a.renditions ≡ map unmeasured b.renditions
    = same-listed words turns (map entry_of asked.entries) is.renditions_are.shares was.renditions_are.shares a.renditions b.renditions is.renditions_are.each was.renditions_are.each in
    let each = λ (P : RenditionValue → Type 0) (holds : (w : Words) (own : List (List ℕ)) (r : RenditionValue) → IsRenditionOf w turns own r → P r).
    All-from_recursion P b.renditions (each-made P words turns (map entry_of asked.entries) was.renditions_are.shares b.renditions holds was.renditions_are.each) in
    record {
      cut_fits = within.cut_fits;
      pool_fits = within.pool_fits;
      allowed = allowed-alike a b listed (is.cut_is ∙ sym was.cut_is) (is.window_is ∙ sym was.window_is) (is.queue_is ∙ sym was.queue_is)
          (each (λ r. r.keys.salt ≡ r.salt) (λ w own r made. made.held_is))
          (each (GoesOn b.kind b.cut.target) (λ w own r made. new-goes-on b.kind b.cut.target r made.is_new)) within.allowed;
    }

-- what is within its limits isn't outside them
not-inside : (asked : Asked) → IsOutside asked → ¬ IsInside asked
not-inside asked out inside = out.outside inside.keys inside.made inside.ladder_is inside.within

-- what is told of a ladder outside its limits, where a fault behind its texts is
pub outside-answer : {A : Type 0} (gives : List ℕ → List ℕ → Type 0) (refuses : List ℕ → Type 0) (asked : Asked) (result : Result A LadderFault) (why : LadderFault) → result ≡ Err why → IsBehindTexts why
    → (why ≡ Unread → HasUnreadKey gives refuses asked) → ((n : ℕ) → why ≡ BadKeyFile n → HasBadKeyFile gives asked n) → IsOutside asked → (result ≡ Err Outside) ⊎ (result ≡ Err NoMemory)
outside-answer gives refuses asked result why same (inl is) unread file out = inl (same ∙ ap Err is)
outside-answer gives refuses asked result why same (inr (inl is)) unread file out = absurd (not-inside asked out (unread is).inside)
outside-answer gives refuses asked result why same (inr (inr (inl (n, is)))) unread file out = absurd (not-inside asked out (file n is).inside)
outside-answer gives refuses asked result why same (inr (inr (inr is))) unread file out = inr (same ∙ ap Err is)

-- the rendition of one entry more
one-more : (words : Entry → Words) (turns : ℕ) (entries : List Entry) (shares : List (List (List ℕ))) (made : List RenditionValue) (entry : Entry) (own : List (List ℕ)) (next : RenditionValue)
    → AreRenditionsOf words turns entries shares made → IsRenditionOf (words entry) turns own next → AreRenditionsOf words turns (entries ++ entry ∷ []) (shares ++ own ∷ []) (made ++ next ∷ [])
one-more words turns [] [] [] entry own next are is = (is, tt)
one-more words turns [] [] (m ∷ made) entry own next are is = absurd are
one-more words turns [] (s ∷ shares) made entry own next are is = absurd are
one-more words turns (e ∷ entries) [] made entry own next are is = absurd are
one-more words turns (e ∷ entries) (s ∷ shares) [] entry own next are is = absurd are
one-more words turns (e ∷ entries) (s ∷ shares) (m ∷ made) entry own next are is = (are.0, one-more words turns entries shares made entry own next are.1 is)

joined-more : (shares : List (List (List ℕ))) (own : List (List ℕ)) → joined (shares ++ own ∷ []) ≡ joined shares ++ own
joined-more [] own = append-nil own
joined-more (s ∷ shares) own = ap (λ rest. s ++ rest) (joined-more shares own) ∙ sym (append_assoc s (joined shares) own)

-- how far the keys are shared out: these entries have theirs, and so many are left for the others
pub record SharesSoFar (words : Entry → Words) (turns : ℕ) (entries : List EntryWords) (i : ℕ) (keys rest : List (List ℕ)) (made : List RenditionValue) : Type 0 where
  pub shares : List (List (List ℕ))
  pub all : joined shares ++ rest ≡ keys
  pub each : AreRenditionsOf words turns (map entry_value (take i entries)) shares made
  pub left : length rest ≡ key_total (map entry_value (drop i entries))

pub total-at : (entries : List EntryWords) (i : ℕ) (d : EntryWords) → i < length entries
    → key_total (map entry_value (drop i entries)) ≡ length (key_texts (entry_value (get_or entries i d)).keys) + key_total (map entry_value (drop (i + 1) entries))
total-at entries i d inside = let next : suc i ≡ i + 1 = omega arith in ap (λ es. key_total (map entry_value es)) (drop-cons entries i d inside ∙ ap (λ k. get_or entries i d ∷ drop k entries) next)

-- there is room for the keys of the entry at a place
pub room-left : (words : Entry → Words) (turns : ℕ) (entries : List EntryWords) (i : ℕ) (d : EntryWords) (keys rest : List (List ℕ)) (made : List RenditionValue) (n : ℕ) → i < length entries
    → SharesSoFar words turns entries i keys rest made → n ≡ length (key_texts (entry_value (get_or entries i d)).keys) → n ≤ length rest
room-left words turns entries i d keys rest made n inside so_far many = omega (arith, many, so_far.left, total-at entries i d inside)

pub shares-more : (words : Entry → Words) (turns : ℕ) (entries : List EntryWords) (i : ℕ) (d : EntryWords) (keys rest own more : List (List ℕ)) (made new : List RenditionValue) (next : RenditionValue)
    → i < length entries → SharesSoFar words turns entries i keys rest made → own ++ more ≡ rest → IsRenditionOf (words (entry_value (get_or entries i d))) turns own next
    → length own ≡ length (key_texts (entry_value (get_or entries i d)).keys) → new ≡ made ++ next ∷ [] → SharesSoFar words turns entries (i + 1) keys more new
shares-more words turns entries i d keys rest own more made new next inside so_far parted is many pushed =
    let taken : map entry_value (take (i + 1) entries) ≡ map entry_value (take i entries) ++ entry_value (get_or entries i d) ∷ []
    = ap (map entry_value) (take_more entries i d inside) ∙ map-append entry_value (take i entries) (get_or entries i d ∷ []) in
    record {
      shares = so_far.shares ++ own ∷ [];
      all = ap (λ ks. ks ++ more) (joined-more so_far.shares own) ∙ append_assoc (joined so_far.shares) own more ∙ ap (λ ks. joined so_far.shares ++ ks) parted ∙ so_far.all;
      each = rw (taken, pushed) (one-more words turns (map entry_value (take i entries)) so_far.shares made (entry_value (get_or entries i d)) own next so_far.each is);
      left = omega (arith, so_far.left, total-at entries i d inside, many, ap length parted, length-append own more);
    }

no-keys : (keys : List (List ℕ)) → length keys ≡ 0 → keys ≡ []
no-keys [] none = refl
no-keys (k ∷ keys) none = absurd (omega (arith, none))

pub shares-end : (words : Entry → Words) (turns : ℕ) (entries : List EntryWords) (i : ℕ) (keys rest : List (List ℕ)) (made : List RenditionValue)
    → length entries ≡ i → SharesSoFar words turns entries i keys rest made → ShareKeys words turns (map entry_value entries) keys made
shares-end words turns entries i keys rest made ended so_far =
    let none : drop i entries ≡ [] = drop_all i entries (omega (arith, ended)) in
    let empty : length rest ≡ 0 = so_far.left ∙ ap (λ es. key_total (map entry_value es)) none in
    let all : joined so_far.shares ≡ keys = sym (append-nil (joined so_far.shares)) ∙ ap (λ ks. joined so_far.shares ++ ks) (sym (no-keys rest empty)) ∙ so_far.all in
    let taken : take i entries ≡ entries = ap (λ k. take k entries) (sym ended) ∙ take-length entries in
    record {
      shares = so_far.shares;
      all = all;
      each = subst (λ es. AreRenditionsOf words turns (map entry_value es) so_far.shares made) taken so_far.each;
    }

-- what a ladder's entries tell has good parts and few keys
pub whole-entries : (asked : Asked) → HasTurns asked → All IsWhole (map entry_of asked.entries)
whole-entries asked turns = All-map IsWhole entry_of asked.entries (λ k d below. record {
  parts = (turns.keys.texts.good k d below).parts;
  few = turns.keys.few k d below;
})

-- none has too many keys where each has few
pub not-both : (texts : List (List ℕ)) (count : List ℕ → ℕ) → Any (λ text. 4096 < count text) texts → All (λ text. count text ≤ 4096) texts → ⊥
not-both texts count (k, x, below, is, many) few = let small : count x ≤ 4096 = subst (λ t. count t ≤ 4096) is (few k x below) in omega (arith, many, small)

-- where a fault of the texts or the period is told, the keys don't take turns
pub no-turns : (asked : Asked) (fault : LadderFault) → ((n : ℕ) → fault ≡ BadEntry n → IsBadEntry asked n) → (fault ≡ BadVector → HasBadSalt asked)
    → (fault ≡ TooMany → HasTooMany asked) → (fault ≡ ZeroPeriod → HasNoPeriod asked) → (fault ≡ Unread → ⊥) → ((n : ℕ) → fault ≡ BadKeyFile n → ⊥)
    → (fault ≢ Outside) × (fault ≢ NoMemory) → ¬ HasTurns asked
no-turns asked (BadEntry n) entry vector many period unread file only turns =
    let told = entry n refl in none-bad asked.entries told.place turns.keys.texts.good told.bad
no-turns asked BadVector entry vector many period unread file only turns = turns.keys.texts.salt (vector refl).bad
no-turns asked TooMany entry vector many period unread file only turns = not-both asked.entries key_count (many refl).many turns.keys.few
no-turns asked ZeroPeriod entry vector many period unread file only turns = let zero = (period refl).zero in omega (arith, zero, turns.some)
no-turns asked Unread entry vector many period unread file only turns = unread refl
no-turns asked (BadKeyFile n) entry vector many period unread file only turns = file n refl
no-turns asked Outside entry vector many period unread file only turns = absurd (only.0 refl)
no-turns asked NoMemory entry vector many period unread file only turns = absurd (only.1 refl)
