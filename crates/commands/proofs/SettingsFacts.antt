-- Settings of one rendition within their limits are so under whatever keys, and a fault of its words is told of bad ones alone.
use Rattle.std.proofs.Common.{◌≡◌, ◌≢◌, ◌∙◌, ℕ, ◌<◌, false, List, [], ◌∷◌, All, None, ap, arith, length, map, refl, subst, sym}
use Rattle.std.proofs.lemmas.List.Elements.{All-from_recursion}
use Rattle.ladder_items.specs.Ladder.{Ladder, RenditionValue, GoesOn, IsAllowed, unmeasured}
use Rattle.limits.specs.declared.TheConstants.{MOST_KEYS}
use Rattle.commands.specs.declared.numbers.Numbers.{Numbers}
use Rattle.commands.specs.declared.settings.SettingsFault.{SettingsFault}
use Rattle.commands.specs.declared.settings.SettingsFault.TheVariants.{BadKey, BadSize, BadVector, TooMany, ZeroPeriod, Settings as Outside, Unread, BadKeyFile, NoMemory}
use Rattle.commands.specs.Hex.{chosen_salt}
use Rattle.commands.specs.KeyLists.{are_keys, key_texts}
use Rattle.commands.specs.Settings.{Words, AreGoodWords, AreInside, AreOutside, IsLadderOf}
use Rattle.commands.specs.Sizes.{HasSize}
use Rattle.commands.proofs.LadderFacts.{allowed-alike, new-goes-on, one-listed}

pub allowed-any : (words : Words) (numbers : Numbers) (keys others : List (List ℕ)) (a b : Ladder) → IsLadderOf words numbers keys a → IsLadderOf words numbers others b → IsAllowed a → IsAllowed b
allowed-any words numbers keys others a b is was =
    let listed : map unmeasured a.renditions ≡ map unmeasured b.renditions
    = ap (map unmeasured) is.alone ∙ ap (λ (m : _). m ∷ []) (one-listed words numbers.period keys others is.rendition was.rendition is.rendition_is was.rendition_is) ∙ sym (ap (map unmeasured) was.alone) in
    let each = λ (P : RenditionValue → Type 0) (holds : P was.rendition). subst (All P) (sym was.alone) (All-from_recursion P (was.rendition ∷ []) (holds, tt)) in
    allowed-alike a b listed (is.cut_is ∙ sym was.cut_is) (is.window_is ∙ sym was.window_is) (is.queue_is ∙ sym was.queue_is)
    (each (λ r. r.keys.salt ≡ r.salt) was.rendition_is.held_is) (each (GoesOn b.kind b.cut.target) (new-goes-on b.kind b.cut.target was.rendition was.rendition_is.is_new))

-- what is within its limits isn't outside them
pub not-inside : (words : Words) (numbers : Numbers) → AreOutside words numbers → ¬ AreInside words numbers
not-inside words numbers out inside = out.outside inside.keys inside.made inside.ladder_is inside.fit.1 inside.allowed

-- where a fault of the words is told, they aren't good
pub no-good : (words : Words) (turns : ℕ) (fault : SettingsFault) → (fault ≡ BadKey → are_keys words.keys ≡ false) → (fault ≡ BadSize → ¬ HasSize words.size)
    → (fault ≡ BadVector → chosen_salt words.salt ≡ None) → (fault ≡ TooMany → MOST_KEYS < length (key_texts words.keys)) → (fault ≡ ZeroPeriod → turns ≡ 0)
    → (fault ≡ Unread → ⊥) → ((n : ℕ) → fault ≡ BadKeyFile n → ⊥) → (fault ≢ Outside) × (fault ≢ NoMemory) → ¬ AreGoodWords words turns
no-good words turns BadKey key size vector many period unread file only good = let bad = key refl in let is = good.keys_are in cc (bad, is)
no-good words turns BadSize key size vector many period unread file only good = size refl good.size_is
no-good words turns BadVector key size vector many period unread file only good = good.salt_is (vector refl)
no-good words turns TooMany key size vector many period unread file only good = let more = many refl in let few = good.turns_are.0 in omega (arith, more, few)
no-good words turns ZeroPeriod key size vector many period unread file only good = let zero = period refl in let some = good.turns_are.1 in omega (arith, zero, some)
no-good words turns Unread key size vector many period unread file only good = unread refl
no-good words turns (BadKeyFile n) key size vector many period unread file only good = file n refl
no-good words turns Outside key size vector many period unread file only good = absurd (only.0 refl)
no-good words turns NoMemory key size vector many period unread file only good = absurd (only.1 refl)
