-- Why the words of a command line tell no job.
use Rattle.std.specs.Prelude.{◌≢◌, Result, Ok, Err}
use Rattle.std.proofs.Common.{◌≡◌, ◌∙◌, ◌⊎◌, inl, inr, refl, sym, ap, ap₂, subst, ℕ, ◌<◌, ◌≤◌, true, false, List, Option, None, length, codes, option_map}
use Rattle.clap.specs.declared.parser.matches.Found.{Found}
use Rattle.clap.specs.Values.{kind_of}
use Rattle.clap.specs.Words.{HasKind, IsAmong, Kinds, Row, Text, first_value}
use Rattle.clap.specs.declared.error.Error.{Error}
use Rattle.clap.specs.declared.error.kind.ErrorKind.TheVariants.{OutOfMemory}
use Rattle.limits.specs.declared.TheConstants.{MOST_KEYS}
use Rattle.commands.specs.declared.cipher.CipherWords.{CipherWords}
use Rattle.commands.specs.declared.cipher.CipherFault.{CipherFault}
use Rattle.commands.specs.declared.cipher.CipherFault.TheVariants as cipher
use Rattle.commands.specs.declared.key_list.KeyListFault.{KeyListFault}
use Rattle.commands.specs.declared.key_list.KeyListFault.TheVariants as keys
use Rattle.commands.specs.declared.ladder_fault.LadderFault.{LadderFault}
use Rattle.commands.specs.declared.ladder_fault.LadderFault.TheVariants as ladder
use Rattle.commands.specs.declared.settings.SettingsFault.{SettingsFault}
use Rattle.commands.specs.declared.settings.SettingsFault.TheVariants as settings
use Rattle.commands.specs.declared.numbers.Numbers.{Numbers}
use Rattle.commands.specs.CipherWords.{AreGood, KeyAndVector, cipher_words}
use Rattle.commands.specs.Hex.{chosen_salt, chosen_vector}
use Rattle.commands.specs.KeyFiles.{GivesNoKey, IsOfFile, is_key_word}
use Rattle.commands.specs.KeyLists.{IsBadKeyFile, IsUnreadKey, are_keys, key_texts}
use Rattle.commands.specs.LadderOptions.{Asked, HasBadKeyFile, HasBadSalt, HasNoPeriod, HasTooMany, HasTurns, HasUnreadKey, IsBadEntry, IsOutside}
use Rattle.commands.specs.Pools.{IsPool}
use Rattle.commands.specs.Settings.{AreFit, AreInside, AreOutside, FitsCut, HasSalt, Words}
use Rattle.commands.specs.Sizes.{HasSize}
use Rattle.command_line.specs.declared.fault.Fault.{Fault}
use Rattle.command_line.specs.declared.fault.Fault.TheVariants.{Usage, NotUtf8, Cipher, Settings, KeyList, Ladder, NoMemory, Busy, Sealing, Opening, Resuming, Unopened, Packing, LadderPacking, Checking}
use Rattle.command_line.specs.Faults.{IsRefusal, IsRefused}
use Rattle.command_line.specs.Jobs.{IsMatched}
use Rattle.command_line.specs.Words.{IsNumberOf, text_of, texts_of}
use Rattle.command_line.specs.Refusals.{FilesView, IsCipherFault, IsKeyListFault, IsLadderFault, IsNoCipher, AreNoKeys, IsNoJob, IsNoLadder, AreNoSettings, IsSettingsFault, RefusesCipher}

-- each fault of a key and a vector, by what it says
pub cipher-fault : (files : FilesView) (words : KeyAndVector) (why : CipherFault) →
    (why ≡ cipher.BadKey → is_key_word words.key ≡ false) →
    (why ≡ cipher.BadVector → (is_key_word words.key ≡ true) × (chosen_vector words.seq words.iv ≡ None)) →
    (why ≡ cipher.Unread → AreGood words × IsOfFile files.refuses words.key) →
    ((n : ℕ) → why ≡ cipher.BadKeyFile n → AreGood words × (n ≡ 1) × IsOfFile (GivesNoKey files.gives) words.key) →
    (why ≡ cipher.NoMemory → AreGood words × IsOfFile files.wants words.key) → IsCipherFault files words why
cipher-fault files words cipher.BadKey key vector unread file memory = key refl
cipher-fault files words cipher.BadVector key vector unread file memory = vector refl
cipher-fault files words cipher.Unread key vector unread file memory = unread refl
cipher-fault files words (cipher.BadKeyFile n) key vector unread file memory = file n refl
cipher-fault files words cipher.NoMemory key vector unread file memory = memory refl

abbrev key-and-vector : List ℕ → Option ℕ → Option (List ℕ) → KeyAndVector
key-and-vector key seq iv = record { key = key; seq = seq; iv = iv }

-- .. of what was found for the options
pub cipher-refusal : (files : FilesView) (found : Found) (words : CipherWords) (why : CipherFault) → words.key.now ≡ text_of found (codes "key") →
    IsNumberOf found (codes "seq") words.seq → option_map (λ t. t.now) words.iv ≡ first_value found (codes "iv") → IsCipherFault files (cipher_words words) why →
    RefusesCipher files found why
cipher-refusal files found words why key seq iv is = record {
  seq = words.seq;
  seq_is = seq;
  is = subst (λ (w : KeyAndVector). IsCipherFault files w why) (ap₂ (λ (k : List ℕ) (i : Option (List ℕ)). key-and-vector k words.seq i) key iv) is;
}

-- each fault of settings
pub settings-fault : (files : FilesView) (words : Words) (numbers : Numbers) (why : SettingsFault) →
    (why ≡ settings.BadKey → are_keys words.keys ≡ false) →
    (why ≡ settings.BadSize → (are_keys words.keys ≡ true) × ¬ HasSize words.size) →
    (why ≡ settings.BadVector → (are_keys words.keys ≡ true) × HasSize words.size × (chosen_salt words.salt ≡ None)) →
    (why ≡ settings.TooMany → (are_keys words.keys ≡ true) × HasSize words.size × HasSalt words × (MOST_KEYS < length (key_texts words.keys))) →
    (why ≡ settings.ZeroPeriod → (are_keys words.keys ≡ true) × HasSize words.size × HasSalt words × (length (key_texts words.keys) ≤ MOST_KEYS) × (numbers.period ≡ 0)) →
    (why ≡ settings.Settings → AreOutside words numbers) →
    (why ≡ settings.Unread → AreInside words numbers × IsUnreadKey files.gives files.refuses words.keys) →
    ((n : ℕ) → why ≡ settings.BadKeyFile n → AreInside words numbers × IsBadKeyFile files.gives words.keys n) →
    (why ≡ settings.NoMemory → AreFit words numbers) → IsSettingsFault files words numbers why
settings-fault files words numbers settings.BadKey key size vector many period room unread file memory = key refl
settings-fault files words numbers settings.BadSize key size vector many period room unread file memory = size refl
settings-fault files words numbers settings.BadVector key size vector many period room unread file memory = vector refl
settings-fault files words numbers settings.TooMany key size vector many period room unread file memory = many refl
settings-fault files words numbers settings.ZeroPeriod key size vector many period room unread file memory = period refl
settings-fault files words numbers settings.Settings key size vector many period room unread file memory = room refl
settings-fault files words numbers settings.Unread key size vector many period room unread file memory = unread refl
settings-fault files words numbers (settings.BadKeyFile n) key size vector many period room unread file memory = file n refl
settings-fault files words numbers settings.NoMemory key size vector many period room unread file memory = memory refl

abbrev err-of : {T E : Type 0} → Result T E → E → E
err-of (Err e) d = e
err-of (Ok t) d = d

pub err-same : {T E : Type 0} (a b : E) (r : Result T E) → r ≡ Err a → r ≡ Err b → a ≡ b
err-same a b r is also = ap (λ x. err-of x a) (sym is ∙ also)

-- each fault of keys
pub key-list-fault : (files : FilesView) (text : List ℕ) (why : KeyListFault) →
    (why ≡ keys.BadKey → are_keys text ≡ false) → (are_keys text ≡ false → why ≡ keys.BadKey) →
    (why ≡ keys.Unread → IsUnreadKey files.gives files.refuses text) →
    ((n : ℕ) → why ≡ keys.BadKeyFile n → IsBadKeyFile files.gives text n) → IsKeyListFault files text why
key-list-fault files text keys.BadKey bad only unread file = bad refl
key-list-fault files text keys.Unread bad only unread file = unread refl
key-list-fault files text (keys.BadKeyFile n) bad only unread file = file n refl
key-list-fault files text keys.NoMemory bad only unread file = are (are_keys text) refl
  where
    are : (b : _) → are_keys text ≡ b → are_keys text ≡ true
    are true is = is
    are false is = absurd (cc (only is))

-- each fault of a ladder
pub ladder-fault : (files : FilesView) (asked : Asked) (why : LadderFault) →
    ((n : ℕ) → why ≡ ladder.BadEntry n → IsBadEntry asked n) → (why ≡ ladder.BadVector → HasBadSalt asked) → (why ≡ ladder.TooMany → HasTooMany asked) →
    (why ≡ ladder.ZeroPeriod → HasNoPeriod asked) → (why ≡ ladder.Settings → IsOutside asked) → (why ≡ ladder.Unread → HasUnreadKey files.gives files.refuses asked) →
    ((n : ℕ) → why ≡ ladder.BadKeyFile n → HasBadKeyFile files.gives asked n) → (why ≡ ladder.NoMemory → HasTurns asked × FitsCut asked.numbers × IsPool asked.pool × (0 < length asked.entries)) →
    IsLadderFault files asked why
ladder-fault files asked (ladder.BadEntry n) entry vector many period outside unread file memory = entry n refl
ladder-fault files asked ladder.BadVector entry vector many period outside unread file memory = vector refl
ladder-fault files asked ladder.TooMany entry vector many period outside unread file memory = many refl
ladder-fault files asked ladder.ZeroPeriod entry vector many period outside unread file memory = period refl
ladder-fault files asked ladder.Settings entry vector many period outside unread file memory = outside refl
ladder-fault files asked ladder.Unread entry vector many period outside unread file memory = unread refl
ladder-fault files asked (ladder.BadKeyFile n) entry vector many period outside unread file memory = file n refl
ladder-fault files asked ladder.NoMemory entry vector many period outside unread file memory = memory refl

-- what a command is told, the line is
pub no-cipher : (files : FilesView) (usage : Type 0) (matched : Option (Text × List Row)) (found : Found) (fault : Fault) →
    IsMatched matched (codes "seal") found ⊎ IsMatched matched (codes "open") found → IsNoCipher files found fault → IsNoJob files usage matched fault
no-cipher files usage matched found fault is (why, told, says) = subst (λ (f : Fault). IsNoJob files usage matched f) (sym told) (found, is, says)

pub no-settings : (files : FilesView) (usage : Type 0) (matched : Option (Text × List Row)) (found : Found) (fault : Fault) →
    IsMatched matched (codes "one") found → AreNoSettings files found fault → IsNoJob files usage matched fault
no-settings files usage matched found fault is (why, told, says) = subst (λ (f : Fault). IsNoJob files usage matched f) (sym told) (found, is, says)

pub no-keys : (files : FilesView) (usage : Type 0) (matched : Option (Text × List Row)) (found : Found) (fault : Fault) →
    IsMatched matched (codes "check") found → AreNoKeys files found fault → IsNoJob files usage matched fault
no-keys files usage matched found fault is (why, told, says) = subst (λ (f : Fault). IsNoJob files usage matched f) (sym told) (found, is, says)

pub no-ladder : (files : FilesView) (usage : Type 0) (matched : Option (Text × List Row)) (found : Found) (fault : Fault) →
    IsMatched matched (codes "pack") found → IsNoLadder files found fault → IsNoJob files usage matched fault
no-ladder files usage matched found fault is (inl (told, some)) = subst (λ (f : Fault). IsNoJob files usage matched f) (sym told) tt
no-ladder files usage matched found fault is (inr (why, told, says)) = subst (λ (f : Fault). IsNoJob files usage matched f) (sym told) (found, is, says)

-- a line that isn't one tells no job
pub no-line : (files : FilesView) {p q : Type 0} (matched : Option (Text × List Row)) (fault : Fault) → (p → q) → IsRefused p fault → IsNoJob files q matched fault
no-line files matched (Usage error) more is = more is
no-line files matched NotUtf8 more is = absurd is
no-line files matched (Cipher fault) more is = absurd is
no-line files matched (Settings fault) more is = absurd is
no-line files matched (KeyList fault) more is = absurd is
no-line files matched (Ladder fault) more is = absurd is
no-line files matched NoMemory more is = is
no-line files matched Busy more is = is
no-line files matched (Sealing fault) more is = is
no-line files matched (Opening fault) more is = is
no-line files matched (Resuming fault) more is = is
no-line files matched (Unopened fault) more is = is
no-line files matched (Packing fault) more is = is
no-line files matched (LadderPacking fault) more is = is
no-line files matched (Checking fault) more is = is

-- for another reason, of what another command line matched
pub same-job : (files : FilesView) {p q : Type 0} (matched other : Option (Text × List Row)) (fault : Fault) → matched ≡ other → (p → q) → IsNoJob files p matched fault → IsNoJob files q other fault
same-job files {p} {q} matched other fault same more is = subst (λ (m : Option (Text × List Row)). IsNoJob files q m fault) same (weaker fault is)
  where
    weaker : (f : Fault) → IsNoJob files p matched f → IsNoJob files q matched f
    weaker (Usage error) is = more is
    weaker NotUtf8 is = is
    weaker (Cipher fault) is = is
    weaker (Settings fault) is = is
    weaker (KeyList fault) is = is
    weaker (Ladder fault) is = is
    weaker NoMemory is = is
    weaker Busy is = is
    weaker (Sealing fault) is = is
    weaker (Opening fault) is = is
    weaker (Resuming fault) is = is
    weaker (Unopened fault) is = is
    weaker (Packing fault) is = is
    weaker (LadderPacking fault) is = is
    weaker (Checking fault) is = is

-- want of memory for a ladder is told only where there are entries
pub ladder-memory : (files : FilesView) (found : Found) (fault : Fault) → IsNoLadder files found fault → fault ≡ NoMemory → 0 < length (texts_of found (codes "entries"))
ladder-memory files found fault (inl (told, some)) is = some
ladder-memory files found fault (inr (why, told, says)) is = absurd (cc (told, is))

-- a ladder is never told as words that aren't a line
pub ladder-no-usage : (files : FilesView) (found : Found) (fault : Fault) (error : Error) → IsNoLadder files found fault → fault ≡ Usage error → ⊥
ladder-no-usage files found fault error (inl (told, some)) is = absurd (cc (told, is))
ladder-no-usage files found fault error (inr (why, told, says)) is = absurd (cc (told, is))

-- what clap refuses is told as that refusal
pub usage-among : (kinds : Kinds) (why error : Error) (fault : Fault) → fault ≡ Usage error → IsRefusal why fault → HasKind kinds why → IsAmong (kind_of error) kinds
usage-among kinds why error fault is refusal has = go has
  where
    no : kind_of why ≡ OutOfMemory → ⊥
    no = subst (IsRefused (kind_of why ≢ OutOfMemory)) is refusal.early

    same : why ≡ error
    same = cc (is, refusal.usage no)

    go : HasKind kinds why → IsAmong (kind_of error) kinds
    go (inl memory) = absurd (no memory)
    go (inr among) = subst (λ (e : Error). IsAmong (kind_of e) kinds) same among
