-- What a kill leaves of a weave can be played.
use Rattle.std.proofs.Common.{◌≡◌, ◌∙◌, ◌⊎◌, inl, inr, ℕ, false, Some, List, [], ◌∷◌, ◌++◌, refl, sym, ap, subst, append_assoc}
use Rattle.std.specs.Prelude.{if◌then◌else◌}
use Rattle.std.specs.Str.{bytes_eq}
use Rattle.folder.specs.Moves.{Files, Move, Shows, is_hidden, no_files, with_file}
use Rattle.folder.specs.Puts.{MayBePut, Put, after_puts}
use Rattle.folder.specs.Prefixes.{HasPrefix}
use Rattle.folder.specs.Playing.{AreListedInTurn, IsAmong}
use Rattle.folder.proofs.Playing.{IsAmong-before, has-playable, playable}
use Rattle.item_io.specs.Items.{ItemValue}
use Rattle.item_io.specs.FolderMoves.{puts_of}
use Rattle.item_io.specs.Leaving.{EachKillLeaves}
use Rattle.item_io.proofs.Fitting.{given-fit}
use Rattle.ladder_items.specs.Ladder.{IsAllowed, Ladder}
use Rattle.ladder_items.specs.Items.{Part}
use Rattle.ladder_items.specs.Weave.{Weaves}
use Rattle.ladder_items.proofs.WholeBlocks.{weaves-whole}
use Rattle.std.proofs.lemmas.List.{append-nil}
use Rattle.ladder_laws.specs.Playlists.{HasByteNames, HasNoEarlier, HasEarlierFiles, AreListedBehind, lists_file}
use Rattle.ladder_laws.specs.Playable.{HasNoneOf, HasPlayablePrefix, StaysPlayable, StaysPlayableBehind}
use Rattle.ladder_laws.proofs.Turns.{served, weaves-in-turn, weaves-behind}

-- what files put leave under a name is the same where the same stood there before
after-same : (puts : List Put) (a b : Files) (name : List ℕ) → a name ≡ b name → after_puts a puts name ≡ after_puts b puts name
after-same [] a b name e = e
after-same (p ∷ puts) a b name e =
    after-same puts (with_file a p.name (Some p.bytes)) (with_file b p.name (Some p.bytes)) name (ap (λ x. if bytes_eq p.name name then Some p.bytes else x) e)

beside-prefix : (puts : List Put) (files left : Files) → MayBePut [] puts → AreListedInTurn lists_file puts → HasNoneOf files puts → HasPrefix files puts left → HasPlayablePrefix puts left
beside-prefix puts files left may in_turn none has =
    let given = has.blocks ++ has.placed in
    let split : has.blocks ++ (has.placed ++ has.due) ≡ given ++ has.due = sym (append_assoc has.blocks has.placed has.due) in
    let all : puts ≡ given ++ (has.due ++ has.rest) = has.all ∙ ap (λ (l : List Put). l ++ has.rest) split ∙ append_assoc given has.due has.rest in
    let alone : Files = after_puts no_files given in
    let play = playable lists_file puts given (has.due ++ has.rest) alone all in_turn (λ name shown. refl) in
    let within : (q : Put) → IsAmong q given → IsAmong q puts = λ q it. subst (λ (l : List Put). IsAmong q l) (sym all) (IsAmong-before q given (has.due ++ has.rest) it) in
    let shown : (q : Put) → IsAmong q puts → is_hidden q.name ≡ false = λ q it. (served [] puts may q it).shown in
    let same : (q : Put) → IsAmong q puts → left q.name ≡ alone q.name = λ q it. has.shows q.name (shown q it) ∙ after-same given files no_files q.name (none q it) in
    record {
      given = given;
      rest = has.due ++ has.rest;
      all = all;
      put = λ p bytes it is. play.put p.name bytes (shown p it) (sym (same p it) ∙ is);
      listed = λ p bytes other it is lists.
          let s = play.listed p.name bytes other (shown p it) (sym (same p it) ∙ is) lists in
          (s.0, s.1, s.2, subst (λ (n : List ℕ). left n ≡ alone n) s.2 (same s.0 (within s.0 s.1)) ∙ s.3);
    }

playable-by : (items : List ItemValue) (made : List Move) → MayBePut [] (puts_of items) → AreListedInTurn lists_file (puts_of items) → EachKillLeaves made items → StaysPlayable made items
playable-by items made may in_turn leaves = record {
  alone = λ left kill. has-playable lists_file (puts_of items) in_turn left (leaves no_files left kill);
  beside = λ files left none kill. beside-prefix (puts_of items) files left may in_turn none (leaves files left kill);
}

pub stays-playable : (ladder : Ladder) (parts : List Part) (items : List ItemValue) (made : List Move) → IsAllowed ladder → HasByteNames ladder → HasNoEarlier ladder → Weaves ladder parts items → EachKillLeaves made items → StaysPlayable made items
stays-playable ladder parts items made allowed bytes none weaves leaves =
    playable-by items made (given-fit items items [] (weaves-whole ladder parts items allowed weaves) (sym (append-nil items))) (weaves-in-turn ladder parts items allowed bytes none weaves) leaves

-- where a list of two parts is split
split-append : (xs ys before behind : List Put) (p : Put) → xs ++ ys ≡ before ++ p ∷ behind
    → ((more : List Put) × (xs ≡ before ++ p ∷ more)) ⊎ ((mid : List Put) × (before ≡ xs ++ mid) × (ys ≡ mid ++ p ∷ behind))
split-append [] ys before behind p e = inr (before, refl, e)
split-append (x ∷ xs) ys [] behind p e = let same : x ≡ p = cc e in inl (xs, ap (λ (q : Put). q ∷ xs) same)
split-append (x ∷ xs) ys (b ∷ before) behind p e =
    let same : x ≡ b = cc e in
    let rest : xs ++ ys ≡ before ++ p ∷ behind = cc e in
    elim (split-append xs ys before behind p rest) [
      | inl one ↦ inl (one.0, λ i. same i ∷ one.1 i)
      | inr other ↦ inr (other.0, λ i. sym same i ∷ other.1 i, other.2)
    ]

among-both : (s : Put) (xs ys : List Put) → IsAmong s (xs ++ ys) → IsAmong s xs ⊎ IsAmong s ys
among-both s [] ys it = inr it
among-both s (x ∷ xs) ys (inl same) = inl (inl same)
among-both s (x ∷ xs) ys (inr later) = elim (among-both s xs ys later) [ inl one ↦ inl (inr one) | inr other ↦ inr other ]

-- none of these is hidden
abbrev AreServed : List Put → Type 0
AreServed puts = (p : Put) → IsAmong p puts → is_hidden p.name ≡ false

served-both : (xs ys : List Put) → AreServed xs → AreServed ys → AreServed (xs ++ ys)
served-both xs ys one other p it = elim (among-both p xs ys it) as (λ _. is_hidden p.name ≡ false) [ inl first ↦ one p first | inr later ↦ other p later ]

-- what two runs put, the later one behind what it lists of the earlier one
both-in-turn : (earlier puts : List Put) → AreListedInTurn lists_file earlier → AreListedBehind lists_file earlier puts → AreServed (earlier ++ puts) → AreListedInTurn lists_file (earlier ++ puts)
both-in-turn earlier puts in_turn listed shown before p behind split name lists =
    elim (split-append earlier puts before behind p split) [
      | inl one ↦ in_turn before p one.0 one.1 name lists
      | inr other ↦
          let it = listed other.0 p behind other.2 name lists in
          let among : IsAmong it.0 before = subst (λ (l : List Put). IsAmong it.0 l) (sym other.1) it.1 in
          (it.0, among, it.2, shown it.0 (subst (λ (l : List Put). IsAmong it.0 l) (sym split) (IsAmong-before it.0 before (p ∷ behind) among)))
    ]

after-append : (xs ys : List Put) (files : Files) → after_puts files (xs ++ ys) ≡ after_puts (after_puts files xs) ys
after-append [] ys files = refl
after-append (x ∷ xs) ys files = after-append xs ys (with_file files x.name (Some x.bytes))

behind-by : (ladder : Ladder) (items : List ItemValue) (made : List Move) → AreServed (puts_of items)
    → ((earlier : List Put) → HasEarlierFiles ladder earlier → AreListedBehind lists_file earlier (puts_of items)) → EachKillLeaves made items → StaysPlayableBehind ladder made items
behind-by ladder items made served_all listed leaves earlier files left stands kill =
    let puts = puts_of items in
    let has = leaves files left kill in
    let given = has.blocks ++ has.placed in
    let rest = has.due ++ has.rest in
    let split : has.blocks ++ (has.placed ++ has.due) ≡ given ++ has.due = sym (append_assoc has.blocks has.placed has.due) in
    let all : puts ≡ given ++ rest = has.all ∙ ap (λ (l : List Put). l ++ has.rest) split ∙ append_assoc given has.due has.rest in
    let whole : earlier ++ puts ≡ (earlier ++ given) ++ rest = ap (λ (l : List Put). earlier ++ l) all ∙ sym (append_assoc earlier given rest) in
    let shows : Shows left (after_puts no_files (earlier ++ given)) =
    λ name shown. has.shows name shown ∙ after-same given files (after_puts no_files earlier) name (stands.shows name shown) ∙ ap (λ (f : Files). f name) (sym (after-append earlier given no_files)) in
    let in_turn = both-in-turn earlier puts stands.in_turn (listed earlier stands.has) (served-both earlier puts stands.served served_all) in
    record { given = earlier ++ given; rest = rest; all = whole; playable = playable lists_file (earlier ++ puts) (earlier ++ given) rest left whole in_turn shows }

pub stays-playable-behind : (ladder : Ladder) (parts : List Part) (items : List ItemValue) (made : List Move) → IsAllowed ladder → HasByteNames ladder → Weaves ladder parts items → EachKillLeaves made items →
    StaysPlayableBehind ladder made items
stays-playable-behind ladder parts items made allowed bytes weaves leaves =
    let may = given-fit items items [] (weaves-whole ladder parts items allowed weaves) (sym (append-nil items)) in
    behind-by ladder items made (λ p it. (served [] (puts_of items) may p it).shown)
    (λ earlier has. weaves-behind ladder parts items earlier allowed bytes weaves has) leaves

-- nothing was put
none-stands : (before : List Put) (p : Put) (behind : List Put) → [] ≡ before ++ p ∷ behind → ⊥
none-stands [] p behind e = cc e
none-stands (q ∷ before) p behind e = cc e

pub nothing-playable : (made : List Move) → EachKillLeaves made [] → StaysPlayable made []
nothing-playable made leaves = playable-by [] made tt (λ before p behind split. absurd (none-stands before p behind split)) leaves

pub nothing-behind : (ladder : Ladder) (made : List Move) → EachKillLeaves made [] → StaysPlayableBehind ladder made []
nothing-behind ladder made leaves = behind-by ladder [] made (λ p it. absurd it) (λ earlier has before p behind split. absurd (none-stands before p behind split)) leaves
