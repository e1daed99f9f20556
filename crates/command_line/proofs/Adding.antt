-- A command gets one option more.
use Rattle.std.proofs.Common.{◌≡◌, ◌∙◌, ℕ, Bool, true, false, List, [], ◌∷◌, ◌++◌, Option, map, refl, sym, ap, ap₂, subst, append_assoc, Some, length, not}
use Rattle.std.proofs.lemmas.List.{append-nil, map-append}
use Rattle.std.specs.Prelude.{◌||◌, ◌&&◌, option_map}
use Rattle.clap.specs.declared.builder.arg.Arg.{Arg}
use Rattle.clap.specs.declared.builder.command.Command.{Command}
use Rattle.clap.specs.declared.builder.command.Command.TheViews.{out-Command}
use Rattle.clap.specs.Words.{AddsArg, AddsInTurn, AddsSubcommand, items_of, App, Rule, app_of, new_app, rule_of, with_rule, with_subcommand}
use Rattle.command_line.specs.Options.{FlagOption, GetsCommand, GetsOptions, NumberOption, command_of, flagged, numbered, with_options}
use Rattle.command_line.specs.declared.offered.OfferedCommand.{OfferedCommand}
use Rattle.command_line.specs.Offered.{IsOffered, Offered, Offers, all_alone, flag_offered, number_offered, offered, unvalued, valued}
use Rattle.command_line.specs.Shown.{IsShown}

-- none
pub gets-none : (old : Command) → GetsOptions old [] old
gets-none old = record { app = refl; globals = refl }

with-more : (app : App) (rules : List Rule) (rule : Rule) → with_options app (rules ++ rule ∷ []) ≡ with_rule (with_options app rules) rule
with-more app [] rule = refl
with-more app (r ∷ rules) rule = with-more (with_rule app r) rules rule

or-none : (b : Bool) → (b || false) ≡ b
or-none true = refl
or-none false = refl

-- behind some others, one whose rule this is
pub gets-more : (old mid new : Command) (rules : List Rule) (option : Arg) (rule : Rule) → GetsOptions old rules mid → AddsArg mid option new → option.global ≡ false → rule_of option ≡ rule →
    GetsOptions old (rules ++ rule ∷ []) new
gets-more old mid new rules option rule first adds alone is = record {
  app = adds.shape alone ∙ ap₂ with_rule first.app is ∙ sym (with-more (app_of old) rules rule);
  globals = adds.globals ∙ rw alone (or-none (out-Command mid).has_globals) ∙ first.globals;
}

with-both : (app : App) (xs ys : List Rule) → with_options (with_options app xs) ys ≡ with_options app (xs ++ ys)
with-both app [] ys = refl
with-both app (x ∷ xs) ys = with-both (with_rule app x) xs ys

-- some and then others
pub gets-both : (old mid new : Command) (xs ys : List Rule) → GetsOptions old xs mid → GetsOptions mid ys new → GetsOptions old (xs ++ ys) new
gets-both old mid new xs ys first last = record {
  app = last.app ∙ ap (λ app. with_options app ys) first.app ∙ with-both (app_of old) xs ys;
  globals = last.globals ∙ first.globals;
}

-- a command of its own options, below a program
pub gets-command : (old start sub new : Command) (name : List ℕ) (rules : List Rule) → app_of start ≡ new_app name → (out-Command start).has_globals ≡ false → GetsOptions start rules sub → AddsSubcommand old sub new →
    GetsCommand old (command_of name rules) new
gets-command old start sub new name rules is local gets adds =
    let none : (out-Command sub).has_globals ≡ false = gets.globals ∙ local in
    record {
      app = adds.shape none ∙ ap (λ (app : App). with_subcommand (app_of old) app.top) (gets.app ∙ ap (λ (app : App). with_options app rules) is);
      globals = adds.globals ∙ rw none (or-none (out-Command old).has_globals);
    }

-- options of which help shows this: none more
pub offers-none : (old : List Arg) → Offers old [] old
offers-none old = record { all = sym (append-nil (map offered old)) }

-- one more
pub offers-one : (old mid new : List Arg) (more : List Offered) (option : Arg) (one : Offered) → Offers old more mid → new ≡ mid ++ (option ∷ []) → offered option ≡ one → Offers old (more ++ (one ∷ [])) new
offers-one old mid new more option one first is same = record {
  all =
      ap (map offered) is
      ∙ map-append offered mid (option ∷ [])
      ∙ ap₂ (λ (m : List Offered) (o : Offered). m ++ (o ∷ [])) first.all same
      ∙ append_assoc (map offered old) more (one ∷ []);
}

pub offers-valued : (old mid new : List Arg) (more : List Offered) (option : Arg) (rule : Rule) (value help : List ℕ) → Offers old more mid → new ≡ mid ++ (option ∷ []) → rule_of option ≡ rule →
    option.global ≡ false → IsShown value help option → Offers old (more ++ (valued rule value help ∷ [])) new
offers-valued old mid new more option rule value help first is takes alone shown =
    offers-one old mid new more option (valued rule value help) first is (rw (takes, alone, shown.value_is, shown.help_is) refl)

-- one more without a value
pub offers-unvalued : (old mid new : List Arg) (more : List Offered) (option : Arg) (rule : Rule) (help : List ℕ) → Offers old more mid → new ≡ mid ++ (option ∷ []) → rule_of option ≡ rule →
    option.global ≡ false → items_of option.val_names ≡ [] → option_map (λ t. t.now) option.help ≡ Some help → Offers old (more ++ (unvalued rule help ∷ [])) new
offers-unvalued old mid new more option rule help first is takes alone bare says =
    offers-one old mid new more option (unvalued rule help) first is (rw (takes, alone, bare, says) refl)

-- one more of a table
pub number-is : (option : Arg) (row : NumberOption) → rule_of option ≡ numbered row → option.global ≡ false → items_of option.val_names ≡ row.1 ∷ [] → option.help ≡ Some row.2 →
    offered option ≡ number_offered row
number-is option row takes alone value says = rw (takes, alone, value, says) refl

pub flag-is : (option : Arg) (row : FlagOption) → rule_of option ≡ flagged row → option.global ≡ false → items_of option.val_names ≡ [] → option.help ≡ Some row.1 → offered option ≡ flag_offered row
flag-is option row takes alone bare says = rw (takes, alone, bare, says) refl

-- some and then others
pub offers-both : (old mid new : List Arg) (xs ys : List Offered) → Offers old xs mid → Offers mid ys new → Offers old (xs ++ ys) new
offers-both old mid new xs ys first last = record { all = last.all ∙ ap (λ (m : List Offered). m ++ ys) first.all ∙ append_assoc (map offered old) xs ys }

both-alone : (b c : Bool) → (not b && c) ≡ true → (b ≡ false) × (c ≡ true)
both-alone false c is = (refl, is)
both-alone true c is = absurd (cc is)

-- a command gets options in turn, each for itself alone
pub gets-in-turn : (old : Command) (options : List Arg) (new : Command) → AddsInTurn AddsArg old options new → all_alone (map offered options) ≡ true →
    GetsOptions old (map (λ (o : Offered). o.rule) (map offered options)) new
gets-in-turn old [] new is alone = subst (λ (made : Command). GetsOptions old [] made) is (gets-none old)
gets-in-turn old (option ∷ options) new (mid, adds, rest) alone =
    let each = both-alone option.global (all_alone (map offered options)) alone in
    gets-both old mid new (rule_of option ∷ []) (map (λ (o : Offered). o.rule) (map offered options))
    (gets-more old old mid [] option (rule_of option) (gets-none old) adds each.0 refl) (gets-in-turn mid options new rest each.1)

-- an offered command, below a program
pub gets-offered : (old sub new : Command) (made : OfferedCommand) (name about faults : List ℕ) (options : List Offered) → IsOffered name about faults options made →
    AddsInTurn AddsArg made.bare made.options.items sub → AddsSubcommand old sub new → GetsCommand old (command_of name (map (λ (o : Offered). o.rule) options)) new
gets-offered old sub new made name about faults options is turn adds =
    let alone : all_alone (map offered made.options.items) ≡ true = ap all_alone is.options_are ∙ is.alone in
    let gets = gets-in-turn made.bare made.options.items sub turn alone in
    gets-command old made.bare sub new name (map (λ (o : Offered). o.rule) options) is.app is.local
    (subst (λ (os : List Offered). GetsOptions made.bare (map (λ (o : Offered). o.rule) os) sub) is.options_are gets) adds

pub none-of-zero : {A : Type 0} (xs : List A) → length xs ≡ 0 → xs ≡ []
none-of-zero [] none = refl
none-of-zero (x ∷ xs) none = absurd (cc none)
