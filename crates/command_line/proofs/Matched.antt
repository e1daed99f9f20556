-- The command that clap matched.
use Rattle.std.proofs.Common.{◌≡◌, true, List, Option, Some, None, option_map, codes, inl, inr, refl, subst}
use Rattle.clap.specs.Words.{Row, Text, is_simple, is_simple_and_free, subcommand_name_of, subcommand_rows, subcommand_rows_of}
use Rattle.clap.specs.declared.parser.matches.ArgMatches.{ArgMatches}
use Rattle.clap.specs.declared.parser.matches.ArgMatches.TheViews.{out-ArgMatches, out-SubCommand}
use Rattle.clap.specs.declared.parser.matches.SubCommand.{SubCommand}
use Rattle.clap.proofs.OnLiterals.{clap_on_literals}
use Rattle.std.specs.Box.{box_value}
use Rattle.std.specs.Prelude.{Box}
use Rattle.command_line.specs.Jobs.{IsCommand}
use Rattle.command_line.specs.Options.{tshls}

one_command : {Z : Type 0} (sub : Option (Box SubCommand Z)) (seen name : Text) (rows : List Row) → seen ≡ name → Some seen ≡ option_map (λ b. (out-SubCommand (box_value b)).name.now) sub →
    Some rows ≡ option_map (λ p. p.1) (subcommand_rows sub) → subcommand_rows sub ≡ Some (name, rows)
one_command None seen name rows same is has = cc
one_command (Some b) seen name rows same is has = cc

-- its name and what was found for its options are those of one command
pub is_matched : (m : ArgMatches) (seen name : Text) (rows : List Row) → seen ≡ name → Some seen ≡ subcommand_name_of m → Some rows ≡ option_map (λ p. p.1) (subcommand_rows (out-ArgMatches m).subcommand) →
    subcommand_rows_of m ≡ Some (name, rows)
is_matched m seen name rows same is has = one_command (out-ArgMatches m).subcommand seen name rows same is has

-- another name is none of them
pub not_command : (matched : Option (Text × List Row)) (name : Text) (rows : List Row) → matched ≡ Some (name, rows) → (name ≡ codes "seal" → ⊥) → (name ≡ codes "open" → ⊥) → (name ≡ codes "one" → ⊥) →
    (name ≡ codes "pack" → ⊥) → (name ≡ codes "check" → ⊥) → IsCommand matched → ⊥
not_command matched name rows is no_seal no_open no_one no_pack no_check command = go (subst IsCommand is command)
  where
    go : IsCommand (Some (name, rows)) → ⊥
    go (inl e) = no_seal e
    go (inr (inl e)) = no_open e
    go (inr (inr (inl e))) = no_one e
    go (inr (inr (inr (inl e)))) = no_pack e
    go (inr (inr (inr (inr e)))) = no_check e

-- clap's rules tell what is matched of this program
pub tshls_is_simple : is_simple tshls ≡ true
unfolding clap_on_literals
tshls_is_simple = refl

-- .. and which refusals it has for words
pub tshls_is_free : is_simple_and_free tshls ≡ true
unfolding clap_on_literals
tshls_is_free = refl

-- where nothing was matched, no command was
pub nothing-matched : (matched : Option (Text × List Row)) → None ≡ option_map (λ p. p.1) matched → IsCommand matched → ⊥
nothing-matched None is command = command
nothing-matched (Some it) is command = cc
