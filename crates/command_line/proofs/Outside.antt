-- What is written of an option whose number is outside its range.
use Rattle.std.proofs.Common.{◌≡◌, Bool, true, false, ℕ, List, Bor, Option, Some, None, option_map, codes, ap, ap₂, refl, subst, sym, unwrap_or}
use Rattle.std.specs.Fmt.{HasWritten, IsPlainFormatter}
use Rattle.std.specs.declared.fmt.Formatter.{Formatter}
use Rattle.clap.specs.declared.parser.matches.Found.{Found}
use Rattle.clap.specs.Words.{matched_of, raw_values}
use Rattle.commands.specs.declared.numbers.NumberWords.{NumberWords}
use Rattle.commands.specs.declared.outside.Ranged.{Ranged}
use Rattle.commands.specs.declared.pool.PoolWords.{PoolWords}
use Rattle.commands.specs.Defaults.{numbers_of}
use Rattle.commands.specs.Pools.{pool_of}
use Rattle.commands.specs.Ranges.{outside_of}
use Rattle.command_line.specs.Explanations.{WritesOutside}
use Rattle.command_line.specs.SettingsWords.{listing_words, outside, settings_words, words_outside}
use Rattle.command_line.specs.Words.{AreNumberWords, ArePoolWords}
use Rattle.command_line.proofs.Numbers.{numbers-are, pool-is}

pub outside-is : (found : Found) (numbers : NumberWords) (pool : PoolWords) → AreNumberWords found numbers → ArePoolWords found pool → outside_of (numbers_of numbers) (pool_of pool) ≡ outside found
unfolding outside
outside-is found numbers pool are is = ap₂ (λ n p. outside_of (numbers_of n) (pool_of p)) (numbers-are found numbers are) (pool-is found pool is)

module _ {W : Type 0} (took : W → List ℕ → W → Type 0) (found : Found) where
  -- one is told
  pub some-outside : (o : Option Ranged) (told : Bool) (f g : Formatter W) → o ≡ outside found → WritesOutside took o told f g → told ≡ true → IsPlainFormatter f → HasWritten took f (settings_words found) g
  unfolding settings_words
  some-outside (Some option) told f g same wrote one plain = subst (λ o. HasWritten took f (words_outside o found) g) same (wrote.1 plain)
  some-outside None told f g same wrote one plain = absurd (cc (one, wrote.0))

  -- none is: nothing was written yet
  pub none-outside : (o : Option Ranged) (told : Bool) (f g : Formatter W) → o ≡ outside found → WritesOutside took o told f g → told ≡ false
      → (g ≡ f) × (settings_words found ≡ listing_words (option_map raw_values (matched_of found (codes "entries"))) found)
  unfolding settings_words
  none-outside (Some option) told f g same wrote none = absurd (cc (none, wrote.0))
  none-outside None told f g same wrote none = (wrote.1, ap (λ o. words_outside o found) (sym same))

pub unwrap-now : (o : Option (Bor (List ℕ))) (d : Bor (List ℕ)) → (unwrap_or o d).now ≡ unwrap_or (option_map (λ t. t.now) o) d.now
unwrap-now None d = refl
unwrap-now (Some t) d = refl
