-- Numbers outside their ranges make no settings within their limits.
use Rattle.std.proofs.Common.{◌≡◌, ◌∙◌, ℕ, suc, ◌≤◌, List, [], ◌∷◌, Decides, IfSome, Option, None, Some, Bool, true, false, not, is_some, length, ap, refl, sym, subst, arith, lit≤}
use Rattle.std.proofs.lemmas.Bool.{false≢true}
use Rattle.std.proofs.lemmas.List.{length-map}
use Rattle.std.specs.Option.{unwrap_or}
use Rattle.ladder_items.specs.Ladder.{Ladder, RenditionValue, IsAllowed, IsCutAllowed, IsProgram}
use Rattle.limits.specs.declared.TheConstants.{LEAST, MOST_PROGRAM, MOST_RENDITIONS, MOST_WINDOW}
use Rattle.commands.specs.declared.numbers.Numbers.{Numbers}
use Rattle.commands.specs.declared.outside.Ranged.{Ranged}
use Rattle.commands.specs.declared.outside.Ranged.TheVariants.{Target, Segment, Window, Frame, Gap, Most, Program, Workers, Queue, Batch, Stall, Ahead}
use Rattle.commands.specs.declared.pool.Pool.{Pool}
use Rattle.commands.specs.Entries.{Entry, entry_of}
use Rattle.commands.specs.LadderOptions.{Asked, AreRenditionsOf, HasTurns, IsOutside, entry_words}
use Rattle.commands.specs.Pools.{IsPool}
use Rattle.commands.specs.Ranges.{AreNumbersWithin, IsUpTo, IsWithin}
use Rattle.commands.specs.Settings.{Words, AreGoodWords, AreOutside, FitsCut, cut_of}

-- numbers of a pool that are within their ranges
abbrev some_pool : Pool
some_pool = record { workers = 4; queue = 16; batch = None; stall = None; ahead = None }

-- an option isn't outside its range whatever the pool's numbers are, where a packager's numbers aren't
pub none-outside : (option : Ranged) (numbers : Numbers) → AreNumbersWithin numbers → ((pool : Pool) → ¬ IsWithin option numbers pool) → ⊥
none-outside Target numbers are deny = deny some_pool (are.before some_pool).0.0.0.0.0.0
none-outside Segment numbers are deny = deny some_pool (are.before some_pool).0.0.0.0.0.1
none-outside Window numbers are deny = deny some_pool (are.before some_pool).0.0.0.0.1
none-outside Frame numbers are deny = deny some_pool (are.before some_pool).0.0.0.1
none-outside Gap numbers are deny = deny some_pool (are.before some_pool).0.0.1
none-outside Most numbers are deny = deny some_pool (are.before some_pool).0.1
none-outside Program numbers are deny = deny some_pool (are.before some_pool).1
none-outside Workers numbers are deny = deny some_pool (lit≤ tt, lit≤ tt)
none-outside Queue numbers are deny = deny some_pool (lit≤ tt, lit≤ tt)
none-outside Batch numbers are deny = deny some_pool (lit≤ tt, lit≤ tt)
none-outside Stall numbers are deny = deny some_pool (lit≤ tt, lit≤ tt)
none-outside Ahead numbers are deny = deny some_pool (lit≤ tt, lit≤ tt)

-- that none is found outside its range decides it
pub decides-within : (found : Option Ranged) (is : Bool) (numbers : Numbers) → is_some found ≡ not is → (found ≡ None → AreNumbersWithin numbers)
    → IfSome found (λ option. (pool : Pool) → ¬ IsWithin option numbers pool) → Decides is (AreNumbersWithin numbers)
decides-within None true numbers same none some = (λ _. none refl, λ _. refl)
decides-within None false numbers same none some = absurd (false≢true same)
decides-within (Some option) true numbers same none some = absurd (false≢true (sym same))
decides-within (Some option) false numbers same none some = (λ is. absurd (false≢true is), λ are. absurd (none-outside option numbers are some))

program-fits : (p : Option ℕ) → unwrap_or p LEAST ≤ MOST_PROGRAM → unwrap_or p 0 ≤ MOST_PROGRAM
program-fits None few = lit≤ tt
program-fits (Some p) few = few

-- a cutter's settings have room for numbers within their ranges
pub fits : (numbers : Numbers) → AreNumbersWithin numbers → FitsCut numbers
fits numbers are =
    let within = are.before some_pool in
    let segment = within.0.0.0.0.0.1.1 in
    let target = within.0.0.0.0.0.0.1 in
    record { program = program-fits numbers.program within.1.1; segment = omega (arith, segment, target) }

program-allowed : (p : Option ℕ) → IsProgram p → IsUpTo (unwrap_or p LEAST) MOST_PROGRAM
program-allowed None is = (lit≤ tt, lit≤ tt)
program-allowed (Some p) is = is

numbers-allowed : (numbers : Numbers) (made : Ladder) → made.cut ≡ cut_of numbers → made.window ≡ numbers.window → IsAllowed made → AreNumbersWithin numbers
numbers-allowed numbers made cut_is window_is allowed =
    let cut : IsCutAllowed (cut_of numbers) = subst IsCutAllowed cut_is allowed.within.cut in
    let window : IsUpTo numbers.window MOST_WINDOW = subst (λ n. IsUpTo n MOST_WINDOW) window_is allowed.within.window in
    let least : LEAST ≤ numbers.segment = let some = cut.segment.0 in omega (arith, some) in
    let most : numbers.segment ≤ numbers.target = let few = cut.segment.1 in omega (arith, few) in
    record { before = λ pool. ((((((cut.target, (least, most)), window), cut.frame), cut.gap), cut.most), program-allowed numbers.program cut.program) }

-- one rendition's numbers outside their ranges
pub outside-one : (words : Words) (numbers : Numbers) → AreGoodWords words numbers.period → ¬ AreNumbersWithin numbers → AreOutside words numbers
outside-one words numbers good deny = record {
  good = good;
  outside = λ keys made is fits allowed. deny (numbers-allowed numbers made is.cut_is is.window_is allowed);
}

as-many : (words : Entry → Words) (turns : ℕ) (entries : List Entry) (shares : List (List (List ℕ))) (made : List RenditionValue)
    → AreRenditionsOf words turns entries shares made → length made ≡ length entries
as-many words turns [] [] [] are = refl
as-many words turns [] [] (m ∷ made) are = absurd are
as-many words turns [] (s ∷ shares) made are = absurd are
as-many words turns (e ∷ entries) [] made are = absurd are
as-many words turns (e ∷ entries) (s ∷ shares) [] are = absurd are
as-many words turns (e ∷ entries) (s ∷ shares) (m ∷ made) are = ap suc (as-many words turns entries shares made are.1)

-- a ladder's numbers, or that of its renditions
pub outside-asked : (asked : Asked) → HasTurns asked → ¬ (IsUpTo (length asked.entries) MOST_RENDITIONS × AreNumbersWithin asked.numbers × IsPool asked.pool) → IsOutside asked
outside-asked asked turns deny = record {
  turns = turns;
  outside = λ keys made is within.
      let many : length made.renditions ≡ length asked.entries
      = as-many (entry_words asked.salt asked.event) asked.numbers.period _ is.renditions_are.shares made.renditions is.renditions_are.each ∙ length-map asked.entries entry_of in
      deny (
        subst (λ n. IsUpTo n MOST_RENDITIONS) many within.allowed.within.renditions,
        numbers-allowed asked.numbers made is.cut_is is.window_is within.allowed,
        within.pool_fits,
      );
}
