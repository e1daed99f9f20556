-- What a thread told of an input, and what is left of it.
use Rattle.std.proofs.Common.{◌≡◌, ◌<◌, ◌≤◌, ◌⊎◌, inl, inr, not, ◌++◌, ◌∷◌, [], ℕ, List, length, drop, true, false, Option, ◌&&◌, Bool, arith, sym, ap, ◌∙◌, append_assoc, append-nil, refl, subst, ap₂, Vec, Global}
use Rattle.std.proofs.lemmas.List.{length-append}
use Rattle.std.proofs.lemmas.Bool.{and_from, and_parts}
use Rattle.std.specs.Io.KnownBytes.{Consumes, IsAtEnd, Keeps, prepend_known}
use Rattle.std.specs.Option.{option_map}
use Rattle.read_ahead.specs.declared.message.Message.{Message}
use Rattle.read_ahead.specs.declared.opening.Openness.{Openness}
use Rattle.read_ahead.specs.declared.message.Message.TheVariants.{Asked, Opened, Bytes, End, Failed, Refused}
use Rattle.read_ahead.specs.Messages.{bytes_of, is_last, joined, goes_on, held, untold, Asks, AsksFor, IsFirst, RefusedBy, MayRefuse, IsOpen, LeavesOut, Tells, MayTell, MayEnd}
use Rattle.read_ahead.specs.Sources.{StandsByLast, TakesNext, going_by}
use Rattle.read_ahead.specs.declared.incoming.Phase.{Phase}
use Rattle.read_ahead.specs.declared.incoming.Phase.TheVariants as phase
use Rattle.read_ahead.proofs.Streams.{consumes_kept, consumes_none, consumes_on, begins, whole, left_front, none_left, prepend_nil, drop_used}

and_none : (b : Bool) → (b && false) ≡ false
and_none true = refl
and_none false = refl

module _ {I : Type 0} where
  pub joined_snoc : (told : List (Message I)) (x : Message I) → joined (told ++ x ∷ []) ≡ joined told ++ bytes_of x
  joined_snoc [] x = append-nil (bytes_of x)
  joined_snoc (y ∷ told) x =
      ap (λ (bs : List ℕ). bytes_of y ++ bs) (joined_snoc told x) ∙ sym (append_assoc (bytes_of y) (joined told) (bytes_of x))

  pub goes_on_snoc : (told : List (Message I)) (x : Message I) → goes_on told ≡ true → is_last x ≡ false → goes_on (told ++ x ∷ []) ≡ true
  goes_on_snoc [] x on more = and_from (not (is_last x)) true (ap not more) refl
  goes_on_snoc (y ∷ told) x on more = let both = and_parts (not (is_last y)) (goes_on told) on in and_from (not (is_last y)) (goes_on (told ++ x ∷ [])) both.0 (goes_on_snoc told x both.1 more)

  -- nothing goes on behind an end, a failure or a refusal
  pub ends_snoc : (told : List (Message I)) (x : Message I) → is_last x ≡ true → goes_on (told ++ x ∷ []) ≡ false
  ends_snoc [] x last = ap (λ (b : Bool). not b && true) last
  ends_snoc (y ∷ told) x last = ap (λ (b : Bool). not (is_last y) && b) (ends_snoc told x last) ∙ and_none (not (is_last y))

  pub held_snoc : (holds : I → Option (List ℕ)) → (told : List (Message I)) (x : Message I) → 0 < length told → held holds (told ++ x ∷ []) ≡ held holds told
  held_snoc holds [] x some = absurd (omega arith)
  held_snoc holds (y ∷ told) x some = refl

  pub open_snoc : (told : List (Message I)) (x : Message I) → 0 < length told → goes_on told ≡ true → is_last x ≡ false → IsOpen (told ++ x ∷ [])
  open_snoc told x some on more = record {
    some = omega (arith, length-append told (x ∷ []));
    going = goes_on_snoc told x on more;
  }

  -- an input that was asked for may be refused where it may refuse
  refused_by : (refuses : I → Type 0) (message : Message I) (input : I) → AsksFor input message → refuses input → RefusedBy refuses message
  refused_by refuses (Asked s n) input same may = subst refuses (sym same) may
  refused_by refuses (Opened o) input same may = absurd same
  refused_by refuses (Bytes block) input same may = absurd same
  refused_by refuses End input same may = absurd same
  refused_by refuses Failed input same may = absurd same
  refused_by refuses (Refused r) input same may = absurd same

  pub may_refuse : (refuses : I → Type 0) (told : List (Message I)) (input : I) → IsFirst input told → refuses input → MayRefuse refuses told
  may_refuse refuses [] input first may = absurd first
  may_refuse refuses (message ∷ more) input first may = refused_by refuses message input first may

  -- an input that was asked for is open, and nothing of it was told
  pub tells_first : (holds : I → Option (List ℕ)) → (told : List (Message I)) (number : ℕ) (input : I) (rest : Option (List ℕ)) (o : Openness) → Asks told number input → rest ≡ holds input → Tells holds (told ++ Opened o ∷ []) rest
  tells_first holds told number input rest o asks is = let some : 0 < length told = omega (arith, asks.one) in record {
    opened = open_snoc told (Opened o) some asks.going refl;
    all = rw (held_snoc holds told (Opened o) some, joined_snoc told (Opened o), asks.none, asks.same holds, is) (consumes_none (holds input));
  }

  -- what was told, and a read's bytes behind it
  pub tells_more : (holds : I → Option (List ℕ)) → (told : List (Message I)) (x : Message I) (old new : Option (List ℕ)) → Tells holds told old → is_last x ≡ false → Consumes old new (bytes_of x) → Tells holds (told ++ x ∷ []) new
  tells_more holds told x old new t more gave = let some : 0 < length told = omega (arith, t.opened.some) in record {
    opened = open_snoc told x some t.opened.going more;
    all = rw (held_snoc holds told x some, joined_snoc told x) (consumes_on (held holds told) old new (joined told) (bytes_of x) t.all gave);
  }

  -- a read that failed loses nothing
  pub tells_kept : (holds : I → Option (List ℕ)) → (told : List (Message I)) (old new : Option (List ℕ)) → Tells holds told old → Keeps old new → Tells holds told new
  tells_kept holds told old new t kept = record { opened = t.opened; all = consumes_kept (held holds told) old new (joined told) t.all kept }

  -- a read's bytes that aren't told
  pub leaves_out : (holds : I → Option (List ℕ)) → (told : List (Message I)) (block : List ℕ) (old new : Option (List ℕ)) → Tells holds told old → 0 < length block → Consumes old new block → LeavesOut holds told new
  leaves_out holds told block old new t some gave = record { block = block; some = some; taken = consumes_on (held holds told) old new (joined told) block t.all gave }

  -- the next block of what is told may follow
  pub may_tell : (holds : I → Option (List ℕ)) → (told : List (Message I)) (block : List ℕ) (old new : Option (List ℕ)) → Tells holds told old → 0 < length block → Consumes old new block → MayTell holds told block
  may_tell holds told block old new t some gave = record {
    opened = t.opened;
    some = some;
    next = begins (held holds told) new (joined told ++ block) (consumes_on (held holds told) old new (joined told) block t.all gave);
  }

  pub may_end : (holds : I → Option (List ℕ)) → (told : List (Message I)) (rest : Option (List ℕ)) → Tells holds told rest → IsAtEnd rest → MayEnd holds told
  may_end holds told rest t end = record { opened = t.opened; all = whole (held holds told) rest (joined told) t.all end }

  -- a block that was told is next of what was left
  untold_bytes : (holds : I → Option (List ℕ)) → (told : List (Message I)) (block : Vec ℕ Global) → MayTell holds told block.items → prepend_known block.items (untold holds (told ++ Bytes block ∷ [])) ≡ untold holds told
  untold_bytes holds told block may =
      ap₂ (λ (start : Option (List ℕ)) (bs : List ℕ). prepend_known block.items (option_map (λ (zs : List ℕ). drop (length bs) zs) start)) (held_snoc holds told (Bytes block) (omega (arith, may.opened.some))) (joined_snoc told (Bytes block))
      ∙ left_front (held holds told) (joined told) block.items may.next

  -- what has no bytes leaves as much
  untold_plain : (holds : I → Option (List ℕ)) → (told : List (Message I)) (x : Message I) → 0 < length told → bytes_of x ≡ [] → untold holds (told ++ x ∷ []) ≡ untold holds told
  untold_plain holds told x some none =
      ap₂ (λ (start : Option (List ℕ)) (bs : List ℕ). option_map (λ (zs : List ℕ). drop (length bs) zs) start) (held_snoc holds told x some) (joined_snoc told x ∙ ap (λ (bs : List ℕ). joined told ++ bs) none ∙ append-nil (joined told))

  -- at the end nothing is left
  untold_end : (holds : I → Option (List ℕ)) → (told : List (Message I)) → MayEnd holds told → IsAtEnd (untold holds (told ++ End ∷ []))
  untold_end holds told may = subst IsAtEnd (sym (untold_plain holds told End (omega (arith, may.opened.some)) refl)) (none_left (held holds told) (joined told) may.all)

  -- behind a block that was used up, the next one: as much is left
  pub next_block : (holds : I → Option (List ℕ)) → (told more : List (Message I)) (front : List ℕ) (at : ℕ) (block : Vec ℕ Global) → more ≡ told ++ Bytes block ∷ [] → MayTell holds told block.items → at ≡ length front → prepend_known block.items (untold holds more) ≡ prepend_known (drop at front) (untold holds told)
  next_block holds told more front at block order may used =
      ap (λ (l : List (Message I)). prepend_known block.items (untold holds l)) order
      ∙ untold_bytes holds told block may
      ∙ sym (prepend_nil (untold holds told))
      ∙ ap (λ (l : List ℕ). prepend_known l (untold holds told)) (sym (drop_used at front used))

  -- what has no bytes leaves as much
  pub next_plain : (holds : I → Option (List ℕ)) → (told more : List (Message I)) (x : Message I) (rest : List ℕ) → more ≡ told ++ x ∷ [] → 0 < length told → bytes_of x ≡ [] → prepend_known rest (untold holds more) ≡ prepend_known rest (untold holds told)
  next_plain holds told more x rest order some none = ap (prepend_known rest) (ap (untold holds) order ∙ untold_plain holds told x some none)

  pub next_end : (holds : I → Option (List ℕ)) → (told more : List (Message I)) → more ≡ told ++ End ∷ [] → MayEnd holds told → IsAtEnd (untold holds more)
  next_end holds told more order may = subst (λ (l : List (Message I)). IsAtEnd (untold holds l)) (sym order) (untold_end holds told may)

  pub some_more : (told more : List (Message I)) (x : Message I) → more ≡ told ++ x ∷ [] → 0 < length more
  some_more told more x order = omega (arith, ap length order, length-append told (x ∷ []))

  -- what was told last, by another name
  pub in_order : (told more : List (Message I)) (message x : Message I) → more ≡ told ++ message ∷ [] → message ≡ x → more ≡ told ++ x ∷ []
  in_order told more message x order is = order ∙ ap (λ (y : Message I). told ++ y ∷ []) is

  -- behind those that were taken, the next one, or none
  pub stands_on : (a b c : List (Message I)) (p q r : Phase) → StandsByLast a b p q → ((c ≡ b) × (r ≡ q)) ⊎ TakesNext going_by b c r → StandsByLast a c p r
  stands_on a b c p q r (inl none) (inl same) = inl (same.0 ∙ none.0, same.1 ∙ none.1)
  stands_on a b c p q r (inl none) (inr next) =
      inr ([], (next.0, next.1 ∙ ap (λ (l : List (Message I)). l ++ next.0 ∷ []) (none.0 ∙ sym (append-nil a)), next.2))
  stands_on a b c p q r (inr some) (inl same) = inr (some.0, (some.1.0, same.0 ∙ some.1.1, same.1 ∙ some.1.2))
  stands_on a b c p q r (inr some) (inr next) =
      inr (some.0 ++ some.1.0 ∷ [], (next.0, next.1 ∙ ap (λ (l : List (Message I)). l ++ next.0 ∷ []) (some.1.1 ∙ append_assoc a some.0 (some.1.0 ∷ [])), next.2))

  -- or more was taken, of a list that is no shorter
  or_more : (a b c : List (Message I)) (P : Type 0) → c ≡ b → P ⊎ (length a < length b) → P ⊎ (length a < length c)
  or_more a b c P is (inl earlier) = inl earlier
  or_more a b c P is (inr more) = inr (omega (arith, ap length is, more))

  -- what has failed did so before, or more was taken
  pub failed_on : (a b c : List (Message I)) (p q r : Phase) → length a ≤ length b → (q ≡ phase.Failed → (p ≡ phase.Failed) ⊎ (length a < length b))
      → StandsByLast b c q r → r ≡ phase.Failed → (p ≡ phase.Failed) ⊎ (length a < length c)
  failed_on a b c p q r grows first (inl same) failed = or_more a b c (p ≡ phase.Failed) same.0 (first (sym same.1 ∙ failed))
  failed_on a b c p q r grows first (inr some) failed =
      inr (omega (arith, grows, ap length some.1.1, length-append (b ++ some.0) (some.1.0 ∷ []), length-append b some.0))
