-- What a source that lends its next bytes does.
use Rattle.std.specs.Prelude.{◌≡◌, ℕ, ◌+◌, ◌<◌, List, length, false, IfOk, OnErr}
use Rattle.std.specs.declared.result.Result.{Result}
use Rattle.std.specs.Io.KnownBytes.{Consumes, IsAtEnd, Keeps}
use Rattle.item_io.specs.Views.{SourceView}
use denote.Ref.{Bor}

-- it gave this piece, where there was room for so many bytes: none only at its end, or where there was no room
pub record Gives {S : Type 0} (input : SourceView S) (room : ℕ) (old new : S) (piece : List ℕ) : Type 0 where
  pub gave : Consumes (input.left old) (input.left new) piece
  pub end : length piece ≡ 0 → 0 < room → IsAtEnd (input.left new)
  pub counted : 0 < length piece → input.reads new ≡ input.reads old + 1
  pub uncounted : length piece ≡ 0 → input.reads new ≡ input.reads old
  pub ok : input.failures new ≡ input.failures old

-- it failed, and took none
pub record Fails {S : Type 0} (input : SourceView S) (old new : S) : Type 0 where
  pub kept : Keeps (input.left old) (input.left new)
  pub same_reads : input.reads new ≡ input.reads old
  pub failed : input.failures new ≡ input.failures old + 1

-- how a source stands once what it lent is given back
abbrev pub HasLent : {S E : Type 0} → SourceView S → ℕ → S → S → Result (Bor (List ℕ)) E → Type 0
HasLent input room old new result = IfOk result (λ piece. Gives input room old new piece.now) × OnErr result (Fails input old new) × (input.is_left new ≡ false)
