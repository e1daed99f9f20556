-- What contracts see of a source and of an outlet.
use Rattle.std.specs.Prelude.{◌≡◌, ℕ, List, Option, Bool, true}
use Rattle.item_io.specs.Items.{ItemValue}
use Rattle.item_io.specs.Outlets.{Held}

-- a source: the bytes that are left, where it tells them, how many reads gave a byte, how many failed, and whether it was left and
-- not read since
pub record SourceView (S : Type 0) : Type 1 where
  pub left : S → Option (List ℕ)
  pub reads : S → ℕ
  pub failures : S → ℕ
  pub is_left : S → Bool

abbrev pub source_view : {S : Type 0} → (S → Option (List ℕ)) → (S → ℕ) → (S → ℕ) → (S → Bool) → SourceView S
source_view l r f b = record { left = l; reads = r; failures = f; is_left = b }

-- a source was left: it has the same bytes and counts
pub record Leaves {S : Type 0} (input : SourceView S) (old new : S) : Type 0 where
  pub is_left : input.is_left new ≡ true
  pub bytes : input.left new ≡ input.left old
  pub reads : input.reads new ≡ input.reads old
  pub failures : input.failures new ≡ input.failures old

-- An outlet: what it holds, and with it the item that the first failed put was given, and how many puts failed. Behind what
-- it holds then there may be a prefix of that item, and of no other. One that can't tell what became of an item holds nothing.
pub record OutletView (O : Type 0) : Type 1 where
  pub holds : O → Held → Type 0
  pub broken : O → Held → ItemValue → Type 0
  pub failures : O → ℕ

abbrev pub outlet_view : {O : Type 0} → (O → Held → Type 0) → (O → Held → ItemValue → Type 0) → (O → ℕ) → OutletView O
outlet_view h b f = record { holds = h; broken = b; failures = f }
