-- The first line of an item.
use Rattle.std.proofs.Common.{ℕ, List, [], ◌++◌, ◌<◌, length, length-append, refl, arith}
use Rattle.std.specs.Prelude.{codes, Option}
use Rattle.std.specs.Fmt.{decimal}
use Rattle.std.proofs.KnownBytes.{Appends-nil}
use Rattle.item_io.specs.Items.{ItemValue}
use Rattle.item_io.specs.ItemLines.{item_kind, item_uri, item_size, item_head}
use Rattle.item_io.specs.Writing.{WritesFewer}

-- it has its end, at least
head-some : (item : ItemValue) → 0 < length (item_head item)
unfolding item_head
head-some item =
    let whole = length-append (item_kind item ++ codes " " ++ item_uri item ++ codes " " ++ decimal (item_size item)) (codes "\n") in
    omega (arith, whole)

-- nothing of it is written yet
pub head-unwritten : (held : Option (List ℕ)) (item : ItemValue) → WritesFewer held held (item_head item)
head-unwritten held item =
    record { front = []; rest = item_head item; whole = refl; some = head-some item; written = Appends-nil held }
