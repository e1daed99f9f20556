use Rattle.std.proofs.lemmas.List.Elements.{All-from_get_or}
use Rattle.ghost_list.specs.Bytes.{IsByte}
use Rattle.ladder_laws.proofs.byte_names.are_bytes.Goals as goal

pub returns : goal.returns
returns c = All-from_get_or IsByte c.args.bytes.now 0 (λ i lt. (c.type_inv.bytes i).fits)
