use Rattle.std.proofs.Common.{◌≡◌, ◌∙◌, ◌++◌, ap, length, map, take, drop, rules, subst, sym}
use Rattle.std.proofs.Math.Seq.{take-append_seam}
use Rattle.commands.specs.KeyFiles.{TellKeys, texts_of, told}
use Rattle.commands.proofs.key_list.filled.Goals as goal

pub returns-clause-ok : goal.returns-clause-ok
returns-clause-ok g c =
    let many : c.args.room.len ≡ length c.fill_keys.new.keys = search rules in
    let front : take c.args.room.len (c.fill_keys.new.keys ++ drop (length c.fill_keys.new.keys) c.args.room.items) ≡ c.fill_keys.new.keys
    = ap (λ n. take n (c.fill_keys.new.keys ++ drop (length c.fill_keys.new.keys) c.args.room.items)) many ∙ take-append_seam c.fill_keys.new.keys _ in
    subst (TellKeys (g.F.FileReader.gives c.args.files.now) (texts_of (map told c.args.words.now))) (sym front) c.in_ok-fill_keys.ensures.ok
