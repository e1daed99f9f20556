use Rattle.std.proofs.Common.{◌≡◌, ◌∙◌, ◌++◌, ◌<◌, ◌^◌, ℕ, List, [], Some, Option, sym, arith, append-nil}
use Rattle.std.specs.Prelude.{IfSome}
use Rattle.std.specs.Fmt.{decimal}
use Rattle.std.proofs.lemmas.Option.{IfSome_then, none-some}
use Rattle.media_reading.proofs.Found.{read-nothing, read-refused, read-found, IsRead}
use Rattle.media_reading.proofs.numbers.read_tagged.Goals as goal

-- nothing stands behind the number
without_back : (line tag : List ℕ) (r : Option ℕ) → IfSome r (λ n. line ≡ tag ++ decimal n ++ []) → ((n : ℕ) → n < 2 ^ 64 → line ≡ tag ++ decimal n ++ [] → r ≡ Some n)
    → IsRead (λ n. tag ++ decimal n) line r
without_back line tag r found only = record {
  found = IfSome_then r found (λ n is. is ∙ append-nil (tag ++ decimal n));
  only = λ n small is. only n small (is ∙ sym (append-nil (tag ++ decimal n)));
}

pub returns-in_err-n : goal.returns-in_err-n
returns-in_err-n c =
    c.from_residual.ensures ∙ read-nothing _ c.args.line.now c.read_between.result c.args.bound (omega arith)
    (without_back c.args.line.now c.args.tag.now c.read_between.result c.read_between.ensures.found c.read_between.ensures.only) (λ n some. none-some n (sym c.in_err-n.was ∙ some))

pub returns-then-n-bound : goal.returns-then-n-bound
returns-then-n-bound c =
    read-refused _ c.args.line.now c.read_between.result c.args.bound c.in_ok-n.n (omega arith)
    (without_back c.args.line.now c.args.tag.now c.read_between.result c.read_between.ensures.found c.read_between.ensures.only) c.in_ok-n.was c.if-n-bound.true

pub returns : goal.returns
returns c =
    read-found _ c.args.line.now c.read_between.result c.args.bound c.in_ok-n.n (omega arith)
    (without_back c.args.line.now c.args.tag.now c.read_between.result c.read_between.ensures.found c.read_between.ensures.only) c.in_ok-n.was
    (c.in_ok-n.ensures.found ∙ append-nil (c.args.tag.now ++ decimal c.in_ok-n.n)) c.if-n-bound.false
