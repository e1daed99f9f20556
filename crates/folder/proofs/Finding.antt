-- What stands under a name in memory.
use Rattle.std.proofs.Common.{◌≡◌, ℕ, ◌+◌, ◌-◌, ◌<◌, List, [], ◌∷◌, ◌++◌, length, take, get_or, refl, sym, ap, ◌∙◌, arith}
use Rattle.std.proofs.lemmas.List.{take_more}
use Rattle.folder.specs.Moves.{Files, Move, moved, no_files, standing}
use Rattle.folder.specs.MemoryMoves.{memory_move, memory_moves}
use Rattle.folder.specs.declared.memory_move.MemoryMove.{MemoryMove}
use Rattle.folder.proofs.Kills.{standing-append}

memory-more : (moves : List MemoryMove) (m : MemoryMove) → memory_moves (moves ++ m ∷ []) ≡ memory_moves moves ++ memory_move m ∷ []
memory-more [] m = refl
memory-more (n ∷ moves) m = ap (λ (l : List Move). memory_move n ∷ l) (memory-more moves m)

-- behind one more move
pub standing-more : (moves : List MemoryMove) (m : MemoryMove) (name : List ℕ) →
    standing no_files (memory_moves (moves ++ m ∷ [])) name ≡ moved (standing no_files (memory_moves moves)) (memory_move m) name
standing-more moves m name =
    ap (λ (l : List Move). standing no_files l name) (memory-more moves m) ∙ ap (λ (f : Files). f name) (standing-append no_files (memory_moves moves) (memory_move m ∷ []))

-- one move further back
pub step-back : (moves : List MemoryMove) (done : ℕ) (m : MemoryMove) (name wanted : List ℕ) → done < length moves → m ≡ get_or moves (length moves - 1 - done) m →
    standing no_files (memory_moves moves) name ≡ standing no_files (memory_moves (take (length moves - done) moves)) wanted →
    standing no_files (memory_moves moves) name ≡ moved (standing no_files (memory_moves (take (length moves - (done + 1)) moves))) (memory_move m) wanted
step-back moves done m name wanted within at so_far =
    let k = length moves - 1 - done in
    let one_more : length moves - done ≡ k + 1 = omega (arith, within) in
    let below : k < length moves = omega (arith, within) in
    let same : k ≡ length moves - (done + 1) = omega arith in
    let split : take (length moves - done) moves ≡ take k moves ++ m ∷ [] =
    ap (λ (n : ℕ). take n moves) one_more ∙ take_more moves k m below ∙ ap (λ (x : MemoryMove). take k moves ++ x ∷ []) (sym at) in
    so_far ∙ ap (λ (l : List MemoryMove). standing no_files (memory_moves l) wanted) split ∙ standing-more (take k moves) m wanted
    ∙ ap (λ (n : ℕ). moved (standing no_files (memory_moves (take n moves))) (memory_move m) wanted) same
