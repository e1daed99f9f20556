-- Four more blocks of an inverse chain.
use Rattle.std.proofs.Common.{◌≡◌, ℕ, ◌+◌, ◌<◌, List, [], ◌++◌, length, drop, get_or, ap, ◌∙◌, arith}
use Rattle.std.specs.List.{concat}
use Rattle.aes_cbc.specs.Block.{xor_bytes}
use Rattle.aes_cbc.specs.InverseCipher.{inv_aes}
use Rattle.aes_cbc.specs.Opening.{inv_cbc}
use Rattle.aes_cbc.proofs.ChainInverse.{inv_cbc_more}

-- the block at i is appended
pub one_more : (k before : List ℕ) (cs : List (List ℕ)) (i j : ℕ) (done next all : List ℕ) → i < length cs → j ≡ i + 1
    → all ≡ done ++ next → next ≡ xor_bytes (inv_aes k (get_or cs i [])) before
    → all ++ concat (inv_cbc k (get_or cs i []) (drop j cs)) ≡ done ++ concat (inv_cbc k before (drop i cs))
one_more k before cs i j done next all lt after appended is =
    ap (λ x. x ++ concat (inv_cbc k (get_or cs i []) (drop j cs))) appended
    ∙ ap (λ m. (done ++ next) ++ concat (inv_cbc k (get_or cs i []) (drop m cs))) after
    ∙ inv_cbc_more k before cs i done next lt is

-- those from n on
pub four_more : (k before : List ℕ) (cs : List (List ℕ)) (n m : ℕ) (t first second third fourth a b c d : List ℕ) → n + 3 < length cs → m ≡ n + 4
    → first ≡ t ++ a → second ≡ first ++ b → third ≡ second ++ c → fourth ≡ third ++ d
    → a ≡ xor_bytes (inv_aes k (get_or cs n [])) before
    → b ≡ xor_bytes (inv_aes k (get_or cs (n + 1) [])) (get_or cs n [])
    → c ≡ xor_bytes (inv_aes k (get_or cs (n + 2) [])) (get_or cs (n + 1) [])
    → d ≡ xor_bytes (inv_aes k (get_or cs (n + 3) [])) (get_or cs (n + 2) [])
    → fourth ++ concat (inv_cbc k (get_or cs (n + 3) []) (drop m cs)) ≡ t ++ concat (inv_cbc k before (drop n cs))
four_more k before cs n m t first second third fourth a b c d lt after of_a of_b of_c of_d is_a is_b is_c is_d =
    one_more k (get_or cs (n + 2) []) cs (n + 3) m third d fourth lt (omega arith) of_d is_d
    ∙ one_more k (get_or cs (n + 1) []) cs (n + 2) (n + 3) second c third (omega arith) (omega arith) of_c is_c
    ∙ one_more k (get_or cs n []) cs (n + 1) (n + 2) first b second (omega arith) (omega arith) of_b is_b
    ∙ one_more k before cs n (n + 1) t a first (omega arith) (omega arith) of_a is_a
