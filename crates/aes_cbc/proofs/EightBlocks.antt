-- Eight more blocks of an inverse chain, two and two side by side.
use Rattle.std.proofs.Common.{◌≡◌, ℕ, ◌+◌, ◌<◌, List, [], ◌++◌, length, take, drop, get_or, bit_xor, refl, sym, subst, ap, ap₂, ◌∙◌, arith, append_assoc}
use Rattle.std.specs.List.{concat}
use Rattle.std.specs.Simd.Lanes.{zip2}
use Rattle.aes_cbc.specs.Block.{xor_bytes}
use Rattle.aes_cbc.specs.InverseCipher.{inv_aes}
use Rattle.aes_cbc.specs.Opening.{inv_cbc}
use Rattle.aes_cbc.specs.Pairs.{ArePair}
use Rattle.aes_cbc.proofs.FourBlocks.{one_more}
use Rattle.aes_cbc.proofs.PairSums.{sum_of_pairs}

-- a pair whose second block is at o
pub next_at : (x : List ℕ) (cs : List (List ℕ)) (n o : ℕ) → o ≡ n + 1 → ArePair x (get_or cs n []) (get_or cs (n + 1) []) → ArePair x (get_or cs n []) (get_or cs o [])
next_at x cs n o e pair = subst (λ j. ArePair x (get_or cs n []) (get_or cs j [])) (sym e) pair

-- the two blocks of the cipher blocks c and d, with a and b before them
abbrev pub two_blocks : List ℕ → List ℕ → List ℕ → List ℕ → List ℕ → List ℕ
two_blocks k a b c d = xor_bytes (inv_aes k c) a ++ xor_bytes (inv_aes k d) b

pub two_plain : (k x p q a b c d : List ℕ) → ArePair p (inv_aes k (take 16 x)) (inv_aes k (drop 16 x)) → ArePair x c d → ArePair q a b
    → zip2 bit_xor p q ≡ two_blocks k a b c d
two_plain k x p q a b c d of_p of_x of_q =
    sum_of_pairs p q (inv_aes k (take 16 x)) (inv_aes k (drop 16 x)) a b of_p of_q
    ∙ ap₂ (λ y z. xor_bytes (inv_aes k y) a ++ xor_bytes (inv_aes k z) b) of_x.first of_x.second

-- those at n and behind it, at o, are appended
two_more : (k before : List ℕ) (cs : List (List ℕ)) (n o m : ℕ) (done pair all : List ℕ) → o < length cs → o ≡ n + 1 → m ≡ o + 1 → all ≡ done ++ pair
    → pair ≡ two_blocks k before (get_or cs n []) (get_or cs n []) (get_or cs o [])
    → all ++ concat (inv_cbc k (get_or cs o []) (drop m cs)) ≡ done ++ concat (inv_cbc k before (drop n cs))
two_more k before cs n o m done pair all lt next after appended is =
    let a = xor_bytes (inv_aes k (get_or cs n [])) before in
    let b = xor_bytes (inv_aes k (get_or cs o [])) (get_or cs n []) in
    one_more k (get_or cs n []) cs o m (done ++ a) b all lt after (appended ∙ ap (λ x. done ++ x) is ∙ sym (append_assoc done a b)) refl
    ∙ one_more k before cs n o done a (done ++ a) (omega arith) next refl refl

-- those from n on
pub eight_more : (k before : List ℕ) (cs : List (List ℕ)) (n m : ℕ) (t first second third fourth a b c d : List ℕ) → n + 7 < length cs → m ≡ n + 8
    → first ≡ t ++ a → second ≡ first ++ b → third ≡ second ++ c → fourth ≡ third ++ d
    → a ≡ two_blocks k before (get_or cs n []) (get_or cs n []) (get_or cs (n + 1) [])
    → b ≡ two_blocks k (get_or cs (n + 1) []) (get_or cs (n + 2) []) (get_or cs (n + 2) []) (get_or cs (n + 3) [])
    → c ≡ two_blocks k (get_or cs (n + 3) []) (get_or cs (n + 4) []) (get_or cs (n + 4) []) (get_or cs (n + 5) [])
    → d ≡ two_blocks k (get_or cs (n + 5) []) (get_or cs (n + 6) []) (get_or cs (n + 6) []) (get_or cs (n + 7) [])
    → fourth ++ concat (inv_cbc k (get_or cs (n + 7) []) (drop m cs)) ≡ t ++ concat (inv_cbc k before (drop n cs))
eight_more k before cs n m t first second third fourth a b c d lt after of_a of_b of_c of_d is_a is_b is_c is_d =
    two_more k (get_or cs (n + 5) []) cs (n + 6) (n + 7) m third d fourth lt (omega arith) (omega arith) of_d is_d
    ∙ two_more k (get_or cs (n + 3) []) cs (n + 4) (n + 5) (n + 6) second c third (omega arith) (omega arith) (omega arith) of_c is_c
    ∙ two_more k (get_or cs (n + 1) []) cs (n + 2) (n + 3) (n + 4) first b second (omega arith) (omega arith) (omega arith) of_b is_b
    ∙ two_more k before cs n (n + 1) (n + 2) t a first (omega arith) (omega arith) (omega arith) of_a is_a
