-- Counting and counter mode over SM4 (NIST SP 800-38D, 6.2 and 6.5).
use Rattle.std.specs.Prelude.{ℕ, zero, suc, ◌+◌, ◌*◌, ◌/◌, ◌%◌, ◌^◌, List, [], ◌∷◌, ◌++◌, take, drop, bit_xor}
use Rattle.sm4.specs.Cipher.{crypt}
use Rattle.gcm.specs.Blocks.{octets16, block_count}

-- inc32: the first 96 bits stay, the last 32 are counted on and wrap
abbrev pub inc32 : ℕ → ℕ
inc32 n = n / 2 ^ 32 * 2 ^ 32 + (n % 2 ^ 32 + 1) % 2 ^ 32

-- the counter block k places on
unfoldable pub inc32s : ℕ → ℕ → ℕ
inc32s zero n = n
inc32s (suc k) n = inc32s k (inc32 n)

-- the octets of a list, each xor that of the other list at its place
abbrev pub xored : List ℕ → List ℕ → List ℕ
xored [] ys = []
xored (x ∷ xs) [] = x ∷ xs
xored (x ∷ xs) (y ∷ ys) = bit_xor x y ∷ xored xs ys

-- n blocks from the counter block CB on: each xor the cipher of its counter block, of which a short last one takes the beginning
unfoldable pub gctr_from : List ℕ → ℕ → ℕ → List ℕ → List ℕ
gctr_from ks zero cb xs = []
gctr_from ks (suc n) cb xs = xored (take 16 xs) (crypt ks (octets16 cb)) ++ gctr_from ks n (inc32 cb) (drop 16 xs)

-- GCTR of a text under the round keys ks, from the counter block CB on
unfoldable pub gctr : List ℕ → ℕ → List ℕ → List ℕ
gctr ks cb xs = gctr_from ks (block_count xs) cb xs
