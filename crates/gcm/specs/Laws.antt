-- What is proved of Galois/Counter Mode as a whole.
use Rattle.std.specs.Prelude.{◌≡◌, ℕ, ◌+◌, ◌/◌, ◌%◌, ◌^◌, ◌<◌, List, length, Some, bit_xor}
use Rattle.octets.specs.Octets.{Octets}
use Rattle.gcm.specs.Counter.{inc32, inc32s, gctr}
use Rattle.gcm.specs.Field.{product}
use Rattle.gcm.specs.Gcm.{enciphered, tag, opened, seal_gcm, open_gcm}

-- counting leaves the first 96 bits as they are, and takes the last 32 one on, from all ones to zeros
abbrev pub CountsOn : Type 0
CountsOn = (n : ℕ) → (inc32 n / 2 ^ 32 ≡ n / 2 ^ 32) × (inc32 n % 2 ^ 32 ≡ (n % 2 ^ 32 + 1) % 2 ^ 32)

-- of 2 ^ 32 counter blocks one after the other no two are the same
abbrev pub CountersDiffer : Type 0
CountersDiffer = (n i j : ℕ) → i < 2 ^ 32 → j < 2 ^ 32 → inc32s i n ≡ inc32s j n → i ≡ j

-- counter mode undoes itself
abbrev pub UndoesItself : Type 0
UndoesItself = (ks : List ℕ) (cb : ℕ) (xs : List ℕ) → gctr ks cb (gctr ks cb xs) ≡ xs

-- the product is linear in its first factor
abbrev pub AddsUp : Type 0
AddsUp = (a b h : ℕ) → product (bit_xor a b) h ≡ bit_xor (product a h) (product b h)

-- what is sealed opens to the same content, under the same key, nonce and additional data
abbrev pub OpensSealed : Type 0
OpensSealed = (key iv a p : List ℕ) → open_gcm key iv a (seal_gcm key iv a p) ≡ Some p

-- the same of ciphertext and tag apart, under round keys
abbrev pub DecryptsEncrypted : Type 0
DecryptsEncrypted =
    (ks iv a p : List ℕ) → opened ks iv a (enciphered ks iv p) (tag ks iv a (enciphered ks iv p)) ≡ Some p

-- and nothing else does: what opens to a content is what sealing that content gives
abbrev pub OnlySealedOpens : Type 0
OnlySealedOpens = (key iv a s p : List ℕ) → open_gcm key iv a s ≡ Some p → s ≡ seal_gcm key iv a p

-- a content comes out exactly when the tag is that of the ciphertext
abbrev pub OpensExactly : Type 0
OpensExactly =
    (ks iv a c t p : List ℕ)
    → (opened ks iv a c t ≡ Some p → (t ≡ tag ks iv a c) × (p ≡ enciphered ks iv c))
    × ((t ≡ tag ks iv a c) × (p ≡ enciphered ks iv c) → opened ks iv a c t ≡ Some p)

-- a ciphertext is as long as its plaintext, and a tag has 16 octets
abbrev pub Lengths : Type 0
Lengths =
    ((ks iv xs : List ℕ) → length (enciphered ks iv xs) ≡ length xs) × ((ks iv a c : List ℕ) → length (tag ks iv a c) ≡ 16)
    × ((key iv a p : List ℕ) → length (seal_gcm key iv a p) ≡ length p + 16)

-- octets stay octets
abbrev pub OctetsStay : Type 0
OctetsStay =
    ((ks iv xs : List ℕ) → Octets xs → Octets (enciphered ks iv xs)) × ((ks iv a c : List ℕ) → Octets (tag ks iv a c))
    × ((key iv a p : List ℕ) → Octets p → Octets (seal_gcm key iv a p))
    × ((key iv a s p : List ℕ) → Octets s → open_gcm key iv a s ≡ Some p → Octets p)
