-- Authenticated encryption and decryption by SM4 in Galois/Counter Mode (NIST SP 800-38D, 7.1 and 7.2),
-- with nonces (IV) of 12 octets and tags of 16. Beyond 2 ^ 32 - 2 blocks, which the recommendation excludes, the counter wraps.
use Rattle.std.specs.Prelude.{ℕ, ◌+◌, ◌-◌, ◌*◌, ◌^◌, cond, List, ◌++◌, length, take, drop, replicate, Some, None, Option}
use Rattle.octets.specs.Octets.{same}
use Rattle.sm4.specs.Cipher.{round_keys, crypt}
use Rattle.gcm.specs.Blocks.{value, octets_of, octets16, filled}
use Rattle.gcm.specs.Ghash.{ghash}
use Rattle.gcm.specs.Counter.{inc32, gctr}

-- H = CIPH(0^128)
abbrev pub hash_key : List ℕ → ℕ
hash_key ks = value (crypt ks (replicate 16 0))

-- J0 = IV || 0^31 || 1
unfoldable pub J0 : List ℕ → ℕ
J0 iv = value iv * 2 ^ 32 + 1

-- [len(X)]64: the bits of n octets, counted in 64 bits
unfoldable pub bits64 : ℕ → List ℕ
bits64 n = octets_of 8 (n * 8)

-- GCTR(inc32(J0), X): the ciphertext of a plaintext, and the plaintext of a ciphertext
unfoldable pub enciphered : List ℕ → List ℕ → List ℕ → List ℕ
enciphered ks iv xs = gctr ks (inc32 (J0 iv)) xs

-- S = GHASH(A || 0^v || C || 0^u || [len(A)]64 || [len(C)]64)
unfoldable pub digest : List ℕ → List ℕ → List ℕ → ℕ
digest ks a c = ghash (hash_key ks) (filled a ++ (filled c ++ (bits64 (length a) ++ bits64 (length c))))

-- T = MSB128(GCTR(J0, S))
unfoldable pub tag : List ℕ → List ℕ → List ℕ → List ℕ → List ℕ
tag ks iv a c = gctr ks (J0 iv) (octets16 (digest ks a c))

-- GCM-AD: the plaintext where the tag is that of the ciphertext, else none
abbrev pub opened : List ℕ → List ℕ → List ℕ → List ℕ → List ℕ → Option (List ℕ)
opened ks iv a c t = cond (same (tag ks iv a c) t) (Some (enciphered ks iv c)) None

-- GCM-AE under a key: the ciphertext and behind it the tag
unfoldable pub seal_gcm : List ℕ → List ℕ → List ℕ → List ℕ → List ℕ
seal_gcm key iv a p =
    enciphered (round_keys key) iv p ++ tag (round_keys key) iv a (enciphered (round_keys key) iv p)

-- GCM-AD under a key: the last 16 octets are the tag; where there are fewer, none is ever right
unfoldable pub open_gcm : List ℕ → List ℕ → List ℕ → List ℕ → Option (List ℕ)
open_gcm key iv a s = opened (round_keys key) iv a (take (length s - 16) s) (drop (length s - 16) s)
