-- HMAC (RFC 2104) with SM3, whose blocks and so whose keys have 64 octets.
use Rattle.std.specs.Prelude.{ℕ, ◌-◌, cond, List, ◌++◌, map, length, replicate, bit_xor, nat_lt}
use Rattle.sm3.specs.Hash.{sm3}

-- a key longer than a block is replaced by its digest
abbrev pub shortened : List ℕ → List ℕ
shortened key = cond (nat_lt 64 (length key)) (sm3 key) key

-- a list with zeros behind it, up to a block
unfoldable pub filled : List ℕ → List ℕ
filled xs = xs ++ replicate (64 - length xs) 0

-- the key as a block
abbrev pub key_block : List ℕ → List ℕ
key_block key = filled (shortened key)

-- the octet that goes into every octet of the inner key
abbrev pub ipad : ℕ
ipad = 0x36

-- and into every octet of the outer key
abbrev pub opad : ℕ
opad = 0x5c

-- the exclusive or of every octet with one
unfoldable pub xored : ℕ → List ℕ → List ℕ
xored pad xs = map (λ x. bit_xor x pad) xs

-- H(K xor opad, H(K xor ipad, text))
unfoldable pub hmac : List ℕ → List ℕ → List ℕ
hmac key text = sm3 (xored opad (key_block key) ++ sm3 (xored ipad (key_block key) ++ text))
