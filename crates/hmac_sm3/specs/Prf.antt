-- The data expansion P_hash and the pseudo-random function PRF of GB/T 38636-2020, 5.2.4 and 5.2.5, with HMAC-SM3.
use Rattle.std.specs.Prelude.{ℕ, zero, suc, ◌+◌, ◌/◌, List, [], ◌++◌, take}
use Rattle.hmac_sm3.specs.Hmac.{hmac}

-- A(0) is the seed, and A(i) = HMAC(secret, A(i - 1))
unfoldable pub link : ℕ → List ℕ → List ℕ → List ℕ
link zero secret seed = seed
link (suc i) secret seed = hmac secret (link i secret seed)

-- HMAC(secret, A(1) + seed) + HMAC(secret, A(2) + seed) + .. + HMAC(secret, A(n) + seed)
unfoldable pub expansion : ℕ → List ℕ → List ℕ → List ℕ
expansion zero secret seed = []
expansion (suc i) secret seed = expansion i secret seed ++ hmac secret (link (suc i) secret seed ++ seed)

-- P_hash(secret, seed) to n octets: the first n of as many blocks of 32 as that takes
unfoldable pub p_hash : List ℕ → List ℕ → ℕ → List ℕ
p_hash secret seed n = take n (expansion ((n + 31) / 32) secret seed)

-- PRF(secret, label, seed) = P_hash(secret, label + seed), to n octets
unfoldable pub prf : List ℕ → List ℕ → List ℕ → ℕ → List ℕ
prf secret label seed n = p_hash secret (label ++ seed) n
