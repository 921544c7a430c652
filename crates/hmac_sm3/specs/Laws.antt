-- What is always so of HMAC-SM3 and of the PRF.
use Rattle.std.specs.Prelude.{◌≡◌, ℕ, ◌≤◌, List, ◌++◌, length, take}
use Rattle.octets.specs.Octets.{Octets}
use Rattle.hmac_sm3.specs.Hmac.{hmac}
use Rattle.hmac_sm3.specs.Keyed.{keyed, fed, tag}
use Rattle.hmac_sm3.specs.Prf.{prf}

-- a tag has 32 octets
abbrev pub TagLength : Type 0
TagLength = (key text : List ℕ) → length (hmac key text) ≡ 32

-- which are octets
abbrev pub TagOctets : Type 0
TagOctets = (key text : List ℕ) → Octets (hmac key text)

-- text taken in pieces has the tag of the pieces joined
abbrev pub TagPieces : Type 0
TagPieces = (key a b : List ℕ) → tag (fed (fed (keyed key) a) b) ≡ hmac key (a ++ b)

-- the PRF gives as many octets as it is asked for
abbrev pub PrfLength : Type 0
PrfLength = (secret label seed : List ℕ) (n : ℕ) → length (prf secret label seed n) ≡ n

-- and they are octets
abbrev pub PrfOctets : Type 0
PrfOctets = (secret label seed : List ℕ) (n : ℕ) → Octets (prf secret label seed n)

-- fewer octets are the beginning of more
abbrev pub PrfBegins : Type 0
PrfBegins = (secret label seed : List ℕ) (n m : ℕ) → n ≤ m → take n (prf secret label seed m) ≡ prf secret label seed n

-- only the label and the seed joined matter
abbrev pub PrfJoined : Type 0
PrfJoined = (secret label seed more : List ℕ) (n : ℕ) → prf secret (label ++ seed) more n ≡ prf secret label (seed ++ more) n
