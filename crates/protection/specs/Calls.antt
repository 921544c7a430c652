-- What sealing and opening answer and leave in their buffers, for any kind of protection.
use Rattle.std.specs.Prelude.{ℕ, ◌+◌, ◌-◌, Bool, cond, ◌&&◌, List, ◌++◌, length, drop, replicate, Some, None, Ok, Err, Option, Result, ◌==◌, nat_le}
use Rattle.protection.specs.declared.error.OpenError.{OpenError}
use Rattle.protection.specs.declared.error.OpenError.TheVariants.{Refused}
use Rattle.protection.specs.Limits.{content_limit, growth, sealed_limit, fresh_size}
use Rattle.protection.specs.Keys.{Keying}

-- whether sealing takes a content and fresh octets of these lengths, with that much room for the sealed list
abbrev pub may_seal : ℕ → ℕ → ℕ → Bool
may_seal content fresh room =
    nat_le 1 content && (nat_le content content_limit && (fresh == fresh_size && nat_le (content + growth) room))

-- the list that is sealed with what is held; none when unkeyed or when the lengths do not allow it
abbrev pub sealed_with : (Keying → ℕ → ℕ → List ℕ → List ℕ → List ℕ) → Option Keying → ℕ → ℕ → List ℕ → List ℕ → ℕ → Option (List ℕ)
sealed_with sealing None n t c f room = None
sealed_with sealing (Some k) n t c f room = cond (may_seal (length c) (length f) room) (Some (sealing k n t c f)) None

-- a sealed list stands first in the output, and the octets behind it stay; where none is sealed, all stay
abbrev pub written : Option (List ℕ) → List ℕ → List ℕ
written None out = out
written (Some l) out = l ++ drop (length l) out

-- whether opening takes this many octets, with that much room for the content
abbrev pub may_open : ℕ → ℕ → Bool
may_open octets room = nat_le octets sealed_limit && nat_le sealed_limit room

-- the content that is opened with what is held; a no when unkeyed or when the lengths do not allow it
abbrev pub opened_with : (Keying → ℕ → ℕ → List ℕ → Result (List ℕ) OpenError) → Option Keying → ℕ → ℕ → List ℕ → ℕ → Result (List ℕ) OpenError
opened_with opening None n t l room = Err Refused
opened_with opening (Some k) n t l room = cond (may_open (length l) room) (opening k n t l) (Err Refused)

-- how long an opened content is, or the same no
abbrev pub opened_length : Result (List ℕ) OpenError → Result ℕ OpenError
opened_length (Ok c) = Ok (length c)
opened_length (Err e) = Err e

-- an opened content stands first in the place, and zeros behind it; after a no there are only zeros
abbrev pub placed : Result (List ℕ) OpenError → List ℕ → List ℕ
placed (Ok c) place = c ++ replicate (length place - length c) 0
placed (Err e) place = replicate (length place) 0
