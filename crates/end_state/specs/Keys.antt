-- What is held after keys were made: by the key schedule, with a protection that takes so many octets for a suite.
use Rattle.std.specs.Prelude.{ℕ, Bool, List, Option}
use Rattle.octets.specs.declared.role.Role.{Role}
use Rattle.protection.specs.Keys.{Keying, keying, rekeyed}
use Rattle.key_schedule.specs.Schedule.{master_secret, key_material}
use Rattle.sm3.specs.Hash.{Running}
use Rattle.model.specs.Endpoint.{End, with_keys, no_keys}

-- the keying that a master secret and the randoms give
abbrev pub keyed_by : (ℕ → Bool) → (ℕ → ℕ) → ℕ → Role → List ℕ → List ℕ → List ℕ → Option Keying → Option Keying
keyed_by serves size suite role master client_random server_random old =
    rekeyed serves size (keying suite role (key_material master client_random server_random (size suite))) old

-- an end once keys were made from a premaster: its master secret, what its protection holds, and zeros in the place for keys
abbrev pub keyed_end : (ℕ → Bool) → (ℕ → ℕ) → List ℕ → End Running → End Running
keyed_end serves size premaster e =
    let m = master_secret premaster e.client_random e.server_random in
    with_keys (keyed_by serves size e.suite e.role m e.client_random e.server_random e.protection) m no_keys e
