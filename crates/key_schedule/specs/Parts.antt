-- How key material is cut into keys: GB/T 38636-2020, 6.5.2. The client's key of each sort stands before the server's.
use Rattle.std.specs.Prelude.{ℕ, cond, List, length, take, drop, Some, None, Option, ◌==◌}
use Rattle.octets.specs.declared.role.Role.{Role}
use Rattle.octets.specs.declared.role.Role.TheVariants.{Client, Server}

-- n octets from a place on
abbrev pub part : ℕ → ℕ → List ℕ → List ℕ
part from n material = take n (drop from material)

-- the keys of a suite with SM4 in CBC mode: MAC keys of 32 octets and keys of 16
pub record Cbc : Type 0 where
  pub client_mac_key : List ℕ
  pub server_mac_key : List ℕ
  pub client_key : List ℕ
  pub server_key : List ℕ

-- the 96 octets of material in their order; other lengths are no material of such a suite
abbrev pub cbc : List ℕ → Option Cbc
cbc material =
    cond (length material == 96)
    (Some (record { client_mac_key = part 0 32 material; server_mac_key = part 32 32 material; client_key = part 64 16 material; server_key = part 80 16 material }))
    None

-- the MAC key that one side writes with
abbrev pub cbc_mac_key : Role → Cbc → List ℕ
cbc_mac_key Client keys = keys.client_mac_key
cbc_mac_key Server keys = keys.server_mac_key

-- the key that one side writes with
abbrev pub cbc_key : Role → Cbc → List ℕ
cbc_key Client keys = keys.client_key
cbc_key Server keys = keys.server_key

-- the keys of a suite with SM4 in GCM mode: keys of 16 octets and IVs of 4
pub record Gcm : Type 0 where
  pub client_key : List ℕ
  pub server_key : List ℕ
  pub client_iv : List ℕ
  pub server_iv : List ℕ

-- the 40 octets of material in their order
abbrev pub gcm : List ℕ → Option Gcm
gcm material =
    cond (length material == 40)
    (Some (record { client_key = part 0 16 material; server_key = part 16 16 material; client_iv = part 32 4 material; server_iv = part 36 4 material }))
    None

-- the key that one side writes with
abbrev pub gcm_key : Role → Gcm → List ℕ
gcm_key Client keys = keys.client_key
gcm_key Server keys = keys.server_key

-- the IV that one side writes with
abbrev pub gcm_iv : Role → Gcm → List ℕ
gcm_iv Client keys = keys.client_iv
gcm_iv Server keys = keys.server_iv
