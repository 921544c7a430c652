-- What the code's structs of keys stand for.
use Rattle.key_schedule.specs.Parts.{Cbc, Gcm}
use Rattle.key_schedule.specs.declared.cbc_parts.CbcKeys.{CbcKeys}
use Rattle.key_schedule.specs.declared.gcm_parts.GcmKeys.{GcmKeys}

-- the octets behind the parts of a CBC suite
abbrev pub cbc_seen : CbcKeys → Cbc
cbc_seen k = record {
  client_mac_key = k.client_mac_key.now;
  server_mac_key = k.server_mac_key.now;
  client_key = k.client_key.now;
  server_key = k.server_key.now;
}

-- and of a GCM suite
abbrev pub gcm_seen : GcmKeys → Gcm
gcm_seen k = record {
  client_key = k.client_key.now;
  server_key = k.server_key.now;
  client_iv = k.client_iv.now;
  server_iv = k.server_iv.now;
}
