-- Messages written out: the shortest of each kind with a sound body, and the fault of each breach.
use Rattle.std.specs.Prelude.{◌≡◌, ℕ, List, [], ◌∷◌, ◌++◌, replicate, Ok, Err, slice_set}
use Rattle.handshake.specs.declared.types.HandshakeType as types
use Rattle.handshake.specs.Hellos.{client_offer, server_answer}
use Rattle.handshake.specs.Kinds.{Parts, client_hello_parts, server_hello_parts, certificate_parts, server_key_exchange_parts, server_hello_done_parts, client_key_exchange_parts, finished_parts, octets_of}
use Rattle.handshake.specs.Faults.{over_long, not_awaited, version_fault, layout_fault, read_message}
use Rattle.handshake.specs.Frames.{not_ready, too_long, next}

-- 32 octets of 7
abbrev pub sevens : List ℕ
sevens = replicate 32 7

-- suites e013 and e053
abbrev pub offer : Parts
offer = client_hello_parts (client_offer sevens (57363 ∷ 57427 ∷ []))

-- suite e053, no id
abbrev pub choice : Parts
choice = server_hello_parts (server_answer sevens [] 57427)

-- the offer's octets, by hand
abbrev pub offer_octets : List ℕ
offer_octets = 1 ∷ 0 ∷ 0 ∷ 43 ∷ 1 ∷ 1 ∷ (sevens ++ (0 ∷ 0 ∷ 4 ∷ 224 ∷ 19 ∷ 224 ∷ 83 ∷ 1 ∷ 0 ∷ []))

-- the same with one octet set to another
abbrev pub offer_with : ℕ → ℕ → List ℕ
offer_with place octet = slice_set offer_octets place octet

pub record VectorsLaw : Type 0 where
  pub client_hello : octets_of offer ≡ offer_octets
  pub client_hello_read : read_message types.TheVariants.ClientHello offer_octets ≡ Ok offer
  pub server_hello : octets_of choice ≡ 2 ∷ 0 ∷ 0 ∷ 38 ∷ 1 ∷ 1 ∷ (sevens ++ (0 ∷ 224 ∷ 83 ∷ 0 ∷ []))
  pub certificates : octets_of (certificate_parts ((9 ∷ []) ∷ (8 ∷ 8 ∷ []) ∷ [])) ≡ 11 ∷ 0 ∷ 0 ∷ 12 ∷ 0 ∷ 0 ∷ 9 ∷ 0 ∷ 0 ∷ 1 ∷ 9 ∷ 0 ∷ 0 ∷ 2 ∷ 8 ∷ 8 ∷ []
  pub signature : octets_of (server_key_exchange_parts (5 ∷ [])) ≡ 12 ∷ 0 ∷ 0 ∷ 3 ∷ 0 ∷ 1 ∷ 5 ∷ []
  pub done : octets_of server_hello_done_parts ≡ 14 ∷ 0 ∷ 0 ∷ 0 ∷ []
  pub wrapped : octets_of (client_key_exchange_parts (5 ∷ [])) ≡ 16 ∷ 0 ∷ 0 ∷ 3 ∷ 0 ∷ 1 ∷ 5 ∷ []
  pub finished : octets_of (finished_parts (replicate 12 3)) ≡ 20 ∷ 0 ∷ 0 ∷ 12 ∷ replicate 12 3
  -- no certificates at all is a sound layout, an empty certificate is not
  pub no_certificates : read_message types.TheVariants.Certificate (11 ∷ 0 ∷ 0 ∷ 3 ∷ 0 ∷ 0 ∷ 0 ∷ []) ≡ Ok (certificate_parts [])
  pub empty_certificate : read_message types.TheVariants.Certificate (11 ∷ 0 ∷ 0 ∷ 6 ∷ 0 ∷ 0 ∷ 3 ∷ 0 ∷ 0 ∷ 0 ∷ []) ≡ Err layout_fault
  -- breaches, in the order in which they are looked for
  pub too_long_first : read_message types.TheVariants.Finished (1 ∷ 0 ∷ 15 ∷ 253 ∷ []) ≡ Err over_long
  pub type_second : read_message types.TheVariants.ServerHello offer_octets ≡ Err not_awaited
  pub version_third : read_message types.TheVariants.ClientHello (offer_with 5 3) ≡ Err version_fault
  pub short_version : read_message types.TheVariants.ClientHello (1 ∷ 0 ∷ 0 ∷ 1 ∷ 3 ∷ []) ≡ Err layout_fault
  pub long_id : read_message types.TheVariants.ClientHello (offer_with 38 33) ≡ Err layout_fault
  pub odd_suites : read_message types.TheVariants.ClientHello (offer_with 40 3) ≡ Err layout_fault
  pub no_compression : read_message types.TheVariants.ClientHello (offer_with 45 0) ≡ Err layout_fault
  pub octet_behind : read_message types.TheVariants.ServerHelloDone (14 ∷ 0 ∷ 0 ∷ 1 ∷ 0 ∷ []) ≡ Err layout_fault
  -- the limit
  pub at_limit : next (1 ∷ 0 ∷ 15 ∷ 252 ∷ []) ≡ not_ready
  pub over_limit : next (1 ∷ 0 ∷ 15 ∷ 253 ∷ []) ≡ too_long
