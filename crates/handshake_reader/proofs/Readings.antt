-- How far a reader of a hello comes, by what it has cut so far.
use Rattle.std.proofs.Common.{◌≡◌, ℕ, cond, List, Some, None}
use Rattle.handshake.specs.Parts.{versioned, uncut, cut, part, part1, part2, words}
use Rattle.handshake.specs.Hellos.{client_hello_fits, read_client_hello, server_choice, read_server_hello}

module _ (xs : List ℕ) where
  pub client_stops_1 : part 2 xs ≡ uncut → None ≡ read_client_hello xs
  unfolding read_client_hello
  client_stops_1 p = rw p

  pub client_stops_2 : {v a : List ℕ} → part 2 xs ≡ cut v a → part 32 a ≡ uncut → None ≡ read_client_hello xs
  unfolding read_client_hello
  client_stops_2 p q = rw (p, q)

  pub client_stops_3 : {v a r b : List ℕ} → part 2 xs ≡ cut v a → part 32 a ≡ cut r b → part1 b ≡ uncut → None ≡ read_client_hello xs
  unfolding read_client_hello
  client_stops_3 p q s = rw (p, q, s)

  pub client_stops_4 : {v a r b i c : List ℕ} → part 2 xs ≡ cut v a → part 32 a ≡ cut r b → part1 b ≡ cut i c → part2 c ≡ uncut → None ≡ read_client_hello xs
  unfolding read_client_hello
  client_stops_4 p q s t = rw (p, q, s, t)

  pub client_stops_5 : {v a r b i c s d : List ℕ} → part 2 xs ≡ cut v a → part 32 a ≡ cut r b → part1 b ≡ cut i c → part2 c ≡ cut s d → part1 d ≡ uncut
      → None ≡ read_client_hello xs
  unfolding read_client_hello
  client_stops_5 p q s t u = rw (p, q, s, t, u)

  -- all five parts are cut: the test decides
  pub client_cut : {v a r b i c s d k e : List ℕ} → part 2 xs ≡ cut v a → part 32 a ≡ cut r b → part1 b ≡ cut i c → part2 c ≡ cut s d → part1 d ≡ cut k e
      → read_client_hello xs ≡ cond (client_hello_fits v i s k e) (Some (record { random = r; session = i; suites = words s; compressions = k })) None
  unfolding read_client_hello
  client_cut p q s t u = rw (p, q, s, t, u)

module _ (xs : List ℕ) where
  pub server_stops_1 : part 2 xs ≡ uncut → None ≡ read_server_hello xs
  unfolding read_server_hello
  server_stops_1 p = rw p

  pub server_stops_2 : {v a : List ℕ} → part 2 xs ≡ cut v a → part 32 a ≡ uncut → None ≡ read_server_hello xs
  unfolding read_server_hello
  server_stops_2 p q = rw (p, q)

  pub server_stops_3 : {v a r b : List ℕ} → part 2 xs ≡ cut v a → part 32 a ≡ cut r b → part1 b ≡ uncut → None ≡ read_server_hello xs
  unfolding read_server_hello
  server_stops_3 p q s = rw (p, q, s)

  -- all three parts are cut: the version decides, and what follows
  pub server_cut : {v a r b i c : List ℕ} → part 2 xs ≡ cut v a → part 32 a ≡ cut r b → part1 b ≡ cut i c
      → read_server_hello xs ≡ cond (versioned v) (server_choice r i c) None
  unfolding read_server_hello
  server_cut p q s = rw (p, q, s)
