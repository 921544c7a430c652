-- The laws of messages: what is written reads back to its parts, and what is read is what its parts write, so that parts fix octets.
use Rattle.std.specs.Prelude.{◌≡◌, ℕ, ◌+◌, ◌<◌, ◌≤◌, true, List, [], ◌∷◌, ◌++◌, length, take, drop, Some, Ok}
use Rattle.std.specs.List.{slice_get}
use Rattle.octets.specs.Octets.{Octets}
use Rattle.handshake.specs.declared.types.HandshakeType.{HandshakeType}
use Rattle.handshake.specs.declared.spans.Span.{Span}
use Rattle.handshake.specs.Types.{type_number, numbered_type}
use Rattle.handshake.specs.Frames.{message_limit, message, not_ready, too_long, ready, next}
use Rattle.handshake.specs.Hellos.{client_offer, ServerHello}
use Rattle.handshake.specs.Kinds.{Parts, client_hello_parts, server_hello_parts, certificate_parts, server_key_exchange_parts, server_hello_done_parts, client_key_exchange_parts, finished_parts, type_of, body_of, is_sound, read_body, octets_of}
use Rattle.handshake.specs.Faults.{read_message}
use Rattle.handshake.specs.Places.{spans, exchange_span}

-- ---- the types and their numbers undo each other
pub record TypesLaw : Type 0 where
  pub from_number : (k : HandshakeType) → numbered_type (type_number k) ≡ Some k
  pub to_number : (n : ℕ) (k : HandshakeType) → numbered_type n ≡ Some k → type_number k ≡ n

-- ---- the frame, whatever the type and the body
pub record FrameLaw : Type 0 where
  -- a message at the front is ready, whatever follows it
  pub written_reads_back : (t : ℕ) (x rest : List ℕ) → length x ≤ message_limit → next (message t x ++ rest) ≡ ready t (message t x) x rest
  -- one that is over the limit is told as soon as its header is there
  pub longer_is_told : (t : ℕ) (x rest : List ℕ) → message_limit < length x → next (message t x ++ rest) ≡ too_long
  -- a part of a message is not ready
  pub begun_is_not_ready : (t : ℕ) (x : List ℕ) (k : ℕ) → length x ≤ message_limit → k < 4 + length x → next (take k (message t x)) ≡ not_ready
  -- what is ready is its type and its body framed, within the limit, and the rest follows
  pub read_writes_back : (t : ℕ) (xs m x rest : List ℕ) → Octets xs → next xs ≡ ready t m x rest
      → (message t x ≡ m) × ((m ++ rest ≡ xs) × (length x ≤ message_limit))

-- ---- the body of every kind: lengths that the layout asks for are the only premise
pub record LayoutLaw : Type 0 where
  pub written_reads_back : (p : Parts) → is_sound p ≡ true → read_body (type_of p) (body_of p) ≡ Some p
  pub read_writes_back : (k : HandshakeType) (xs : List ℕ) (p : Parts) → Octets xs → read_body k xs ≡ Some p
      → (type_of p ≡ k) × ((is_sound p ≡ true) × (body_of p ≡ xs))
  pub parts_fix_octets : (k : HandshakeType) (xs ys : List ℕ) (p : Parts) → Octets xs → Octets ys → read_body k xs ≡ Some p → read_body k ys ≡ Some p
      → xs ≡ ys

-- ---- whole messages
pub record MessageLaw : Type 0 where
  pub written_reads_back : (p : Parts) → is_sound p ≡ true → length (body_of p) ≤ message_limit → read_message (type_of p) (octets_of p) ≡ Ok p
  pub read_writes_back : (k : HandshakeType) (xs : List ℕ) (p : Parts) → Octets xs → read_message k xs ≡ Ok p
      → (type_of p ≡ k) × ((is_sound p ≡ true) × ((octets_of p ≡ xs) × (length (body_of p) ≤ message_limit)))

-- ---- where parts stand in their message
pub record PlaceLaw : Type 0 where
  pub certificates_counted : (cs : List (List ℕ)) → length (spans 7 cs) ≡ length cs
  pub certificate_placed : (cs : List (List ℕ)) (i : ℕ) (s : Span) (c : List ℕ) → slice_get (spans 7 cs) i ≡ Some s → slice_get cs i ≡ Some c
      → take s.len (drop s.offset (octets_of (certificate_parts cs))) ≡ c
  pub signature_placed : (x : List ℕ)
      → take (exchange_span x).len (drop (exchange_span x).offset (octets_of (server_key_exchange_parts x))) ≡ x
  pub wrapped_placed : (x : List ℕ)
      → take (exchange_span x).len (drop (exchange_span x).offset (octets_of (client_key_exchange_parts x))) ≡ x

-- ---- what the ends write: sound, with a body of at most 3,009 octets, so under the limit, and a message that fits one record
pub record Fitting (p : Parts) : Type 0 where
  pub sound : is_sound p ≡ true
  pub body : length (body_of p) ≤ 3009
  pub taken : length (body_of p) ≤ message_limit
  pub recorded : length (octets_of p) ≤ 16384

pub record EndsLaw : Type 0 where
  -- a random of 32 and 1 to 8 suites
  pub client_hello : (random suites : List ℕ) → length random ≡ 32 → 1 ≤ length suites → length suites ≤ 8
      → Fitting (client_hello_parts (client_offer random suites))
  -- a random of 32 and an id of 0 to 32
  pub server_hello : (h : ServerHello) → length h.random ≡ 32 → length h.session ≤ 32 → Fitting (server_hello_parts h)
  -- two certificates of 1 to 1,500
  pub certificates : (signing encryption : List ℕ) → 1 ≤ length signing → length signing ≤ 1500 → 1 ≤ length encryption → length encryption ≤ 1500
      → Fitting (certificate_parts (signing ∷ encryption ∷ []))
  -- a signature of 1 to 512
  pub signature : (x : List ℕ) → 1 ≤ length x → length x ≤ 512 → Fitting (server_key_exchange_parts x)
  pub done : Fitting server_hello_done_parts
  -- a wrapped premaster of 1 to 512
  pub wrapped : (x : List ℕ) → 1 ≤ length x → length x ≤ 512 → Fitting (client_key_exchange_parts x)
  -- 12 octets of verify data
  pub finished : (v : List ℕ) → length v ≡ 12 → Fitting (finished_parts v)
