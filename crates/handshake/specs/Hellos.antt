-- ClientHello and ServerHello: their parts, written and read.
use Rattle.std.specs.Prelude.{ℕ, ◌+◌, ◌*◌, ◌%◌, Bool, cond, ◌&&◌, List, [], ◌∷◌, ◌++◌, length, Some, None, Option, ◌==◌, nat_le}
use Rattle.octets.specs.Numbers.{two}
use Rattle.handshake.specs.Parts.{is_none, versioned, sized1, sized2, part, part1, part2, after_cut, words, from_words}

pub record ClientHello : Type 0 where
  pub random : List ℕ
  pub session : List ℕ
  pub suites : List ℕ
  pub compressions : List ℕ

pub record ServerHello : Type 0 where
  pub random : List ℕ
  pub session : List ℕ
  pub suite : ℕ
  pub compression : ℕ

-- ---- ClientHello: 01 01, random, session id, suites, compressions
abbrev pub from_client_hello : ClientHello → List ℕ
from_client_hello h =
    1 ∷ 1 ∷ (h.random ++ (sized1 h.session ++ (sized2 (from_words h.suites) ++ sized1 h.compressions)))

-- the layout's own lengths: a random of 32, an id of 0 to 32, suites 1 to 32,767, compressions 1 to 255
abbrev pub client_hello_sound : ClientHello → Bool
client_hello_sound h =
    (length h.random == 32) && (nat_le (length h.session) 32
    && ((nat_le 1 (length h.suites) && nat_le (length h.suites) 32767)
    && (nat_le 1 (length h.compressions) && nat_le (length h.compressions) 255)))

-- what an end offers: no session id, one compression, 00
abbrev pub client_offer : List ℕ → List ℕ → ClientHello
client_offer random suites = record { random = random; session = []; suites = suites; compressions = 0 ∷ [] }

unfoldable pub client_hello_body : List ℕ → List ℕ → List ℕ
client_hello_body random suites = from_client_hello (client_offer random suites)

-- what a reader asks of the parts that it cut: the version 01 01, an id of 0 to 32, an even count of suite octets, 2 or more,
-- 1 compression or more, and nothing behind it
abbrev pub client_hello_fits : List ℕ → List ℕ → List ℕ → List ℕ → List ℕ → Bool
client_hello_fits version session suites compressions rest =
    versioned version && (nat_le (length session) 32 && (length suites % 2 == 0 && (nat_le 2 (length suites)
    && (nat_le 1 (length compressions) && is_none rest))))

unfoldable pub read_client_hello : List ℕ → Option ClientHello
read_client_hello xs =
    after_cut (part 2 xs) (λ version a.
    after_cut (part 32 a) (λ random b.
    after_cut (part1 b) (λ session c.
    after_cut (part2 c) (λ suites d.
    after_cut (part1 d) (λ compressions e.
    cond (client_hello_fits version session suites compressions e)
    (Some (record { random = random; session = session; suites = words suites; compressions = compressions })) None)))))

-- ---- ServerHello: 01 01, random, session id, suite, one compression
abbrev pub from_server_hello : ServerHello → List ℕ
from_server_hello h = 1 ∷ 1 ∷ (h.random ++ (sized1 h.session ++ (two h.suite ++ (h.compression ∷ []))))

-- the layout's own lengths: a random of 32, an id of 0 to 32
abbrev pub server_hello_sound : ServerHello → Bool
server_hello_sound h = length h.random == 32 && nat_le (length h.session) 32

-- what an end answers: compression 00
abbrev pub server_answer : List ℕ → List ℕ → ℕ → ServerHello
server_answer random session suite = record { random = random; session = session; suite = suite; compression = 0 }

unfoldable pub server_hello_body : List ℕ → List ℕ → ℕ → List ℕ
server_hello_body random session suite = from_server_hello (server_answer random session suite)

-- a suite and one compression, and no more
abbrev pub server_choice : List ℕ → List ℕ → List ℕ → Option ServerHello
server_choice random session [] = None
server_choice random session (a ∷ []) = None
server_choice random session (a ∷ b ∷ []) = None
server_choice random session (a ∷ b ∷ c ∷ []) =
    cond (nat_le (length session) 32) (Some (record { random = random; session = session; suite = a * 256 + b; compression = c })) None
server_choice random session (a ∷ b ∷ c ∷ x ∷ xs) = None

unfoldable pub read_server_hello : List ℕ → Option ServerHello
read_server_hello xs =
    after_cut (part 2 xs) (λ version a.
    after_cut (part 32 a) (λ random b.
    after_cut (part1 b) (λ session c.
    cond (versioned version) (server_choice random session c) None)))
