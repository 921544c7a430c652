-- The lengths of bodies.
use Rattle.std.proofs.Common.{◌≡◌, ℕ, ◌+◌, ◌*◌, ◌/◌, List, [], ◌∷◌, ◌++◌, length, refl, arith, length-append}
use Rattle.octets.specs.Numbers.{two}
use Rattle.handshake.specs.Parts.{sized1, sized2, words, from_words}
use Rattle.handshake.specs.Hellos.{ClientHello, ServerHello, from_client_hello, from_server_hello}

pub from_words-length : (ss : List ℕ) → length (from_words ss) ≡ 2 * length ss
from_words-length [] = refl
from_words-length (s ∷ ss) = let h = from_words-length ss in omega arith

pub words-length : (xs : List ℕ) → length (words xs) ≡ length xs / 2
words-length [] = refl
words-length (a ∷ []) = refl
words-length (a ∷ b ∷ xs) = let h = words-length xs in omega arith

pub client_hello_size : (h : ClientHello)
    → length (from_client_hello h) ≡ 2 + (length h.random + (1 + length h.session + (2 + 2 * length h.suites + (1 + length h.compressions))))
client_hello_size h =
    let w = from_words-length h.suites in
    let d = sized1 h.compressions in
    let c = sized2 (from_words h.suites) ++ d in
    let b = sized1 h.session ++ c in
    let p = length-append h.random b in
    let q = length-append h.session c in
    let r = length-append (from_words h.suites) d in
    omega arith

pub server_hello_size : (h : ServerHello) → length (from_server_hello h) ≡ 2 + (length h.random + (1 + length h.session + 3))
server_hello_size h =
    let c = two h.suite ++ (h.compression ∷ []) in
    let p = length-append h.random (sized1 h.session ++ c) in
    let q = length-append h.session c in
    omega arith
