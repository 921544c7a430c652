-- The sizes of bodies that can be written.
use Rattle.std.proofs.Common.{◌≡◌, ℕ, ◌+◌, ◌*◌, ◌/◌, ◌%◌, ◌≤◌, true, List, [], ◌∷◌, ◌++◌, length, Some, sym, refl, ap, ◌∙◌, arith}
use Rattle.std.proofs.lemmas.Bool.{le-leb, eq-eqb, and_from, cond-true}
use Rattle.handshake.specs.Parts.{from_words}
use Rattle.handshake.specs.Hellos.{ServerHello, client_hello_sound, client_offer, server_hello_sound}
use Rattle.handshake.specs.Exchanges.{exchange_body}
use Rattle.handshake.specs.Kinds.{client_hello_parts, server_hello_parts, server_key_exchange_parts, body_size}
use Rattle.handshake.proofs.Lengths.{client_hello_size, server_hello_size}

pub offer_size : (r ss : List ℕ) → length r ≡ 32 → 1 ≤ length ss → length ss ≤ 32767
    → Some (39 + 2 * length ss) ≡ body_size (client_hello_parts (client_offer r ss))
offer_size r ss l a b =
    let n = client_hello_size (client_offer r ss) in
    let s : client_hello_sound (client_offer r ss) ≡ true =
    and_from _ _ (eq-eqb _ _ l) (and_from _ _ (and_from _ _ (le-leb 1 (length ss) a) (le-leb (length ss) 32767 b)) refl) in
    ap Some (omega arith) ∙ sym (cond-true _ _ _ (and_from _ _ s (le-leb _ _ (omega arith))))

pub answer_size : (h : ServerHello) → length h.random ≡ 32 → length h.session ≤ 32
    → Some (38 + length h.session) ≡ body_size (server_hello_parts h)
answer_size h l a =
    let n = server_hello_size h in
    let s : server_hello_sound h ≡ true = and_from _ _ (eq-eqb _ _ l) (le-leb _ 32 a) in
    ap Some (omega arith) ∙ sym (cond-true _ _ _ (and_from _ _ s (le-leb _ _ (omega arith))))

pub carried_size : (x : List ℕ) → 1 ≤ length x → length x ≤ 65535 → Some (2 + length x) ≡ body_size (server_key_exchange_parts x)
unfolding exchange_body
carried_size x a b =
    ap Some (omega arith) ∙ sym (cond-true _ _ _ (and_from _ _ (and_from _ _ (le-leb 1 (length x) a) (le-leb (length x) 65535 b)) (le-leb _ _ (omega arith))))

-- suites one after another
pub from_words-++ : (xs ys : List ℕ) → from_words (xs ++ ys) ≡ from_words xs ++ from_words ys
from_words-++ [] ys = refl
from_words-++ (x ∷ xs) ys = ap (λ z. x / 256 ∷ x % 256 ∷ z) (from_words-++ xs ys)
