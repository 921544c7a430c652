-- What the ends write keeps the layouts and the limits.
use Rattle.std.proofs.Common.{◌≡◌, ℕ, ◌≤◌, true, ◌&&◌, leb, List, [], ◌∷◌, length, refl, arith, length-append}
use Rattle.std.proofs.lemmas.Bool.{le-leb, eq-eqb, and_from}
use Rattle.handshake.specs.Hellos.{ServerHello, client_offer}
use Rattle.handshake.specs.Certificates.{from_certificates, certificate_body}
use Rattle.handshake.specs.Exchanges.{exchange_body}
use Rattle.handshake.specs.Kinds.{Parts, client_hello_parts, server_hello_parts, certificate_parts, server_key_exchange_parts, server_hello_done_parts, client_key_exchange_parts, finished_parts, body_of, is_sound}
use Rattle.handshake.specs.Laws.{Fitting}
use Rattle.handshake.proofs.Lengths.{client_hello_size, server_hello_size}

fitting : (p : Parts) → is_sound p ≡ true → length (body_of p) ≤ 3009 → Fitting p
fitting p s h = record { sound = s; body = h; taken = omega arith; recorded = omega arith }

pub client_fits : (r ss : List ℕ) → length r ≡ 32 → 1 ≤ length ss → length ss ≤ 8 → Fitting (client_hello_parts (client_offer r ss))
client_fits r ss l a b =
    let n = client_hello_size (client_offer r ss) in
    fitting _ (and_from _ _ (eq-eqb _ _ l) (and_from _ _ (and_from _ _ (le-leb 1 (length ss) a) (le-leb (length ss) 32767 (omega arith))) refl)) (omega arith)

pub server_fits : (h : ServerHello) → length h.random ≡ 32 → length h.session ≤ 32 → Fitting (server_hello_parts h)
server_fits h l i = let n = server_hello_size h in fitting _ (and_from _ _ (eq-eqb _ _ l) (le-leb _ 32 i)) (omega arith)

pub certificates_fit : (a b : List ℕ) → 1 ≤ length a → length a ≤ 1500 → 1 ≤ length b → length b ≤ 1500 → Fitting (certificate_parts (a ∷ b ∷ []))
unfolding certificate_body
certificates_fit a b la ha lb hb =
    let p = length-append a (from_certificates (b ∷ [])) in
    let q = length-append b (from_certificates []) in
    fitting _
    (and_from _ _ (and_from _ _ (le-leb 1 (length a) la) (and_from _ _ (le-leb 1 (length b) lb) refl)) (le-leb (length (from_certificates (a ∷ b ∷ []))) 16777215 (omega arith)))
    (omega arith)

carried_sound : (x : List ℕ) → 1 ≤ length x → length x ≤ 512 → leb 1 (length x) && leb (length x) 65535 ≡ true
carried_sound x l h = and_from _ _ (le-leb 1 (length x) l) (le-leb (length x) 65535 (omega arith))

pub signature_fits : (x : List ℕ) → 1 ≤ length x → length x ≤ 512 → Fitting (server_key_exchange_parts x)
unfolding exchange_body
signature_fits x l h = fitting _ (carried_sound x l h) (omega arith)

pub wrapped_fits : (x : List ℕ) → 1 ≤ length x → length x ≤ 512 → Fitting (client_key_exchange_parts x)
unfolding exchange_body
wrapped_fits x l h = fitting _ (carried_sound x l h) (omega arith)

pub done_fits : Fitting server_hello_done_parts
done_fits = fitting _ refl (omega arith)

pub finished_fits : (v : List ℕ) → length v ≡ 12 → Fitting (finished_parts v)
finished_fits v l = fitting _ (eq-eqb (length v) 12 l) (omega arith)
