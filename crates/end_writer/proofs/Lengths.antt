-- The messages that ends write can be written, and are short.
use Rattle.std.proofs.Common.{◌≡◌, ℕ, ◌≤◌, true, List, [], ◌∷◌, length, sym, arith}
use Rattle.std.proofs.lemmas.Bool.{le-leb, leb-true, and_from, and_parts, true≢false}
use Rattle.handshake.specs.Hellos.{client_offer, server_answer}
use Rattle.handshake.specs.Exchanges.{exchange_body}
use Rattle.handshake.specs.Kinds.{Parts, client_hello_parts, server_hello_parts, certificate_parts, server_key_exchange_parts, client_key_exchange_parts, body_of, writable}
use Rattle.handshake.specs.Laws.{Fitting}
use Rattle.handshake.proofs.Lengths.{client_hello_size, server_hello_size}
use Rattle.handshake.proofs.Fits as fits
use Rattle.model.specs.Refusals.{certificates_fit}

-- parts that can be written to a body of at most so many octets
pub record Within (p : Parts) (n : ℕ) : Type 0 where
  pub fits : writable p ≡ true
  pub most : length (body_of p) ≤ 16380
  pub short : length (body_of p) ≤ n

within : (p : Parts) (n : ℕ) → Fitting p → length (body_of p) ≤ n → Within p n
within p n f s = let b = f.body in record { fits = and_from _ _ f.sound (le-leb _ _ (omega arith)); most = omega arith; short = s }

pub offer_within : (r ss : List ℕ) → length r ≡ 32 → 1 ≤ length ss → length ss ≤ 8 → Within (client_hello_parts (client_offer r ss)) 55
offer_within r ss l a b = let n = client_hello_size (client_offer r ss) in within _ _ (fits.client_fits r ss l a b) (omega arith)

pub answer_within : (r id : List ℕ) (s : ℕ) → length r ≡ 32 → length id ≤ 32 → Within (server_hello_parts (server_answer r id s)) 70
answer_within r id s l a = let n = server_hello_size (server_answer r id s) in within _ _ (fits.server_fits (server_answer r id s) l a) (omega arith)

pub chain_within : (cs : List (List ℕ)) → certificates_fit cs ≡ true → Within (certificate_parts cs) 3009
chain_within [] e = absurd (true≢false (sym e))
chain_within (a ∷ []) e = absurd (true≢false (sym e))
chain_within (a ∷ (b ∷ [])) e =
    let x = and_parts _ _ e in
    let y = and_parts _ _ x.0 in
    let z = and_parts _ _ x.1 in
    let f = fits.certificates_fit a b (leb-true _ _ y.0) (leb-true _ _ y.1) (leb-true _ _ z.0) (leb-true _ _ z.1) in
    within _ _ f f.body
chain_within (a ∷ (b ∷ (c ∷ cs))) e = absurd (true≢false (sym e))

pub signature_within : (x : List ℕ) → 1 ≤ length x → length x ≤ 512 → Within (server_key_exchange_parts x) 514
unfolding exchange_body
signature_within x a b = within _ _ (fits.signature_fits x a b) (omega arith)

pub wrapped_within : (x : List ℕ) → 1 ≤ length x → length x ≤ 512 → Within (client_key_exchange_parts x) 514
unfolding exchange_body
wrapped_within x a b = within _ _ (fits.wrapped_fits x a b) (omega arith)
