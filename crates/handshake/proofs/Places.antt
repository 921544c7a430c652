-- Where parts stand in their message.
use Rattle.std.proofs.Common.{◌≡◌, ℕ, zero, suc, ◌+◌, List, [], ◌∷◌, ◌++◌, length, take, drop, Some, sym, refl, ap, ◌∙◌, append_assoc, arith, length-append}
use Rattle.std.specs.List.{slice_get}
use Rattle.std.proofs.lemmas.List.{take_at, drop_at, take_all}
use Rattle.octets.specs.Numbers.{three}
use Rattle.handshake.specs.declared.spans.Span.{Span}
use Rattle.handshake.specs.Parts.{sized3}
use Rattle.handshake.specs.Certificates.{from_certificates, certificate_body}
use Rattle.handshake.specs.Exchanges.{exchange_body}
use Rattle.handshake.specs.Kinds.{certificate_parts, server_key_exchange_parts, client_key_exchange_parts, octets_of}
use Rattle.handshake.specs.Places.{spans, exchange_span}

pub spans_counted : (at : ℕ) (cs : List (List ℕ)) → length (spans at cs) ≡ length cs
spans_counted at [] = refl
spans_counted at (c ∷ cs) = ap suc (spans_counted (at + (3 + length c)) cs)

-- behind octets that come before
placed : (before : List ℕ) (cs : List (List ℕ)) (at i : ℕ) (s : Span) (c : List ℕ) → length before ≡ at → slice_get (spans at cs) i ≡ Some s → slice_get cs i ≡ Some c
    → take s.len (drop s.offset (before ++ from_certificates cs)) ≡ c
placed before [] at i s c l e f = let z : ◌≡◌ {A = ℕ} 0 1 = cc in absurd (omega arith)
placed before (d ∷ cs) at zero s c l e f =
    let si : record { offset = at + 3; len = length d } ≡ s = cc in
    let di : d ≡ c = cc in
    let h = length-append before (three (length d)) in
    let k : length (before ++ three (length d)) ≡ at + 3 = omega arith in
    rw (← si, ← di) (ap (λ z. take (length d) (drop (at + 3) z)) (sym (append_assoc before (three (length d)) (d ++ from_certificates cs)))
    ∙ ap (take (length d)) (drop_at (before ++ three (length d)) (d ++ from_certificates cs) (at + 3) k)
    ∙ take_at d (from_certificates cs) (length d) refl)
placed before (d ∷ cs) at (suc i) s c l e f =
    let h = length-append before (sized3 d) in
    let k : length (before ++ sized3 d) ≡ at + (3 + length d) = omega arith in
    ap (λ z. take s.len (drop s.offset z)) (sym (append_assoc before (sized3 d) (from_certificates cs)))
    ∙ placed (before ++ sized3 d) cs (at + (3 + length d)) i s c k e f

pub certificate_placed : (cs : List (List ℕ)) (i : ℕ) (s : Span) (c : List ℕ) → slice_get (spans 7 cs) i ≡ Some s → slice_get cs i ≡ Some c
    → take s.len (drop s.offset (octets_of (certificate_parts cs))) ≡ c
unfolding certificate_body
certificate_placed cs i s c e f =
    placed (11 ∷ (three (length (certificate_body cs)) ++ three (length (from_certificates cs)))) cs 7 i s c refl e f

pub signature_placed : (x : List ℕ) → take (exchange_span x).len (drop (exchange_span x).offset (octets_of (server_key_exchange_parts x))) ≡ x
unfolding exchange_body
signature_placed x = take_all (length x) x (omega arith)

pub wrapped_placed : (x : List ℕ) → take (exchange_span x).len (drop (exchange_span x).offset (octets_of (client_key_exchange_parts x))) ≡ x
unfolding exchange_body
wrapped_placed x = take_all (length x) x (omega arith)
