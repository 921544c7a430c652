-- What was written reads back to its parts, kind by kind.
use Rattle.std.proofs.Common.{◌≡◌, ℕ, ◌+◌, ◌*◌, ◌/◌, ◌%◌, ◌<◌, ◌≤◌, true, false, ◌&&◌, eqb, leb, List, [], ◌∷◌, ◌++◌, length, take, drop, Some, sym, refl, ap, ◌∙◌, ap₂, append-nil, arith, length-append}
use lib.Seq.{take-append_seam, drop-append_seam}
use Rattle.std.proofs.lemmas.Bool.{leb-true, eqb-true, le-leb, lt-leb, eq-eqb, and_parts, and_from, cond-true}
use Rattle.handshake.specs.Parts.{versioned, sized1, sized2, sized3, cut, part, part1, part2, part3, words, from_words}
use Rattle.handshake.specs.Frames.{message_limit, message, too_long, ready, next, next_of}
use Rattle.handshake.specs.Hellos.{ClientHello, ServerHello, from_client_hello, client_hello_sound, client_hello_fits, client_offer, client_hello_body, read_client_hello, from_server_hello, server_hello_sound, server_answer, server_hello_body, read_server_hello}
use Rattle.handshake.specs.Certificates.{from_certificates, certificate_body, some_each, certificates_in, read_certificate}
use Rattle.handshake.specs.Exchanges.{exchange_body, read_exchange}
use Rattle.handshake.proofs.Lengths.{from_words-length}

-- ---- parts at the front
pub part_seam : (n : ℕ) (x rest : List ℕ) → length x ≡ n → part n (x ++ rest) ≡ cut x rest
part_seam n x rest l =
    let k : leb n (length (x ++ rest)) ≡ true = rw (length-append x rest) (le-leb n (length x + length rest) (omega arith)) in
    let t : take n (x ++ rest) ≡ x = rw (← l) (take-append_seam x rest) in
    let d : drop n (x ++ rest) ≡ rest = rw (← l) (drop-append_seam x rest) in
    rw k (ap₂ cut t d)

pub part_all : (n : ℕ) (x : List ℕ) → length x ≡ n → part n x ≡ cut x []
part_all n x l = rw (append-nil x) at (part_seam n x [] l)

pub in_two : (n : ℕ) → n ≡ n / 256 * 256 + n % 256
in_two n = omega arith

pub in_three : (n : ℕ) → n ≡ n / 65536 * 65536 + n / 256 % 256 * 256 + n % 256
in_three n = omega arith

pub part1_back : (x rest : List ℕ) → part1 (sized1 x ++ rest) ≡ cut x rest
part1_back x rest = part_seam (length x) x rest refl

pub part2_back : (x rest : List ℕ) → part2 (sized2 x ++ rest) ≡ cut x rest
part2_back x rest = part_seam _ x rest (in_two (length x))

pub part3_back : (x rest : List ℕ) → part3 (sized3 x ++ rest) ≡ cut x rest
part3_back x rest = part_seam _ x rest (in_three (length x))

-- ---- a message at the front
next_at : (t a b c n : ℕ) (x rest : List ℕ) → n ≡ length x → length x ≤ message_limit
    → next_of t a b c n (x ++ rest) ≡ ready t (t ∷ a ∷ b ∷ c ∷ x) x rest
next_at t a b c n x rest q h =
    let u : leb n message_limit ≡ true = le-leb n message_limit (omega arith) in
    let v : leb n (length (x ++ rest)) ≡ true = rw (length-append x rest) (le-leb n (length x + length rest) (omega arith)) in
    let y : take n (x ++ rest) ≡ x = rw q (take-append_seam x rest) in
    let z : drop n (x ++ rest) ≡ rest = rw q (drop-append_seam x rest) in
    rw (u, v, y, z) refl

pub next-message_then : (t : ℕ) (x rest : List ℕ) → length x ≤ message_limit → next (message t x ++ rest) ≡ ready t (message t x) x rest
next-message_then t x rest h = next_at t _ _ _ _ x rest (sym (in_three (length x))) h

pub next-message : (t : ℕ) (x : List ℕ) → length x ≤ message_limit → next (message t x) ≡ ready t (message t x) x []
next-message t x h = ap next (sym (append-nil (message t x))) ∙ next-message_then t x [] h

pub next_longer : (t : ℕ) (x rest : List ℕ) → message_limit < length x → next (message t x ++ rest) ≡ too_long
next_longer t x rest h = go _ (sym (in_three (length x)))
  where
    go : (n : ℕ) → n ≡ length x → next_of t (length x / 65536) (length x / 256 % 256) (length x % 256) n (x ++ rest) ≡ too_long
    go n q = let u : leb n message_limit ≡ false = lt-leb n message_limit (omega arith) in rw u

-- ---- hellos
pub words_back : (ss : List ℕ) → words (from_words ss) ≡ ss
words_back [] = refl
words_back (s ∷ ss) = ap₂ ◌∷◌ (sym (in_two s)) (words_back ss)

pub client_back : (h : ClientHello) → client_hello_sound h ≡ true → read_client_hello (from_client_hello h) ≡ Some h
unfolding read_client_hello
client_back h s =
    let r = h.random in
    let i = h.session in
    let x = from_words h.suites in
    let k = h.compressions in
    let lx = from_words-length h.suites in
    let s0 = and_parts (eqb (length r) 32) _ s in
    let s1 = and_parts (leb (length i) 32) _ s0.1 in
    let s2 = and_parts (leb 1 (length h.suites) && leb (length h.suites) 32767) _ s1.1 in
    let s3 = and_parts (leb 1 (length k)) _ s2.1 in
    let n1 : 1 ≤ length h.suites = leb-true 1 _ (and_parts (leb 1 (length h.suites)) _ s2.0).0 in
    let f : client_hello_fits (1 ∷ 1 ∷ []) i x k [] ≡ true =
    and_from _ _ s1.0 (and_from _ _ (eq-eqb (length x % 2) 0 (omega arith)) (and_from _ _ (le-leb 2 (length x) (omega arith)) (and_from _ _ s3.0 refl))) in
    let p32 = part_seam 32 r (sized1 i ++ (sized2 x ++ sized1 k)) (eqb-true _ _ s0.0) in
    rw (part_seam 2 (1 ∷ 1 ∷ []) (r ++ (sized1 i ++ (sized2 x ++ sized1 k))) refl, p32, part1_back i (sized2 x ++ sized1 k), part2_back x (sized1 k), part_all (length k) k refl, f, words_back h.suites) refl

pub server_back : (h : ServerHello) → server_hello_sound h ≡ true → read_server_hello (from_server_hello h) ≡ Some h
unfolding read_server_hello
server_back h s =
    let r = h.random in
    let i = h.session in
    let c = h.suite / 256 ∷ h.suite % 256 ∷ h.compression ∷ [] in
    let s0 = and_parts (eqb (length r) 32) _ s in
    let p32 = part_seam 32 r (sized1 i ++ c) (eqb-true _ _ s0.0) in
    rw (part_seam 2 (1 ∷ 1 ∷ []) (r ++ (sized1 i ++ c)) refl, p32, part1_back i c, s0.1)
    (ap (λ z. Some (record { random = r; session = i; suite = z; compression = h.compression })) (sym (in_two h.suite)))

-- ---- certificates
certificates_back : (os : List ℕ) (cs : List (List ℕ)) → some_each cs ≡ true → length cs ≤ length os → certificates_in os (from_certificates cs) ≡ Some cs
certificates_back [] [] h l = refl
certificates_back (o ∷ os) [] h l = refl
certificates_back [] (c ∷ cs) h l = absurd (omega arith)
certificates_back (o ∷ os) (c ∷ cs) h l =
    let s = and_parts (leb 1 (length c)) (some_each cs) h in
    rw (part3_back c (from_certificates cs), s.0, certificates_back os cs s.1 (omega arith)) refl

certificates_many : (cs : List (List ℕ)) → length cs ≤ length (from_certificates cs)
certificates_many [] = omega arith
certificates_many (c ∷ cs) = let h = certificates_many cs in let a = length-append c (from_certificates cs) in omega arith

pub read_back_certificate : (cs : List (List ℕ)) → some_each cs ≡ true → read_certificate (certificate_body cs) ≡ Some cs
unfolding read_certificate certificate_body
read_back_certificate cs h =
    let x = from_certificates cs in
    rw (part_all _ x (in_three (length x))) (certificates_back x cs h (certificates_many cs))

-- ---- key exchanges and Finished
pub read_back_exchange : (x : List ℕ) → 1 ≤ length x → read_exchange (exchange_body x) ≡ Some x
unfolding exchange_body
read_back_exchange x h =
    let n = in_two (length x) in
    cond-true _ _ _ (and_from _ _ (le-leb 1 (length x / 256 * 256 + length x % 256) (omega arith)) (eq-eqb _ _ n))

-- ---- what the ends write
pub read_back_client : (r ss : List ℕ) → length r ≡ 32 → 1 ≤ length ss → length ss ≤ 32767 → read_client_hello (client_hello_body r ss) ≡ Some (client_offer r ss)
unfolding client_hello_body
read_back_client r ss l a b =
    client_back (client_offer r ss) (and_from _ _ (eq-eqb _ _ l) (and_from _ _ (and_from _ _ (le-leb 1 (length ss) a) (le-leb (length ss) 32767 b)) refl))

pub client_versioned : (r ss : List ℕ) → versioned (client_hello_body r ss) ≡ true
unfolding client_hello_body
client_versioned r ss = refl

pub read_back_server : (r id : List ℕ) (s : ℕ) → length r ≡ 32 → length id ≤ 32 → read_server_hello (server_hello_body r id s) ≡ Some (server_answer r id s)
unfolding server_hello_body
read_back_server r id s l i = server_back (server_answer r id s) (and_from _ _ (eq-eqb _ _ l) (le-leb _ 32 i))

pub server_versioned : (r id : List ℕ) (s : ℕ) → versioned (server_hello_body r id s) ≡ true
unfolding server_hello_body
server_versioned r id s = refl
