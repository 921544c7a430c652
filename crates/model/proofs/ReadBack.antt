-- What was written reads back to its parts, message by message.
use Rattle.std.proofs.Common.{◌≡◌, ℕ, ◌+◌, ◌*◌, ◌/◌, ◌%◌, ◌<◌, ◌≤◌, true, false, eqb, leb, List, [], ◌∷◌, ◌++◌, length, take, drop, Some, sym, refl, ap, ap₂, append-nil, arith, length-append}
use lib.Seq.{take-append_seam, drop-append_seam, take-length, drop-length}
use Rattle.handshake.specs.Parts.{versioned, cut, part, words, from_words}
use Rattle.handshake.specs.Frames.{message_limit, message, ready, next, next_of}
use Rattle.handshake.specs.Hellos.{client_hello_body, server_hello_body, read_client_hello, read_server_hello}
use Rattle.handshake.specs.Certificates.{certificate_body, from_certificates, read_certificate, certificates_in}
use Rattle.handshake.specs.Exchanges.{exchange_body, read_exchange}

pub leb_is : (m n : ℕ) → m ≤ n → leb m n ≡ true
leb_is m n h = grind arith

pub leb_not : (m n : ℕ) → n < m → leb m n ≡ false
leb_not m n h = grind arith

pub eqb_is : (m n : ℕ) → m ≡ n → eqb m n ≡ true
eqb_is m n h = grind arith

-- a part at the front
pub part_seam : (n : ℕ) (x rest : List ℕ) → length x ≡ n → part n (x ++ rest) ≡ cut x rest
part_seam n x rest l =
    let k : leb n (length (x ++ rest)) ≡ true = rw (length-append x rest) (leb_is n (length x + length rest) (omega arith)) in
    let t : take n (x ++ rest) ≡ x = rw (← l) (take-append_seam x rest) in
    let d : drop n (x ++ rest) ≡ rest = rw (← l) (drop-append_seam x rest) in
    rw k (ap₂ cut t d)

pub part_all : (n : ℕ) (x : List ℕ) → length x ≡ n → part n x ≡ cut x []
part_all n x l = rw (append-nil x) at (part_seam n x [] l)

pub in_two : (n : ℕ) → n ≡ n / 256 * 256 + n % 256
in_two n = omega arith

pub in_three : (n : ℕ) → n ≡ n / 65536 * 65536 + n / 256 % 256 * 256 + n % 256
in_three n = omega arith

-- a message at the front of the buffer
pub next-message : (t : ℕ) (x : List ℕ) → length x ≤ message_limit → next (message t x) ≡ ready t (message t x) x []
next-message t x h = go _ (sym (in_three (length x)))
  where
    go : (n : ℕ) → n ≡ length x → next_of t (length x / 65536) (length x / 256 % 256) (length x % 256) n x ≡ ready t (message t x) x []
    go n q =
        let a : leb n message_limit ≡ true = leb_is n message_limit (omega arith) in
        let b : leb n (length x) ≡ true = leb_is n (length x) (omega arith) in
        let u : take n x ≡ x = rw q (take-length x) in
        let v : drop n x ≡ [] = rw q (drop-length x) in
        rw (a, b, u, v) refl

-- ---- hellos
pub from_words-length : (ss : List ℕ) → length (from_words ss) ≡ 2 * length ss
from_words-length [] = refl
from_words-length (s ∷ ss) = let h = from_words-length ss in omega arith

pub words_back : (ss : List ℕ) → words (from_words ss) ≡ ss
words_back [] = refl
words_back (s ∷ ss) = ap₂ ◌∷◌ (sym (in_two s)) (words_back ss)

pub read_back_client : (r ss : List ℕ) → length r ≡ 32 → 1 ≤ length ss → read_client_hello (client_hello_body r ss) ≡ Some (record { random = r; session = []; suites = ss; compressions = 0 ∷ [] })
unfolding read_client_hello client_hello_body
read_back_client r ss l n =
    let x = from_words ss in
    let lx = from_words-length ss in
    let e1 : eqb (length x % 2) 0 ≡ true = eqb_is _ 0 (omega arith) in
    let e2 : leb 2 (length x) ≡ true = leb_is 2 _ (omega arith) in
    let w = words_back ss in
    let p32 = part_seam 32 r (0 ∷ (length x / 256 ∷ (length x % 256 ∷ (x ++ (1 ∷ (0 ∷ [])))))) l in
    let p0 = part_seam 0 [] (length x / 256 ∷ (length x % 256 ∷ (x ++ (1 ∷ (0 ∷ []))))) refl in
    let pw = part_seam (length x / 256 * 256 + length x % 256) x (1 ∷ (0 ∷ [])) (in_two (length x)) in
    rw (part_seam 2 (1 ∷ (1 ∷ [])) (r ++ (0 ∷ (length x / 256 ∷ (length x % 256 ∷ (x ++ (1 ∷ (0 ∷ []))))))) refl, p32, p0, pw, e1, e2, w) refl

pub client_hello_length : (r ss : List ℕ) → length r ≡ 32 → length ss ≤ 8 → length (client_hello_body r ss) ≤ message_limit
unfolding client_hello_body
client_hello_length r ss l n =
    let lx = from_words-length ss in
    let a = length-append r (0 ∷ (length (from_words ss) / 256 ∷ (length (from_words ss) % 256 ∷ (from_words ss ++ (1 ∷ (0 ∷ [])))))) in
    let b = length-append (from_words ss) (1 ∷ (0 ∷ [])) in
    omega arith

pub client_versioned : (r ss : List ℕ) → versioned (client_hello_body r ss) ≡ true
unfolding client_hello_body
client_versioned r ss = refl

pub read_back_server : (r id : List ℕ) (s : ℕ) → length r ≡ 32 → length id ≡ 32 → read_server_hello (server_hello_body r id s) ≡ Some (record { random = r; session = id; suite = s; compression = 0 })
unfolding read_server_hello server_hello_body
read_back_server r id s l i =
    let p32 = part_seam 32 r (length id ∷ (id ++ (s / 256 ∷ (s % 256 ∷ (0 ∷ []))))) l in
    let pi = part_seam (length id) id (s / 256 ∷ (s % 256 ∷ (0 ∷ []))) refl in
    let e : leb (length id) 32 ≡ true = leb_is _ 32 (omega arith) in
    rw (part_seam 2 (1 ∷ (1 ∷ [])) (r ++ (length id ∷ (id ++ (s / 256 ∷ (s % 256 ∷ (0 ∷ [])))))) refl, p32, pi, e) (ap (λ z. Some (record { random = r; session = id; suite = z; compression = 0 })) (sym (in_two s)))

pub server_hello_length : (r id : List ℕ) (s : ℕ) → length r ≡ 32 → length id ≡ 32 → length (server_hello_body r id s) ≤ message_limit
unfolding server_hello_body
server_hello_length r id s l i =
    let a = length-append r (length id ∷ (id ++ (s / 256 ∷ (s % 256 ∷ (0 ∷ []))))) in
    let b = length-append id (s / 256 ∷ (s % 256 ∷ (0 ∷ []))) in
    omega arith

pub server_versioned : (r id : List ℕ) (s : ℕ) → versioned (server_hello_body r id s) ≡ true
unfolding server_hello_body
server_versioned r id s = refl

-- ---- certificates
abbrev pub AllSome : List (List ℕ) → Type 0
AllSome [] = Unit {0}
AllSome (c ∷ cs) = (1 ≤ length c) × AllSome cs

certificates_back : (os : List ℕ) (cs : List (List ℕ)) → AllSome cs → length cs ≤ length os → certificates_in os (from_certificates cs) ≡ Some cs
certificates_back [] [] h l = refl
certificates_back (o ∷ os) [] h l = refl
certificates_back [] (c ∷ cs) h l = absurd (omega arith)
certificates_back (o ∷ os) (c ∷ cs) h l =
    let p = part_seam (length c / 65536 * 65536 + length c / 256 % 256 * 256 + length c % 256) c (from_certificates cs) (in_three (length c)) in
    let e : leb 1 (length c) ≡ true = leb_is 1 _ h.0 in
    rw (p, e, certificates_back os cs h.1 (omega arith)) refl

certificates_many : (cs : List (List ℕ)) → length cs ≤ length (from_certificates cs)
certificates_many [] = omega arith
certificates_many (c ∷ cs) = let h = certificates_many cs in let a = length-append c (from_certificates cs) in omega arith

pub read_back_certificate : (cs : List (List ℕ)) → AllSome cs → read_certificate (certificate_body cs) ≡ Some cs
unfolding read_certificate certificate_body
read_back_certificate cs h =
    let x = from_certificates cs in
    let p = part_all (length x / 65536 * 65536 + length x / 256 % 256 * 256 + length x % 256) x (in_three (length x)) in
    rw p (certificates_back x cs h (certificates_many cs))

pub certificate_length : (a b : List ℕ) → length a ≤ 1500 → length b ≤ 1500 → length (certificate_body (a ∷ (b ∷ []))) ≤ message_limit
unfolding certificate_body
certificate_length a b l m =
    let p = length-append a (from_certificates (b ∷ [])) in
    let q = length-append b (from_certificates []) in
    omega arith

-- ---- key exchanges
pub read_back_exchange : (x : List ℕ) → 1 ≤ length x → read_exchange (exchange_body x) ≡ Some x
unfolding exchange_body
read_back_exchange x h =
    let n = in_two (length x) in
    let e : leb 1 (length x / 256 * 256 + length x % 256) ≡ true = leb_is 1 _ (omega arith) in
    let q : eqb (length x) (length x / 256 * 256 + length x % 256) ≡ true = eqb_is _ _ n in
    rw (e, q) refl

pub exchange_length : (x : List ℕ) → length x ≤ 512 → length (exchange_body x) ≤ message_limit
unfolding exchange_body
exchange_length x h = omega arith
