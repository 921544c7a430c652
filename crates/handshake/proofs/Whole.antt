-- The laws for every kind at once, of bodies and of whole messages.
use Rattle.std.proofs.Common.{◌≡◌, ℕ, zero, suc, ◌+◌, ◌*◌, ◌/◌, ◌%◌, ◌<◌, ◌≤◌, Bool, true, false, cond, ◌&&◌, eqb, leb, List, [], ◌∷◌, ◌++◌, length, take, drop, Some, None, Ok, Err, Option, Result, sym, refl, ap, ◌∙◌, ap₂, inl, inr, append-nil, arith}
use Rattle.std.specs.Option.{option_map}
use Rattle.std.proofs.lemmas.List.{length-take, length-take-le, take-append-drop}
use Rattle.std.proofs.lemmas.Bool.{cases_Bool, leb-true, eqb-true, le-leb, lt-leb, eq-eqb, and_parts, and_right, cond-true, cond-false}
use Rattle.records.specs.declared.fault.Fault.{Fault}
use Rattle.octets.specs.Octets.{Octets}
use Rattle.octets.proofs.Members.{octets_take}
use Rattle.handshake.specs.declared.types.HandshakeType.{HandshakeType}
use Rattle.handshake.specs.declared.types.HandshakeType as types
use Rattle.handshake.specs.Parts.{is_none, other_version}
use Rattle.handshake.specs.Types.{type_number, is_hello}
use Rattle.handshake.specs.Frames.{message_limit, message, Next, not_ready, too_long, ready, next, next_of}
use Rattle.handshake.specs.Hellos as hellos
use Rattle.handshake.specs.Exchanges.{finished_sound}
use Rattle.handshake.specs.Certificates.{some_each}
use Rattle.handshake.specs.Kinds.{Parts, client_hello_parts, server_hello_parts, certificate_parts, server_key_exchange_parts, server_hello_done_parts, client_key_exchange_parts, finished_parts, type_of, body_of, is_sound, read_body, octets_of}
use Rattle.handshake.specs.Faults.{layout_fault, or_fault, read_next, read_message}
use Rattle.handshake.proofs.ReadBack.{next-message, in_three, client_back, server_back, read_back_certificate, read_back_exchange}
use Rattle.handshake.proofs.WriteBack.{none_left, passed, low_three, client_again, server_again, certificate_again, exchange_again}

-- ---- bodies
pub body_back : (p : Parts) → is_sound p ≡ true → read_body (type_of p) (body_of p) ≡ Some p
body_back (client_hello_parts h) s = ap (option_map client_hello_parts) (client_back h s)
body_back (server_hello_parts h) s = ap (option_map server_hello_parts) (server_back h s)
body_back (certificate_parts cs) s = ap (option_map certificate_parts) (read_back_certificate cs (and_parts (some_each cs) _ s).0)
body_back (server_key_exchange_parts x) s = ap (option_map server_key_exchange_parts) (read_back_exchange x (leb-true 1 _ (and_parts (leb 1 (length x)) _ s).0))
body_back server_hello_done_parts s = refl
body_back (client_key_exchange_parts x) s = ap (option_map client_key_exchange_parts) (read_back_exchange x (leb-true 1 _ (and_parts (leb 1 (length x)) _ s).0))
body_back (finished_parts v) s = ap (option_map finished_parts) (cond-true _ _ _ s)

mapped_is : {A B R : Type 0} (f : A → B) (o : Option A) (b : B) → option_map f o ≡ Some b → ((a : A) → o ≡ Some a → f a ≡ b → R) → R
mapped_is f None b e g = let z : ◌≡◌ {A = ℕ} 0 1 = cc in absurd (omega arith)
mapped_is f (Some a) b e g = let i : f a ≡ b = cc in g a refl i

pub body_again : (k : HandshakeType) (xs : List ℕ) (p : Parts) → Octets xs → read_body k xs ≡ Some p
    → (type_of p ≡ k) × ((is_sound p ≡ true) × (body_of p ≡ xs))
body_again types.TheVariants.ClientHello xs p o e =
    mapped_is client_hello_parts (hellos.read_client_hello xs) p e (λ h r i. rw (← i) (refl, client_again xs h o r))
body_again types.TheVariants.ServerHello xs p o e =
    mapped_is server_hello_parts (hellos.read_server_hello xs) p e (λ h r i. rw (← i) (refl, server_again xs h o r))
body_again types.TheVariants.Certificate xs p o e = mapped_is certificate_parts _ p e (λ cs r i. rw (← i) (refl, certificate_again xs cs o r))
body_again types.TheVariants.ServerKeyExchange xs p o e = mapped_is server_key_exchange_parts _ p e (λ x r i. rw (← i) (refl, exchange_again xs x o r))
body_again types.TheVariants.ServerHelloDone xs p o e =
    let y = passed (is_none xs) (Some server_hello_done_parts) p e in
    let i : server_hello_done_parts ≡ p = cc in
    rw (← i) (refl, (refl, sym (none_left xs y.0)))
body_again types.TheVariants.ClientKeyExchange xs p o e = mapped_is client_key_exchange_parts _ p e (λ x r i. rw (← i) (refl, exchange_again xs x o r))
body_again types.TheVariants.Finished xs p o e =
    mapped_is finished_parts _ p e (λ v r i.
    let y = passed (finished_sound xs) (Some xs) v r in
    let j : xs ≡ v = cc in
    rw (← i, ← j) (refl, (y.0, refl)))

pub parts_fix : (k : HandshakeType) (xs ys : List ℕ) (p : Parts) → Octets xs → Octets ys → read_body k xs ≡ Some p → read_body k ys ≡ Some p → xs ≡ ys
parts_fix k xs ys p o q e f = sym (body_again k xs p o e).1.1 ∙ (body_again k ys p q f).1.1

-- ---- frames
pub record Framed (t : ℕ) (xs m x rest : List ℕ) : Type 0 where
  pub again : message t x ≡ m
  pub join : m ++ rest ≡ xs
  pub short : length x ≤ message_limit
  pub octets : Octets x

framed_of : (u a b c n : ℕ) (ys : List ℕ) → b < 256 → c < 256 → Octets ys → n ≡ a * 65536 + b * 256 + c → n ≤ message_limit → n ≤ length ys
    → Framed u (u ∷ a ∷ b ∷ c ∷ ys) (u ∷ a ∷ b ∷ c ∷ take n ys) (take n ys) (drop n ys)
framed_of u a b c n ys hb hc o e h l =
    let k : length (take n ys) ≡ n = length-take-le n ys l in
    let d = low_three a b c (length (take n ys)) hb hc (k ∙ e) in
    record {
      again = ap₂ (λ x y. u ∷ x ∷ y) d.0 (ap₂ (λ x y. x ∷ y ∷ take n ys) d.1.0 d.1.1);
      join = ap (λ z. u ∷ a ∷ b ∷ c ∷ z) (take-append-drop n ys);
      short = omega arith;
      octets = octets_take n ys o;
    }

pub framed_again : (t : ℕ) (xs m x rest : List ℕ) → Octets xs → next xs ≡ ready t m x rest → Framed t xs m x rest
framed_again t [] m x rest o e = let z : ◌≡◌ {A = ℕ} 0 1 = cc in absurd (omega arith)
framed_again t (a ∷ []) m x rest o e = let z : ◌≡◌ {A = ℕ} 0 1 = cc in absurd (omega arith)
framed_again t (a ∷ b ∷ []) m x rest o e = let z : ◌≡◌ {A = ℕ} 0 1 = cc in absurd (omega arith)
framed_again t (a ∷ b ∷ c ∷ []) m x rest o e = let z : ◌≡◌ {A = ℕ} 0 1 = cc in absurd (omega arith)
framed_again t (u ∷ a ∷ b ∷ c ∷ ys) m x rest o e = go (a * 65536 + b * 256 + c) refl e
  where
    go : (n : ℕ) → n ≡ a * 65536 + b * 256 + c → next_of u a b c n ys ≡ ready t m x rest → Framed t (u ∷ a ∷ b ∷ c ∷ ys) m x rest
    go n i q = elim (cases_Bool (leb n message_limit)) [
      | inr f ↦ (let w : too_long ≡ ready t m x rest = rw f at q in let z : ◌≡◌ {A = ℕ} 0 1 = cc in absurd (omega arith))
      | inl p ↦ elim (cases_Bool (leb n (length ys))) [
        | inr f ↦ (let w : not_ready ≡ ready t m x rest = rw (p, f) at q in let z : ◌≡◌ {A = ℕ} 0 1 = cc in absurd (omega arith))
        | inl l ↦ (let w : ready u (u ∷ a ∷ b ∷ c ∷ take n ys) (take n ys) (drop n ys) ≡ ready t m x rest = rw (p, l) at q in
            let iu : u ≡ t = cc in
            let im : u ∷ a ∷ b ∷ c ∷ take n ys ≡ m = cc in
            let ix : take n ys ≡ x = cc in
            let ir : drop n ys ≡ rest = cc in
            let r = framed_of u a b c n ys o.1.1.0 o.1.1.1.0 o.1.1.1.1 i (leb-true n message_limit p) (leb-true n (length ys) l) in
            record {
              again = ap₂ message (sym iu) (sym ix) ∙ r.again ∙ im;
              join = ap₂ ◌++◌ (sym im) (sym ir) ∙ r.join;
              short = rw (← ix) r.short;
              octets = rw (← ix) r.octets;
            })
      ]
    ]

pub begun : (t : ℕ) (x : List ℕ) (k : ℕ) → length x ≤ message_limit → k < 4 + length x → next (take k (message t x)) ≡ not_ready
begun t x zero h l = refl
begun t x (suc zero) h l = refl
begun t x (suc (suc zero)) h l = refl
begun t x (suc (suc (suc zero))) h l = refl
begun t x (suc (suc (suc (suc j)))) h l = go _ (sym (in_three (length x)))
  where
    go : (n : ℕ) → n ≡ length x → next_of t (length x / 65536) (length x / 256 % 256) (length x % 256) n (take j x) ≡ not_ready
    go n q =
        let lt = length-take j x in
        let a : leb n message_limit ≡ true = le-leb n message_limit (omega arith) in
        let b : leb n (length (take j x)) ≡ false = lt-leb n (length (take j x)) (omega arith) in
        rw (a, b)

-- ---- whole messages
version_fine : (p : Parts) → is_hello (type_of p) && other_version (body_of p) ≡ false
version_fine (client_hello_parts h) = and_right (leb 2 (length (hellos.from_client_hello h))) false refl
version_fine (server_hello_parts h) = and_right (leb 2 (length (hellos.from_server_hello h))) false refl
version_fine (certificate_parts cs) = refl
version_fine (server_key_exchange_parts x) = refl
version_fine server_hello_done_parts = refl
version_fine (client_key_exchange_parts x) = refl
version_fine (finished_parts v) = refl

pub message_back : (p : Parts) → is_sound p ≡ true → length (body_of p) ≤ message_limit → read_message (type_of p) (octets_of p) ≡ Ok p
message_back p s h =
    let t = type_number (type_of p) in
    ap (read_next (type_of p)) (next-message t (body_of p) h)
    ∙ cond-true _ _ _ (eq-eqb t t refl)
    ∙ cond-false _ _ _ (version_fine p)
    ∙ ap (λ o. or_fault o layout_fault) (body_back p s)

kept : {A : Type 0} (b : Bool) (r : Result A Fault) (f : Fault) (a : A) → cond b r (Err f) ≡ Ok a → (b ≡ true) × (r ≡ Ok a)
kept true r f a e = (refl, e)
kept false r f a e = let z : ◌≡◌ {A = ℕ} 0 1 = cc in absurd (omega arith)

other : {A : Type 0} (b : Bool) (r : Result A Fault) (f : Fault) (a : A) → cond b (Err f) r ≡ Ok a → r ≡ Ok a
other true r f a e = let z : ◌≡◌ {A = ℕ} 0 1 = cc in absurd (omega arith)
other false r f a e = e

found : {A : Type 0} (o : Option A) (f : Fault) (a : A) → or_fault o f ≡ Ok a → o ≡ Some a
found None f a e = let z : ◌≡◌ {A = ℕ} 0 1 = cc in absurd (omega arith)
found (Some x) f a e = let i : x ≡ a = cc in ap Some i

pub message_again : (k : HandshakeType) (xs : List ℕ) (p : Parts) → Octets xs → read_message k xs ≡ Ok p
    → (type_of p ≡ k) × ((is_sound p ≡ true) × ((octets_of p ≡ xs) × (length (body_of p) ≤ message_limit)))
message_again k xs p o e = go (next xs) refl e
  where
    go : (n : Next) → next xs ≡ n → read_next k n ≡ Ok p
        → (type_of p ≡ k) × ((is_sound p ≡ true) × ((octets_of p ≡ xs) × (length (body_of p) ≤ message_limit)))
    go not_ready i q = let z : ◌≡◌ {A = ℕ} 0 1 = cc in absurd (omega arith)
    go too_long i q = let z : ◌≡◌ {A = ℕ} 0 1 = cc in absurd (omega arith)
    go (ready t m x rest) i q =
        let f = framed_again t xs m x rest o i in
        let a = kept (eqb t (type_number k)) _ _ p q in
        let b = kept (is_none rest) _ _ p a.1 in
        let c = found (read_body k x) _ p (other (is_hello k && other_version x) _ _ p b.1) in
        let d = body_again k x p f.octets c in
        let tk : t ≡ type_number k = eqb-true t _ a.0 in
        let tp : type_number (type_of p) ≡ t = ap type_number d.0 ∙ sym tk in (
          d.0,
          (
            d.1.0,
            (
              ap₂ message tp d.1.1 ∙ f.again ∙ sym (append-nil m) ∙ ap (λ z. m ++ z) (sym (none_left rest b.0)) ∙ f.join,
              rw d.1.1 f.short,
            ),
          ),
        )
