-- What was read is what its parts write, kind by kind; of octets.
use Rattle.std.proofs.Common.{◌≡◌, ℕ, ◌+◌, ◌*◌, ◌/◌, ◌%◌, ◌<◌, ◌≤◌, Bool, true, false, cond, ◌&&◌, eqb, leb, List, [], ◌∷◌, ◌++◌, length, take, drop, Some, None, Option, sym, refl, ap, ◌∙◌, ap₂, append-nil, arith}
use Rattle.std.proofs.lemmas.List.{take-append-drop}
use Rattle.std.proofs.lemmas.Bool.{leb-true, eqb-true, le-leb, eq-eqb, and_parts, and_from}
use Rattle.octets.specs.Octets.{Octets}
use Rattle.octets.specs.Numbers.{two}
use Rattle.octets.proofs.Members.{octets_take, octets_drop}
use Rattle.handshake.specs.Parts.{is_none, versioned, sized1, sized2, sized3, Cut, uncut, cut, part, part1, part2, part3, after_cut, words, from_words}
use Rattle.handshake.specs.Hellos.{ClientHello, ServerHello, from_client_hello, client_hello_sound, client_hello_fits, read_client_hello, from_server_hello, server_hello_sound, server_choice, read_server_hello}
use Rattle.handshake.specs.Certificates.{from_certificates, certificate_body, some_each, certificate_sound, put_first, certificates_in, read_certificate}
use Rattle.handshake.specs.Exchanges.{exchange_body, exchange_sound, read_exchange}
use Rattle.handshake.proofs.Cutting.{part_cut, part_lengths}
use Rattle.handshake.proofs.Lengths.{words-length}

-- ---- what a reader that came through has met
pub went : {A R : Type 0} (k : Cut) (f : List ℕ → List ℕ → Option A) (a : A) → after_cut k f ≡ Some a
    → ((x rest : List ℕ) → k ≡ cut x rest → f x rest ≡ Some a → R) → R
went uncut f a e g = let z : ◌≡◌ {A = ℕ} 0 1 = cc in absurd (omega arith)
went (cut x rest) f a e g = g x rest refl e

pub passed : {A : Type 0} (b : Bool) (o : Option A) (a : A) → cond b o None ≡ Some a → (b ≡ true) × (o ≡ Some a)
passed true o a e = (refl, e)
passed false o a e = let z : ◌≡◌ {A = ℕ} 0 1 = cc in absurd (omega arith)

pub none_left : (xs : List ℕ) → is_none xs ≡ true → xs ≡ []
none_left [] h = refl
none_left (x ∷ xs) h = let z : ◌≡◌ {A = ℕ} 0 1 = cc in absurd (omega arith)

-- ---- a part cut off and what follows make the list again
pub record Joins (front xs c rest : List ℕ) : Type 0 where
  pub join : front ++ rest ≡ xs
  pub here : Octets c
  pub left : Octets rest

pub part_joins : (n : ℕ) (xs c rest : List ℕ) → Octets xs → part n xs ≡ cut c rest → Joins c xs c rest
part_joins n xs c rest o e = go c rest (part_cut n xs c rest e).1.0 (part_cut n xs c rest e).1.1
  where
    go : (y z : List ℕ) → take n xs ≡ y → drop n xs ≡ z → Joins y xs y z
    go y z p q =
        record {
          join = ap₂ ◌++◌ (sym p) (sym q) ∙ take-append-drop n xs;
          here = rw (← p) (octets_take n xs o);
          left = rw (← q) (octets_drop n xs o);
        }

pub part1_joins : (xs c rest : List ℕ) → Octets xs → part1 xs ≡ cut c rest → Joins (sized1 c) xs c rest
part1_joins [] c rest o e = let z : ◌≡◌ {A = ℕ} 0 1 = cc in absurd (omega arith)
part1_joins (n ∷ xs) c rest o e =
    let j = part_joins n xs c rest o.1 e in
    record { join = ap₂ ◌∷◌ (part_lengths n xs c rest e).0 j.join; here = j.here; left = j.left }

low_two : (a b n : ℕ) → b < 256 → n ≡ a * 256 + b → (n / 256 ≡ a) × (n % 256 ≡ b)
low_two a b n h e = (omega arith, omega arith)

pub low_three : (a b c n : ℕ) → b < 256 → c < 256 → n ≡ a * 65536 + b * 256 + c → (n / 65536 ≡ a) × ((n / 256 % 256 ≡ b) × (n % 256 ≡ c))
low_three a b c n h i e = (omega arith, (omega arith, omega arith))

pub part2_joins : (xs c rest : List ℕ) → Octets xs → part2 xs ≡ cut c rest → Joins (sized2 c) xs c rest × (length c ≤ 65535)
part2_joins [] c rest o e = let z : ◌≡◌ {A = ℕ} 0 1 = cc in absurd (omega arith)
part2_joins (a ∷ []) c rest o e = let z : ◌≡◌ {A = ℕ} 0 1 = cc in absurd (omega arith)
part2_joins (a ∷ b ∷ xs) c rest o e =
    let oa = o.0 in
    let ob = o.1.0 in
    let j = part_joins (a * 256 + b) xs c rest o.1.1 e in
    let l = (part_lengths (a * 256 + b) xs c rest e).0 in
    let d = low_two a b (length c) ob l in
    (record { join = ap₂ ◌∷◌ d.0 (ap₂ ◌∷◌ d.1 j.join); here = j.here; left = j.left }, omega arith)

pub part3_joins : (xs c rest : List ℕ) → Octets xs → part3 xs ≡ cut c rest → Joins (sized3 c) xs c rest × (length c ≤ 16777215)
part3_joins [] c rest o e = let z : ◌≡◌ {A = ℕ} 0 1 = cc in absurd (omega arith)
part3_joins (a ∷ []) c rest o e = let z : ◌≡◌ {A = ℕ} 0 1 = cc in absurd (omega arith)
part3_joins (a ∷ b ∷ []) c rest o e = let z : ◌≡◌ {A = ℕ} 0 1 = cc in absurd (omega arith)
part3_joins (a ∷ b ∷ w ∷ xs) c rest o e =
    let oa = o.0 in
    let ob = o.1.0 in
    let ow = o.1.1.0 in
    let j = part_joins (a * 65536 + b * 256 + w) xs c rest o.1.1.1 e in
    let l = (part_lengths (a * 65536 + b * 256 + w) xs c rest e).0 in
    let d = low_three a b w (length c) ob ow l in
    (record { join = ap₂ ◌∷◌ d.0 (ap₂ ◌∷◌ d.1.0 (ap₂ ◌∷◌ d.1.1 j.join)); here = j.here; left = j.left }, omega arith)

one_octet : (xs c rest : List ℕ) → Octets xs → part1 xs ≡ cut c rest → length c ≤ 255
one_octet [] c rest o e = let z : ◌≡◌ {A = ℕ} 0 1 = cc in absurd (omega arith)
one_octet (n ∷ xs) c rest o e = let l = (part_lengths n xs c rest e).0 in let oa = o.0 in omega arith

-- ---- suites
pub from_words_back : (xs : List ℕ) → Octets xs → length xs % 2 ≡ 0 → from_words (words xs) ≡ xs
from_words_back [] o h = refl
from_words_back (a ∷ []) o h = absurd (omega arith)
from_words_back (a ∷ b ∷ xs) o h =
    let ob = o.1.0 in
    let d = low_two a b (a * 256 + b) ob refl in
    ap₂ ◌∷◌ d.0 (ap₂ ◌∷◌ d.1 (from_words_back xs o.1.1 (omega arith)))

-- ---- hellos
version_is : (v : List ℕ) → length v ≡ 2 → versioned v ≡ true → v ≡ 1 ∷ 1 ∷ []
version_is [] l h = absurd (omega arith)
version_is (a ∷ []) l h = absurd (omega arith)
version_is (a ∷ b ∷ []) l h =
    let p = and_parts (eqb a 1) (eqb b 1) h in
    ap₂ (λ x y. x ∷ y ∷ []) (eqb-true a 1 p.0) (eqb-true b 1 p.1)
version_is (a ∷ b ∷ c ∷ xs) l h = absurd (omega arith)

-- the parts of a ClientHello in their order make its body
client_end : (xs v a r b i c s d k f : List ℕ) (h : ClientHello) → Octets xs
    → part 2 xs ≡ cut v a → part 32 a ≡ cut r b → part1 b ≡ cut i c → part2 c ≡ cut s d → part1 d ≡ cut k f
    → cond (client_hello_fits v i s k f) (Some (record { random = r; session = i; suites = words s; compressions = k })) None ≡ Some h
    → (client_hello_sound h ≡ true) × (from_client_hello h ≡ xs)
client_end xs v a r b i c s d k f h o p q t u w e =
    let j1 = part_joins 2 xs v a o p in
    let j2 = part_joins 32 a r b j1.left q in
    let j3 = part1_joins b i c j2.left t in
    let j4 = part2_joins c s d j3.left u in
    let j5 = part1_joins d k f j4.0.left w in
    let y = passed (client_hello_fits v i s k f) _ h e in
    let f0 = and_parts (versioned v) _ y.0 in
    let f1 = and_parts (leb (length i) 32) _ f0.1 in
    let f2 = and_parts (eqb (length s % 2) 0) _ f1.1 in
    let f3 = and_parts (leb 2 (length s)) _ f2.1 in
    let f4 = and_parts (leb 1 (length k)) _ f3.1 in
    let vi = version_is v (part_lengths 2 xs v a p).0 f0.0 in
    let ei = none_left f f4.1 in
    let si = from_words_back s j4.0.here (eqb-true _ _ f2.0) in
    let kd : sized1 k ≡ d = sym (append-nil (sized1 k)) ∙ ap (λ z. sized1 k ++ z) (sym ei) ∙ j5.join in
    let sc : sized2 (from_words (words s)) ++ sized1 k ≡ c = ap₂ (λ x z. sized2 x ++ z) si kd ∙ j4.0.join in
    let all : from_client_hello (record { random = r; session = i; suites = words s; compressions = k }) ≡ xs =
    ap (λ z. 1 ∷ 1 ∷ (r ++ z)) (ap (λ z. sized1 i ++ z) sc ∙ j3.join) ∙ ap (λ z. 1 ∷ 1 ∷ z) j2.join ∙ ap (λ z. z ++ a) (sym vi) ∙ j1.join in
    let n = words-length s in
    let m2 : 2 ≤ length s = leb-true 2 _ f3.0 in
    let m6 : length s ≤ 65535 = j4.1 in
    let kb : length k ≤ 255 = one_octet d k f j4.0.left w in
    let sound : client_hello_sound (record { random = r; session = i; suites = words s; compressions = k }) ≡ true =
    and_from _ _ (eq-eqb _ _ (part_lengths 32 a r b q).0) (and_from _ _ f1.0
    (and_from _ _ (and_from _ _ (le-leb 1 (length (words s)) (omega arith)) (le-leb (length (words s)) 32767 (omega arith))) (and_from _ _ f4.0 (le-leb _ 255 kb)))) in
    let hi : record { random = r; session = i; suites = words s; compressions = k } ≡ h = cc in
    rw (← hi) (sound, all)

pub client_again : (xs : List ℕ) (h : ClientHello) → Octets xs → read_client_hello xs ≡ Some h → (client_hello_sound h ≡ true) × (from_client_hello h ≡ xs)
unfolding read_client_hello
client_again xs h o e =
    went (part 2 xs) _ h e (λ v a p e1.
    went (part 32 a) _ h e1 (λ r b q e2.
    went (part1 b) _ h e2 (λ i c t e3.
    went (part2 c) _ h e3 (λ s d u e4.
    went (part1 d) _ h e4 (λ k f w e5. client_end xs v a r b i c s d k f h o p q t u w e5)))))

-- ServerHello: a suite and one compression close it
choice_end : (r i c : List ℕ) (h : ServerHello) → Octets c → server_choice r i c ≡ Some h
    → (h.random ≡ r) × ((h.session ≡ i) × ((leb (length i) 32 ≡ true) × (two h.suite ++ (h.compression ∷ []) ≡ c)))
choice_end r i [] h o e = let z : ◌≡◌ {A = ℕ} 0 1 = cc in absurd (omega arith)
choice_end r i (a ∷ []) h o e = let z : ◌≡◌ {A = ℕ} 0 1 = cc in absurd (omega arith)
choice_end r i (a ∷ b ∷ []) h o e = let z : ◌≡◌ {A = ℕ} 0 1 = cc in absurd (omega arith)
choice_end r i (a ∷ b ∷ c ∷ []) h o e =
    let y = passed (leb (length i) 32) _ h e in
    let hi : record { random = r; session = i; suite = a * 256 + b; compression = c } ≡ h = cc in
    let d = low_two a b (a * 256 + b) o.1.0 refl in
    rw (← hi) (refl, (refl, (y.0, ap₂ (λ x z. x ∷ z ∷ c ∷ []) d.0 d.1)))
choice_end r i (a ∷ b ∷ c ∷ x ∷ xs) h o e = let z : ◌≡◌ {A = ℕ} 0 1 = cc in absurd (omega arith)

server_end : (xs v a r b i c : List ℕ) (h : ServerHello) → Octets xs → part 2 xs ≡ cut v a → part 32 a ≡ cut r b → part1 b ≡ cut i c
    → cond (versioned v) (server_choice r i c) None ≡ Some h → (server_hello_sound h ≡ true) × (from_server_hello h ≡ xs)
server_end xs v a r b i c h o p q t e =
    let j1 = part_joins 2 xs v a o p in
    let j2 = part_joins 32 a r b j1.left q in
    let j3 = part1_joins b i c j2.left t in
    let y = passed (versioned v) (server_choice r i c) h e in
    let vi = version_is v (part_lengths 2 xs v a p).0 y.0 in
    let n = choice_end r i c h j3.left y.1 in
    let ri = n.0 in
    let ii = n.1.0 in
    let lr : length h.random ≡ 32 = ap length ri ∙ (part_lengths 32 a r b q).0 in
    let li : leb (length h.session) 32 ≡ true = ap (λ z. leb (length z) 32) ii ∙ n.1.1.0 in
    let s : from_server_hello h ≡ 1 ∷ 1 ∷ (r ++ (sized1 i ++ c)) =
    ap₂ (λ x z. 1 ∷ 1 ∷ (x ++ (sized1 z ++ (two h.suite ++ (h.compression ∷ []))))) ri ii ∙ ap (λ z. 1 ∷ 1 ∷ (r ++ (sized1 i ++ z))) n.1.1.1 in (
      and_from _ _ (eq-eqb _ _ lr) li,
      s ∙ ap (λ z. 1 ∷ 1 ∷ (r ++ z)) j3.join ∙ ap (λ z. 1 ∷ 1 ∷ z) j2.join ∙ ap (λ z. z ++ a) (sym vi) ∙ j1.join,
    )

pub server_again : (xs : List ℕ) (h : ServerHello) → Octets xs → read_server_hello xs ≡ Some h → (server_hello_sound h ≡ true) × (from_server_hello h ≡ xs)
unfolding read_server_hello
server_again xs h o e =
    went (part 2 xs) _ h e (λ v a p e1.
    went (part 32 a) _ h e1 (λ r b q e2.
    went (part1 b) _ h e2 (λ i c t e3. server_end xs v a r b i c h o p q t e3)))

-- ---- certificates
put_first_is : (c : List ℕ) (r : Option (List (List ℕ))) (cs : List (List ℕ)) → put_first c r ≡ Some cs → (ds : List (List ℕ)) × ((r ≡ Some ds) × (c ∷ ds ≡ cs))
put_first_is c None cs e = let z : ◌≡◌ {A = ℕ} 0 1 = cc in absurd (omega arith)
put_first_is c (Some ds) cs e = let i : c ∷ ds ≡ cs = cc in (ds, (refl, i))

certificates_again : (os xs : List ℕ) (cs : List (List ℕ)) → Octets xs → certificates_in os xs ≡ Some cs → (some_each cs ≡ true) × (from_certificates cs ≡ xs)
certificates_again [] [] cs o e = let i : [] ≡ cs = cc in rw (← i) (refl, refl)
certificates_again [] (x ∷ xs) cs o e = let z : ◌≡◌ {A = ℕ} 0 1 = cc in absurd (omega arith)
certificates_again (k ∷ os) [] cs o e = let i : [] ≡ cs = cc in rw (← i) (refl, refl)
certificates_again (k ∷ os) (x ∷ xs) cs o e =
    went (part3 (x ∷ xs)) _ cs e (λ c rest p f.
    let j = (part3_joins (x ∷ xs) c rest o p).0 in
    let y = passed (leb 1 (length c)) _ cs f in
    let d = put_first_is c (certificates_in os rest) cs y.1 in
    let m = certificates_again os rest d.0 j.left d.1.0 in
    let i = d.1.1 in
    rw (← i) (and_from _ _ y.0 m.0, ap (λ z. sized3 c ++ z) m.1 ∙ j.join))

pub certificate_again : (xs : List ℕ) (cs : List (List ℕ)) → Octets xs → read_certificate xs ≡ Some cs → (certificate_sound cs ≡ true) × (certificate_body cs ≡ xs)
unfolding read_certificate certificate_body
certificate_again xs cs o e =
    went (part3 xs) _ cs e (λ c rest p f.
    let j = part3_joins xs c rest o p in
    let y = passed (is_none rest) _ cs f in
    let m = certificates_again c c cs j.0.here y.1 in
    let l : length (from_certificates cs) ≤ 16777215 = rw m.1 j.1 in (
      and_from _ _ m.0 (le-leb _ 16777215 l),
      ap sized3 m.1 ∙ sym (append-nil (sized3 c)) ∙ ap (λ z. sized3 c ++ z) (sym (none_left rest y.0)) ∙ j.0.join,
    ))

-- ---- key exchanges
pub exchange_again : (xs x : List ℕ) → Octets xs → read_exchange xs ≡ Some x → (exchange_sound x ≡ true) × (exchange_body x ≡ xs)
unfolding exchange_body
exchange_again [] x o e = let z : ◌≡◌ {A = ℕ} 0 1 = cc in absurd (omega arith)
exchange_again (a ∷ []) x o e = let z : ◌≡◌ {A = ℕ} 0 1 = cc in absurd (omega arith)
exchange_again (a ∷ b ∷ xs) x o e =
    let y = passed (leb 1 (a * 256 + b) && eqb (length xs) (a * 256 + b)) _ x e in
    let f = and_parts (leb 1 (a * 256 + b)) _ y.0 in
    let n : 1 ≤ a * 256 + b = leb-true 1 _ f.0 in
    let l : length xs ≡ a * 256 + b = eqb-true _ _ f.1 in
    let oa = o.0 in
    let ob = o.1.0 in
    let d = low_two a b (length xs) ob l in
    let i : xs ≡ x = cc in
    rw (← i) (and_from _ _ (le-leb 1 (length xs) (omega arith)) (le-leb (length xs) 65535 (omega arith)), ap₂ (λ u v. u ∷ v ∷ xs) d.0 d.1)
