-- The key block, text in pieces, and the laws of a tag.
use Rattle.std.proofs.Common.{◌≡◌, ℕ, ◌+◌, ◌<◌, ◌≤◌, List, [], ◌∷◌, ◌++◌, length, get_or, drop, replicate, sym, refl, ap, ◌∙◌, Bor}
use Rattle.std.proofs.lemmas.List.{append-nil, drop-replicate, at_drop_more, at_drop_all}
use Rattle.hmac_sm3.specs.Pieces.{pieced}
use Rattle.octets.specs.Laid.{laid}
use Rattle.octets.specs.Octets.{Octets}
use Rattle.octets.proofs.Lays.{laid_first}
use Rattle.octets.proofs.Members.{from_members}
use Rattle.sm3.specs.Hash.{sm3, Running, start, absorb, finished}
use Rattle.sm3.proofs.Running.{absorb_none, absorb-++, finished_is, length-sm3, sm3_octets}
use Rattle.hmac_sm3.specs.Hmac.{filled, key_block, xored, ipad, opad, hmac}
use Rattle.hmac_sm3.specs.Keyed.{Keyed, keyed, fed, tag}

-- a list at the front of a block of zeros
pub filled_is : (xs : List ℕ) {out : List ℕ} → length xs ≤ 64 → out ≡ laid (replicate {A = ℕ} 64 0) 0 xs → out ≡ filled xs
unfolding filled
filled_is xs {out} h e = e ∙ laid_first (replicate {A = ℕ} 64 0) xs h ∙ ap (λ r. xs ++ r) (drop-replicate (length xs) 64 0)

pub same_keyed : {a b u v : Running} → a ≡ b → u ≡ v → ◌≡◌ {A = Keyed} (record { inner = a; outer = u }) (record { inner = b; outer = v })
same_keyed p q = λ i. record { inner = p i; outer = q i }

pub fed_none : (h : Keyed) → fed h [] ≡ h
fed_none h = same_keyed (absorb_none h.inner) refl

-- piece after piece is the pieces joined
pub fed-++ : (h : Keyed) (a b : List ℕ) → fed h (a ++ b) ≡ fed (fed h a) b
fed-++ h a b = same_keyed (absorb-++ h.inner a b) refl

pieced_more : (p : Bor (List ℕ)) (ps : List (Bor (List ℕ))) → pieced (λ x. x.now) (p ∷ ps) ≡ p.now ++ pieced (λ x. x.now) ps
pieced_more p [] = sym (append-nil p.now)
pieced_more p (q ∷ ps) = refl

-- one piece more of those that are left
pub fed_more : (ps : List (Bor (List ℕ))) (d : Bor (List ℕ)) (i : ℕ) (g h t : Keyed) → i < length ps
    → fed h (pieced (λ x. x.now) (drop i ps)) ≡ t → g ≡ fed h (get_or ps i d).now → fed g (pieced (λ x. x.now) (drop (i + 1) ps)) ≡ t
fed_more ps d i g h t l e f =
    ap (λ k. fed k (pieced (λ x. x.now) (drop (i + 1) ps))) f ∙ sym (fed-++ h (get_or ps i d).now (pieced (λ x. x.now) (drop (i + 1) ps)))
    ∙ ap (fed h) (sym (pieced_more (get_or ps i d) (drop (i + 1) ps))) ∙ sym (at_drop_more (λ qs. fed h (pieced (λ x. x.now) qs)) ps i d l) ∙ e

-- and none left
pub fed_all : (ps : List (Bor (List ℕ))) (i : ℕ) (h t : Keyed) → length ps ≤ i → fed h (pieced (λ x. x.now) (drop i ps)) ≡ t → h ≡ t
fed_all ps i h t l e = sym (fed_none h) ∙ sym (at_drop_all (λ qs. fed h (pieced (λ x. x.now) qs)) ps i l) ∙ e

-- two absorbed from the start are the digest of the two joined
absorbed : (a b : List ℕ) → finished (absorb (absorb start a) b) ≡ sm3 (a ++ b)
absorbed a b = ap finished (sym (absorb-++ start a b)) ∙ finished_is (a ++ b)

pub tag_is : (key text : List ℕ) → tag (fed (keyed key) text) ≡ hmac key text
unfolding hmac
tag_is key text =
    ap (λ d. finished (absorb (absorb start (xored opad (key_block key))) d)) (absorbed (xored ipad (key_block key)) text)
    ∙ absorbed (xored opad (key_block key)) (sm3 (xored ipad (key_block key) ++ text))

pub tag_pieces : (key a b : List ℕ) → tag (fed (fed (keyed key) a) b) ≡ hmac key (a ++ b)
tag_pieces key a b = ap tag (sym (fed-++ (keyed key) a b)) ∙ tag_is key (a ++ b)

pub length-hmac : (key text : List ℕ) → length (hmac key text) ≡ 32
unfolding hmac
length-hmac key text = length-sm3 _

pub hmac_octets : (key text : List ℕ) → Octets (hmac key text)
unfolding hmac
hmac_octets key text = let d = xored opad (key_block key) ++ sm3 (xored ipad (key_block key) ++ text) in from_members (sm3 d) (λ k l. sm3_octets d k)
