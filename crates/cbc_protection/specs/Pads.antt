-- Padding, and the MAC, as the code makes them.
use Rattle.std.specs.Prelude.{◌≡◌, ℕ, ◌+◌, ◌-◌, ◌<◌, ◌≤◌, min, List, length, take, drop, replicate}
use Rattle.std.proofs.Common.{sym, ap, ap₂, ◌∙◌, arith}
use Rattle.std.proofs.lemmas.List.{length-replicate, take-replicate}
use Rattle.octets.specs.declared.role.Role.{Role}
use Rattle.octets.specs.declared.role.Role.TheVariants.{Client, Server}
use Rattle.octets.specs.Laid.{laid}
use Rattle.hmac_sm3.specs.Keyed.{Keyed, keyed, fed, tag}
use Rattle.hmac_sm3.proofs.Tags.{tag_pieces, length-hmac}
use Rattle.cbc_protection.specs.Layout.{mac_key_of, heading, mac}
use Rattle.cbc_protection.specs.Padding.{pad, least_pad}

pub length_pad : (p : ℕ) → length (pad p) ≡ p + 1
length_pad p = length-replicate (p + 1) p

pub length_mac : (s : Role) (m : List ℕ) (n t : ℕ) (c : List ℕ) → length (mac s m n t c) ≡ 32
length_mac s m n t c = length-hmac _ _

-- the first p + 1 of many octets of value p
pub pad_cut : (p : ℕ) (xs : List ℕ) → p < 256 → xs ≡ replicate {A = ℕ} 256 p → take (p + 1 - 0) xs ≡ pad p
pad_cut p xs h e =
    let a : p + 1 - 0 ≡ p + 1 = omega arith in
    let b : p + 1 ≤ 256 = omega arith in
    ap₂ (λ n l. take n l) a e ∙ take-replicate (p + 1) 256 p b

pub pad_laid : (o : List ℕ) (at size : ℕ) {s q : List ℕ} {r : ℕ} → at + 16 ≤ length o → s ≡ pad (least_pad size)
    → q ≡ laid o at s → r ≡ at + min (length s) (length o - at)
    → (r ≡ at + (least_pad size + 1)) × (q ≡ laid o at (pad (least_pad size)))
pad_laid o at size {s} {q} {r} h e eq er =
    let l : length s ≡ least_pad size + 1 = ap length e ∙ length_pad (least_pad size) in
    (omega arith, eq ∙ ap (laid o at) e)

-- the MAC key of a side, as it is cut from the material
pub client_mac : (s : Role) (m : List ℕ) (at : ℕ) → s ≡ Client → at ≡ 0 → take (at + 32 - at) (drop at m) ≡ mac_key_of s m
client_mac s m at e h = ap (λ n. take (n + 32 - n) (drop n m)) h ∙ ap (λ r. mac_key_of r m) (sym e)

pub server_mac : (s : Role) (m : List ℕ) (at : ℕ) → s ≡ Server → at ≡ 32 → take (at + 32 - at) (drop at m) ≡ mac_key_of s m
server_mac s m at e h = ap (λ n. take (n + 32 - n) (drop n m)) h ∙ ap (λ r. mac_key_of r m) (sym e)

-- the tag of a heading and then a content
pub tag_mac : (s : Role) (m : List ℕ) (n t : ℕ) (c : List ℕ) {k d r : List ℕ} {h0 h1 h2 : Keyed} → k ≡ mac_key_of s m → d ≡ heading n t (length c)
    → h0 ≡ keyed k → h1 ≡ fed h0 d → h2 ≡ fed h1 c → r ≡ tag h2 → r ≡ mac s m n t c
tag_mac s m n t c {k} {d} {r} {h0} {h1} {h2} ek ed e0 e1 e2 er =
    er ∙ ap tag (e2 ∙ ap (λ h. fed h c) (e1 ∙ ap₂ fed (e0 ∙ ap keyed ek) ed)) ∙ tag_pieces (mac_key_of s m) (heading n t (length c)) c
