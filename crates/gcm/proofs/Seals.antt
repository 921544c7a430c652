-- Sealing and opening: what the calls of src/key/seal.rt give, put together.
use Rattle.std.proofs.Common.{◌≡◌, ℕ, List, [], ◌∷◌, ◌++◌, length, set, ap, ◌∙◌, ap₂, arith}
use lib.Bits.{bit_xor}
use Rattle.std.proofs.lemmas.List.{set-append_right}
use Rattle.gcm.specs.Blocks.{value, octets16, filled}
use Rattle.gcm.specs.Field.{product}
use Rattle.gcm.specs.Ghash.{absorbed, ghash}
use Rattle.gcm.specs.Counter.{inc32, gctr}
use Rattle.gcm.specs.Gcm.{hash_key, J0, bits64, enciphered, digest, tag}
use Rattle.gcm.proofs.Values.{value_one}
use Rattle.gcm.proofs.Hashes.{digest_is}

pub first_is : (iv : List ℕ) {l : List ℕ} {r : ℕ} → length l ≡ 12 → l ≡ iv → r ≡ value (set (l ++ (0 ∷ 0 ∷ 0 ∷ 0 ∷ [])) 15 1) → r ≡ J0 iv
unfolding J0
first_is iv {l} {r} n e er =
    er ∙ ap value (set-append_right l (0 ∷ 0 ∷ 0 ∷ 0 ∷ []) 12 15 1 n (omega arith)) ∙ ap (λ x. value (x ++ (0 ∷ 0 ∷ 0 ∷ 1 ∷ []))) e
    ∙ value_one iv

pub tag_is : (ks iv a c : List ℕ) {h d j : ℕ} {b r : List ℕ} → h ≡ hash_key ks
    → d ≡ product (bit_xor (absorbed h (absorbed h 0 a) c) (value (bits64 (length a) ++ bits64 (length c)))) h → b ≡ octets16 d → j ≡ J0 iv → r ≡ gctr ks j b → r ≡ tag ks iv a c
unfolding tag digest
tag_is ks iv a c {h} {d} {j} {b} {r} eh ed eb ej er =
    er ∙ ap₂ (gctr ks) ej
    (eb ∙ ap octets16 (ed ∙ digest_is h a c ∙ ap (λ k. ghash k (filled a ++ (filled c ++ (bits64 (length a) ++ bits64 (length c))))) eh))

pub enciphered_is : (ks iv xs : List ℕ) {n : ℕ} {r : List ℕ} → n ≡ inc32 (J0 iv) → r ≡ gctr ks n xs → r ≡ enciphered ks iv xs
unfolding enciphered
enciphered_is ks iv xs {n} {r} en er = er ∙ ap (λ k. gctr ks k xs) en
