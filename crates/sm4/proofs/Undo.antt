-- The cipher gives blocks, and undoes itself under the round keys in the opposite sequence.
use Rattle.std.proofs.Common.{◌≡◌, ℕ, List, reverse, length, sym, refl, ap, ◌∙◌}
use Rattle.std.proofs.lemmas.List.{reverse-reverse}
use Rattle.octets.specs.Octets.{Octets}
use Rattle.sm4.specs.Cipher.{Quad, crypt, loaded, stored, rounds, reversed, encrypt, decrypt, round_keys}
use Rattle.sm4.specs.Laws.{DecryptionUndoes, EncryptionUndoes, GivesABlock}
use Rattle.sm4.proofs.Blocks.{load_store, store_load, load_words, stored_octets}
use Rattle.sm4.proofs.Bounds.{rounds_words, reversed_words}
use Rattle.sm4.proofs.Feistel.{rounds_back}

pub length-crypt : (ks l : List ℕ) → length (crypt ks l) ≡ 16
unfolding crypt
length-crypt ks l = refl

pub crypt_octets : (ks l : List ℕ) → Octets (crypt ks l)
unfolding crypt
crypt_octets ks l = stored_octets (reversed (rounds ks (loaded l)))

pub gives : GivesABlock
gives ks l = (length-crypt ks l, crypt_octets ks l)

-- under any round keys, used from the last to the first
pub undoes : (ks l : List ℕ) → length l ≡ 16 → Octets l → crypt (reverse ks) (crypt ks l) ≡ l
unfolding crypt
undoes ks l e o =
    let s = rounds ks (loaded l) in
    let w = reversed_words s (rounds_words ks (loaded l) (load_words l o)) in
    ap (λ (q : Quad). stored (reversed (rounds (reverse ks) q))) (load_store (reversed s) w)
    ∙ ap (λ (q : Quad). stored (reversed q)) (rounds_back ks (loaded l)) ∙ store_load l e o

-- and from the last to the first, then from the first to the last
pub redoes : (ks l : List ℕ) → length l ≡ 16 → Octets l → crypt ks (crypt (reverse ks) l) ≡ l
redoes ks l e o = ap (λ (rs : List ℕ). crypt rs (crypt (reverse ks) l)) (sym (reverse-reverse ks)) ∙ undoes (reverse ks) l e o

pub decryption_undoes : DecryptionUndoes
unfolding encrypt decrypt
decryption_undoes key l e o = undoes (round_keys key) l e o

pub encryption_undoes : EncryptionUndoes
unfolding encrypt decrypt
encryption_undoes key l e o = redoes (round_keys key) l e o
