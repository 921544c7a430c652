-- Each direction undoes the other.
use Rattle.std.proofs.Common.{◌≡◌, ℕ, zero, suc, ◌*◌, ◌/◌, ◌≤◌, List, ◌++◌, reverse, length, take, drop, refl, ap, ◌∙◌, arith}
use Rattle.std.proofs.lemmas.List.{length-take-le, length-drop, take_at, drop_at, take-append-drop}
use Rattle.octets.specs.Octets.{Octets}
use Rattle.octets.proofs.Members.{octets_take, octets_drop}
use Rattle.sm4.specs.Cipher.{crypt}
use Rattle.sm4.proofs.Undo.{length-crypt, crypt_octets, undoes, redoes}
use Rattle.cbc.specs.Cbc.{xors, encrypt_block, decrypt_block, encrypt_blocks, decrypt_blocks, cbc_encrypt, cbc_decrypt}
use Rattle.cbc.specs.Laws.{DecryptionUndoes, EncryptionUndoes}
use Rattle.cbc.proofs.Xors.{length-xors, xors_back, octets_xors}
use Rattle.cbc.proofs.Keeps.{length-cbc_encrypt, length-cbc_decrypt, length-decrypt_block}

-- one block, each way
plain_back : (rks before p : List ℕ) → length p ≡ 16 → Octets before → Octets p → decrypt_block rks before (encrypt_block rks before p) ≡ p
plain_back rks before p e ob o =
    ap (λ (l : List ℕ). xors l before) (undoes rks (xors p before) (length-xors p before ∙ e) (octets_xors p before o ob)) ∙ xors_back p before

cipher_back : (rks before c : List ℕ) → length c ≡ 16 → Octets c → encrypt_block rks before (decrypt_block rks before c) ≡ c
cipher_back rks before c e o = ap (λ (l : List ℕ). crypt rks l) (xors_back (crypt (reverse rks) c) before) ∙ redoes rks c e o

-- a list that begins with a block b of 16, read again
module _ (F : ℕ → List ℕ → List ℕ → List ℕ) (out next : List ℕ → List ℕ → List ℕ)
    (more : (n : ℕ) (before xs : List ℕ) → F (suc n) before xs ≡ out before (take 16 xs) ++ F n (next before (take 16 xs)) (drop 16 xs)) where
  pub at_block : (n : ℕ) (before b r : List ℕ) → length b ≡ 16 → F (suc n) before (b ++ r) ≡ out before b ++ F n (next before b) r
  at_block n before b r e =
      more n before (b ++ r)
      ∙ ap (λ (l : List ℕ). out before l ++ F n (next before l) (drop 16 (b ++ r))) (take_at b r 16 e)
      ∙ ap (λ (l : List ℕ). out before b ++ F n (next before b) l) (drop_at b r 16 e)

decrypt_at : (rks : List ℕ) (n : ℕ) (before b r : List ℕ) → length b ≡ 16
    → decrypt_blocks rks (suc n) before (b ++ r) ≡ decrypt_block rks before b ++ decrypt_blocks rks n b r
unfolding decrypt_blocks
decrypt_at rks n before b r e = at_block (decrypt_blocks rks) (decrypt_block rks) (λ p c. c) (λ m p xs. refl) n before b r e

encrypt_at : (rks : List ℕ) (n : ℕ) (before b r : List ℕ) → length b ≡ 16
    → encrypt_blocks rks (suc n) before (b ++ r) ≡ encrypt_block rks before b ++ encrypt_blocks rks n (encrypt_block rks before b) r
unfolding encrypt_blocks
encrypt_at rks n before b r e = at_block (encrypt_blocks rks) (encrypt_block rks) (encrypt_block rks) (λ m p xs. refl) n before b r e

plains_back : (rks : List ℕ) (n : ℕ) (before xs : List ℕ) → n * 16 ≤ length xs → Octets before → Octets xs
    → decrypt_blocks rks n before (encrypt_blocks rks n before xs) ≡ xs
unfolding encrypt_blocks decrypt_blocks
plains_back rks zero before xs h ob o = refl
plains_back rks (suc n) before xs h ob o =
    let p = take 16 xs in
    let c = encrypt_block rks before p in
    decrypt_at rks n before c (encrypt_blocks rks n c (drop 16 xs)) (length-crypt rks (xors p before))
    ∙ ap (λ (l : List ℕ). l ++ decrypt_blocks rks n c (encrypt_blocks rks n c (drop 16 xs)))
    (plain_back rks before p (length-take-le 16 xs (omega arith)) ob (octets_take 16 xs o))
    ∙ ap (λ (l : List ℕ). p ++ l)
    (plains_back rks n c (drop 16 xs) (omega (arith, length-drop 16 xs)) (crypt_octets rks (xors p before)) (octets_drop 16 xs o))
    ∙ take-append-drop 16 xs

ciphers_back : (rks : List ℕ) (n : ℕ) (before xs : List ℕ) → n * 16 ≤ length xs → Octets xs
    → encrypt_blocks rks n before (decrypt_blocks rks n before xs) ≡ xs
unfolding encrypt_blocks decrypt_blocks
ciphers_back rks zero before xs h o = refl
ciphers_back rks (suc n) before xs h o =
    let c = take 16 xs in
    let p = decrypt_block rks before c in
    let back : encrypt_block rks before p ≡ c = cipher_back rks before c (length-take-le 16 xs (omega arith)) (octets_take 16 xs o) in
    encrypt_at rks n before p (decrypt_blocks rks n c (drop 16 xs)) (length-decrypt_block rks before c)
    ∙ ap (λ (l : List ℕ). l ++ encrypt_blocks rks n l (decrypt_blocks rks n c (drop 16 xs))) back
    ∙ ap (λ (l : List ℕ). c ++ l) (ciphers_back rks n c (drop 16 xs) (omega (arith, length-drop 16 xs)) (octets_drop 16 xs o)) ∙ take-append-drop 16 xs

pub cbc_decryption_undoes : DecryptionUndoes
unfolding cbc_encrypt cbc_decrypt
cbc_decryption_undoes rks iv xs oi o =
    ap (λ (n : ℕ). decrypt_blocks rks (n / 16) iv (cbc_encrypt rks iv xs)) (length-cbc_encrypt rks iv xs)
    ∙ plains_back rks (length xs / 16) iv xs (omega arith) oi o

pub cbc_encryption_undoes : EncryptionUndoes
unfolding cbc_encrypt cbc_decrypt
cbc_encryption_undoes rks iv xs o =
    ap (λ (n : ℕ). encrypt_blocks rks (n / 16) iv (cbc_decrypt rks iv xs)) (length-cbc_decrypt rks iv xs)
    ∙ ciphers_back rks (length xs / 16) iv xs (omega arith) o
