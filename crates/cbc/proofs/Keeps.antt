-- Lengths are kept, and octets stay octets.
use Rattle.std.proofs.Common.{◌≡◌, ℕ, zero, suc, ◌*◌, ◌/◌, ◌≤◌, List, ◌++◌, reverse, length, take, drop, refl, ◌∙◌, arith}
use Rattle.std.proofs.lemmas.List.{length-append, length-drop}
use Rattle.octets.specs.Octets.{Octets}
use Rattle.octets.proofs.Members.{octets-++, octets_take, octets_drop}
use Rattle.sm4.specs.Cipher.{crypt}
use Rattle.sm4.proofs.Undo.{length-crypt, crypt_octets}
use Rattle.cbc.specs.Cbc.{xors, encrypt_block, decrypt_block, encrypt_blocks, decrypt_blocks, cbc_encrypt, cbc_decrypt}
use Rattle.cbc.specs.Laws.{KeepsLength, KeepsOctets}
use Rattle.cbc.proofs.Xors.{length-xors, octets_xors}

pub length-decrypt_block : (rks before c : List ℕ) → length (decrypt_block rks before c) ≡ 16
length-decrypt_block rks before c = length-xors (crypt (reverse rks) c) before ∙ length-crypt (reverse rks) c

-- a block, and as many octets as follow one
length_more : (b r xs : List ℕ) (n : ℕ) → suc n * 16 ≤ length xs → length b ≡ 16 → length r ≡ length (drop 16 xs) → length (b ++ r) ≡ length xs
length_more b r xs n h eb er = length-append b r ∙ omega (arith, length-drop 16 xs)

length-encrypt_blocks : (rks : List ℕ) (n : ℕ) (before xs : List ℕ) → n * 16 ≤ length xs → length (encrypt_blocks rks n before xs) ≡ length xs
unfolding encrypt_blocks
length-encrypt_blocks rks zero before xs h = refl
length-encrypt_blocks rks (suc n) before xs h =
    length_more (encrypt_block rks before (take 16 xs)) _ xs n h (length-crypt rks (xors (take 16 xs) before))
    (length-encrypt_blocks rks n (encrypt_block rks before (take 16 xs)) (drop 16 xs) (omega (arith, length-drop 16 xs)))

length-decrypt_blocks : (rks : List ℕ) (n : ℕ) (before xs : List ℕ) → n * 16 ≤ length xs → length (decrypt_blocks rks n before xs) ≡ length xs
unfolding decrypt_blocks
length-decrypt_blocks rks zero before xs h = refl
length-decrypt_blocks rks (suc n) before xs h =
    length_more (decrypt_block rks before (take 16 xs)) _ xs n h (length-decrypt_block rks before (take 16 xs))
    (length-decrypt_blocks rks n (take 16 xs) (drop 16 xs) (omega (arith, length-drop 16 xs)))

pub length-cbc_encrypt : (rks iv xs : List ℕ) → length (cbc_encrypt rks iv xs) ≡ length xs
unfolding cbc_encrypt
length-cbc_encrypt rks iv xs = length-encrypt_blocks rks (length xs / 16) iv xs (omega arith)

pub length-cbc_decrypt : (rks iv xs : List ℕ) → length (cbc_decrypt rks iv xs) ≡ length xs
unfolding cbc_decrypt
length-cbc_decrypt rks iv xs = length-decrypt_blocks rks (length xs / 16) iv xs (omega arith)

octets_encrypt_blocks : (rks : List ℕ) (n : ℕ) (before xs : List ℕ) → Octets xs → Octets (encrypt_blocks rks n before xs)
unfolding encrypt_blocks
octets_encrypt_blocks rks zero before xs o = o
octets_encrypt_blocks rks (suc n) before xs o =
    octets-++ (encrypt_block rks before (take 16 xs)) (encrypt_blocks rks n (encrypt_block rks before (take 16 xs)) (drop 16 xs))
    (crypt_octets rks (xors (take 16 xs) before))
    (octets_encrypt_blocks rks n (encrypt_block rks before (take 16 xs)) (drop 16 xs) (octets_drop 16 xs o))

octets_decrypt_blocks : (rks : List ℕ) (n : ℕ) (before xs : List ℕ) → Octets before → Octets xs → Octets (decrypt_blocks rks n before xs)
unfolding decrypt_blocks
octets_decrypt_blocks rks zero before xs ob o = o
octets_decrypt_blocks rks (suc n) before xs ob o =
    octets-++ (decrypt_block rks before (take 16 xs)) (decrypt_blocks rks n (take 16 xs) (drop 16 xs))
    (octets_xors (crypt (reverse rks) (take 16 xs)) before (crypt_octets (reverse rks) (take 16 xs)) ob)
    (octets_decrypt_blocks rks n (take 16 xs) (drop 16 xs) (octets_take 16 xs o) (octets_drop 16 xs o))

pub octets_cbc_encrypt : (rks iv xs : List ℕ) → Octets xs → Octets (cbc_encrypt rks iv xs)
unfolding cbc_encrypt
octets_cbc_encrypt rks iv xs o = octets_encrypt_blocks rks (length xs / 16) iv xs o

pub octets_cbc_decrypt : (rks iv xs : List ℕ) → Octets iv → Octets xs → Octets (cbc_decrypt rks iv xs)
unfolding cbc_decrypt
octets_cbc_decrypt rks iv xs oi o = octets_decrypt_blocks rks (length xs / 16) iv xs oi o

pub keeps_length : KeepsLength
keeps_length rks iv xs = (length-cbc_encrypt rks iv xs, length-cbc_decrypt rks iv xs)

pub keeps_octets : KeepsOctets
keeps_octets rks iv xs oi o = (octets_cbc_encrypt rks iv xs o, octets_cbc_decrypt rks iv xs oi o)
