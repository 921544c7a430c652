-- The loops of the two directions, as equations: from the calls of one turn to the blocks of the definition.
use Rattle.std.proofs.Common.{◌≡◌, ℕ, ◌+◌, ◌-◌, ◌*◌, ◌<◌, ◌≤◌, List, ◌++◌, length, take, drop, sym, refl, ap, ◌∙◌}
use Rattle.sm4.proofs.Undo.{length-crypt}
use Rattle.cbc.specs.Cbc.{xors, encrypt_block, decrypt_block, encrypt_blocks, decrypt_blocks}
use Rattle.cbc.proofs.Keeps.{length-decrypt_block}
use Rattle.cbc.proofs.Loops.{blocks_more, blocks_all}

module _ (rks xs before : List ℕ) (i n : ℕ) where
  pub encrypt_more : {xs' block next t : List ℕ} → i < n → n * 16 ≤ length xs → block ≡ take 16 (drop (i * 16) xs) → next ≡ encrypt_block rks before block
      → xs' ≡ take (i * 16) xs ++ (next ++ drop (i * 16 + 16) xs)
      → take (i * 16) xs ++ encrypt_blocks rks (n - i) before (drop (i * 16) xs) ≡ t
      → take ((i + 1) * 16) xs' ++ encrypt_blocks rks (n - (i + 1)) next (drop ((i + 1) * 16) xs') ≡ t
  unfolding encrypt_blocks
  encrypt_more {xs'} {block} {next} {t} h hn eb en ex inv =
      let e : next ≡ encrypt_block rks before (take 16 (drop (i * 16) xs)) = en ∙ ap (λ (l : List ℕ). encrypt_block rks before l) eb in
      blocks_more (encrypt_blocks rks) xs before next next i n h hn (ap length en ∙ length-crypt rks (xors block before))
      (λ m. ap (λ (l : List ℕ). l ++ encrypt_blocks rks m l (drop 16 (drop (i * 16) xs))) (sym e)) ex inv

  pub encrypt_all : {t : List ℕ} → n ≡ i → take (i * 16) xs ++ encrypt_blocks rks (n - i) before (drop (i * 16) xs) ≡ t → xs ≡ t
  unfolding encrypt_blocks
  encrypt_all e inv = blocks_all (encrypt_blocks rks) xs before i n (λ ys. refl) e inv

  pub decrypt_more : {xs' block plain t : List ℕ} → i < n → n * 16 ≤ length xs → block ≡ take 16 (drop (i * 16) xs) → plain ≡ decrypt_block rks before block
      → xs' ≡ take (i * 16) xs ++ (plain ++ drop (i * 16 + 16) xs)
      → take (i * 16) xs ++ decrypt_blocks rks (n - i) before (drop (i * 16) xs) ≡ t
      → take ((i + 1) * 16) xs' ++ decrypt_blocks rks (n - (i + 1)) block (drop ((i + 1) * 16) xs') ≡ t
  unfolding decrypt_blocks
  decrypt_more {xs'} {block} {plain} {t} h hn eb ep ex inv =
      blocks_more (decrypt_blocks rks) xs before plain block i n h hn (ap length ep ∙ length-decrypt_block rks before block)
      (λ m. ap (λ (l : List ℕ). decrypt_block rks before l ++ decrypt_blocks rks m l (drop 16 (drop (i * 16) xs))) (sym eb)
      ∙ ap (λ (l : List ℕ). l ++ decrypt_blocks rks m block (drop 16 (drop (i * 16) xs))) (sym ep)) ex inv

  pub decrypt_all : {t : List ℕ} → n ≡ i → take (i * 16) xs ++ decrypt_blocks rks (n - i) before (drop (i * 16) xs) ≡ t → xs ≡ t
  unfolding decrypt_blocks
  decrypt_all e inv = blocks_all (decrypt_blocks rks) xs before i n (λ ys. refl) e inv
