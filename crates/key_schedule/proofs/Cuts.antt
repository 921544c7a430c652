-- Key material as keys joined.
use Rattle.std.proofs.Common.{◌≡◌, ℕ, ◌+◌, List, [], ◌++◌, length, Some, sym, refl, ap, ◌∙◌, arith}
use Rattle.std.proofs.lemmas.List.{length-append, append_assoc, append-nil, take_at, drop_at}
use Rattle.std.proofs.lemmas.Bool.{eq-eqb, cond-true}
use Rattle.key_schedule.specs.Parts.{part, Cbc, cbc, Gcm, gcm}

-- what stands between a front and a rest
part_at : (a b r : List ℕ) (from n : ℕ) → length a ≡ from → length b ≡ n → part from n (a ++ (b ++ r)) ≡ b
part_at a b r from n p q = let e = drop_at a (b ++ r) from p in rw e (take_at b r n q)

-- the four parts of four lists joined
module _ (a b k l : List ℕ) (i j m n : ℕ) (p : length a ≡ i) (q : length b ≡ j) (r : length k ≡ m) (s : length l ≡ n) where
  first : part 0 i (a ++ (b ++ (k ++ l))) ≡ a
  first = part_at [] a (b ++ (k ++ l)) 0 i refl p

  second : part i j (a ++ (b ++ (k ++ l))) ≡ b
  second = part_at a b (k ++ l) i j p q

  third : part (i + j) m (a ++ (b ++ (k ++ l))) ≡ k
  third =
      let h : length (a ++ b) ≡ i + j = simp length-append (omega arith) in
      ap (part (i + j) m) (sym (append_assoc a b (k ++ l))) ∙ part_at (a ++ b) k l (i + j) m h r

  fourth : part (i + j + m) n (a ++ (b ++ (k ++ l))) ≡ l
  fourth =
      let h : length ((a ++ b) ++ k) ≡ i + j + m = simp length-append (omega arith) in
      ap (part (i + j + m) n) (sym (append_assoc a b (k ++ l)) ∙ sym (append_assoc (a ++ b) k l) ∙ sym (append-nil _) ∙ append_assoc ((a ++ b) ++ k) l [])
      ∙ part_at ((a ++ b) ++ k) l [] (i + j + m) n h s

  whole : length (a ++ (b ++ (k ++ l))) ≡ i + j + m + n
  whole = simp length-append (omega arith)

same_cbc : {a b k l a' b' k' l' : List ℕ} → a ≡ a' → b ≡ b' → k ≡ k' → l ≡ l'
    → ◌≡◌ {A = Cbc} (record { client_mac_key = a; server_mac_key = b; client_key = k; server_key = l }) (record { client_mac_key = a'; server_mac_key = b'; client_key = k'; server_key = l' })
same_cbc p q r s = λ i. record { client_mac_key = p i; server_mac_key = q i; client_key = r i; server_key = s i }

same_gcm : {k l u v k' l' u' v' : List ℕ} → k ≡ k' → l ≡ l' → u ≡ u' → v ≡ v'
    → ◌≡◌ {A = Gcm} (record { client_key = k; server_key = l; client_iv = u; server_iv = v }) (record { client_key = k'; server_key = l'; client_iv = u'; server_iv = v' })
same_gcm p q r s = λ i. record { client_key = p i; server_key = q i; client_iv = r i; server_iv = s i }

pub cbc_cut : (a b k l : List ℕ) → length a ≡ 32 → length b ≡ 32 → length k ≡ 16 → length l ≡ 16
    → cbc (a ++ (b ++ (k ++ l))) ≡ Some (record { client_mac_key = a; server_mac_key = b; client_key = k; server_key = l })
cbc_cut a b k l p q r s =
    cond-true _ _ _ (eq-eqb _ _ (whole a b k l 32 32 16 16 p q r s))
    ∙ ap Some (same_cbc (first a b k l 32 32 16 16 p q r s) (second a b k l 32 32 16 16 p q r s) (third a b k l 32 32 16 16 p q r s) (fourth a b k l 32 32 16 16 p q r s))

pub gcm_cut : (k l u v : List ℕ) → length k ≡ 16 → length l ≡ 16 → length u ≡ 4 → length v ≡ 4
    → gcm (k ++ (l ++ (u ++ v))) ≡ Some (record { client_key = k; server_key = l; client_iv = u; server_iv = v })
gcm_cut k l u v p q r s =
    cond-true _ _ _ (eq-eqb _ _ (whole k l u v 16 16 4 4 p q r s))
    ∙ ap Some (same_gcm (first k l u v 16 16 4 4 p q r s) (second k l u v 16 16 4 4 p q r s) (third k l u v 16 16 4 4 p q r s) (fourth k l u v 16 16 4 4 p q r s))
