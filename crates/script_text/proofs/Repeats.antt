-- A list many times over, one time after another.
use Rattle.std.proofs.Common.{◌≡◌, ℕ, ◌+◌, List, ◌++◌, sym, refl, ap, ◌∙◌, add-one}
use Rattle.std.proofs.lemmas.List.{append_assoc, append-nil}
use Rattle.script_text.specs.Octets.{repeated}

pub repeated_none : (a xs : List ℕ) → a ≡ a ++ repeated 0 xs
unfolding repeated
repeated_none a xs = sym (append-nil a)

pub repeated_more : (n : ℕ) (a xs : List ℕ) {b c : List ℕ} → b ≡ a ++ repeated n xs → c ≡ b ++ xs → c ≡ a ++ repeated (n + 1) xs
unfolding repeated
repeated_more n a xs e f = f ∙ ap (λ l. l ++ xs) e ∙ append_assoc a (repeated n xs) xs ∙ rw add-one refl
