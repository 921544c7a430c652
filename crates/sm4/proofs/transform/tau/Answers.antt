use Rattle.std.proofs.Common.{◌≡◌, ℕ, List, [], get_or}
use Rattle.sm4.specs.Sbox.{sbox}
use Rattle.sm4.specs.Transform.{tau}
use Rattle.sm4.specs.Words.{word, put_word}
use Rattle.sm4.proofs.transform.tau.Goals as goal

tau_is : (x : ℕ) {l : List ℕ} {a b c d r : ℕ} → l ≡ put_word x [] → a ≡ sbox (get_or l 0 0) → b ≡ sbox (get_or l 1 0) → c ≡ sbox (get_or l 2 0)
    → d ≡ sbox (get_or l 3 0) → r ≡ word a b c d → r ≡ tau x
unfolding tau
tau_is x {l} {a} {b} {c} {d} {r} e ea eb ec ed er = simp (er, ea, eb, ec, ed, e)

pub returns : goal.returns
returns c =
    tau_is c.args.x c.to_be_bytes.ensures c.substitute.ensures c.substitute-2.ensures c.substitute-3.ensures c.substitute-4.ensures
    c.from_be_bytes.ensures
