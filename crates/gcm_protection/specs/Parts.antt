-- Lists laid into a buffer one behind the other, and a part of it written over.
use Rattle.std.specs.Prelude.{◌≡◌, ℕ, ◌+◌, ◌-◌, ◌≤◌, List, ◌++◌, length, take, drop}
use Rattle.std.proofs.Common.{sym, ap, ◌∙◌, arith, rules}
use borrow.Rule.Slice.PartMut.{put_mid}
use Rattle.std.proofs.lemmas.List.{same_lists, places, length-append, drop_all, append-nil}
use Rattle.octets.specs.declared.role.Role.{Role}
use Rattle.octets.specs.declared.role.Role.TheVariants.{Client, Server}
use Rattle.octets.specs.Laid.{laid}
use Rattle.octets.proofs.Lays.{laid-laid, laid_first}
use Rattle.gcm_protection.specs.Layout.{iv_of}

-- two lists that fill a buffer
pub laid_two : (o a b p q : List ℕ) (at : ℕ) → length o ≡ length a + length b → p ≡ laid o 0 a → at ≡ length a → q ≡ laid p at b → q ≡ a ++ b
laid_two o a b p q at n ep e eq =
    let l : length (a ++ b) ≡ length o = length-append a b ∙ sym n in
    let f : length (a ++ b) ≤ length o = omega arith in
    let g : length o ≤ length (a ++ b) = omega arith in
    let z : at ≡ 0 + length a = omega arith in
    eq ∙ ap (λ x. laid x at b) ep ∙ laid-laid o a b 0 at z ∙ laid_first o (a ++ b) f
    ∙ ap (λ x. (a ++ b) ++ x) (drop_all (length (a ++ b)) o g) ∙ append-nil (a ++ b)

-- what was laid is read again
pub part_laid : (o l : List ℕ) (at end : ℕ) → end ≡ at + length l → end ≤ length o → take (end - at) (drop at (laid o at l)) ≡ l
unfolding laid
part_laid o l at end e h = same_lists _ _ (search (rules, places)) (λ k d l. grind (arith, places))

-- what was laid is written over by a list of the same length
pub over_laid : (o l w : List ℕ) (at end : ℕ) → end ≡ at + length l → end ≤ length o → length w ≡ length l → put_mid at (end - at) (laid o at l) w ≡ laid o at w
unfolding laid
over_laid o l w at end e h n = same_lists _ _ (search (rules, places)) (λ k d l. grind (arith, places))

-- where the implicit parts of the nonces stand
pub client_iv : (s : Role) (m : List ℕ) (at : ℕ) → s ≡ Client → at ≡ 32 → take (at + 4 - at) (drop at m) ≡ iv_of s m
client_iv s m at e h = ap (λ n. take (n + 4 - n) (drop n m)) h ∙ ap (λ r. iv_of r m) (sym e)

pub server_iv : (s : Role) (m : List ℕ) (at : ℕ) → s ≡ Server → at ≡ 36 → take (at + 4 - at) (drop at m) ≡ iv_of s m
server_iv s m at e h = ap (λ n. take (n + 4 - n) (drop n m)) h ∙ ap (λ r. iv_of r m) (sym e)
