-- What a sealing leaves in a part of the output, and the header before it.
use Rattle.std.proofs.Common.{◌≡◌, ℕ, ◌+◌, ◌-◌, ◌≤◌, true, List, ◌++◌, length, take, drop, Some, None, Option, unwrap_or, refl, ap, ◌∙◌, arith, rules}
use borrow.Rule.Slice.PartMut.{put_mid}
use Rattle.std.specs.Option.{option_map}
use Rattle.std.proofs.lemmas.Bool.{cond-true, le-leb, eq-eqb, and_from}
use Rattle.std.proofs.lemmas.List.{length-append, length-drop, length-take-le, places}
use Rattle.octets.specs.Laid.{laid}
use Rattle.octets.proofs.Lays.{laid_under, part_laid, length-laid}
use Rattle.records.specs.Records.{framed, header, record_end, with_header, fits}
use Rattle.protection.specs.Keys.{Keying}
use Rattle.protection.specs.Calls.{may_seal, written}
use Rattle.protection.specs.Calls as calls
use Rattle.model.specs.Protections.{Protection, sealed_with}

-- with lengths and room as they must be, a sealing yields what the definitions of an end say: nothing when unkeyed
module _ (P : Protection) (n t : ℕ) (c f : List ℕ) (room : ℕ) (lo : 1 ≤ length c) (hi : length c ≤ 16384) (fr : length f ≡ 16) (sp : length c + 2048 ≤ room) where
  may : may_seal (length c) (length f) room ≡ true
  may = and_from _ _ (le-leb _ _ lo) (and_from _ _ (le-leb _ _ hi) (and_from _ _ (eq-eqb _ _ fr) (le-leb _ _ sp)))

  pub sealed_length : (held : Option Keying) → unwrap_or (option_map length (calls.sealed_with P.sealing held n t c f room)) 0 ≡ length (sealed_with P held n t c f)
  sealed_length None = refl
  sealed_length (Some k) = rw may

  pub sealed_written : (held : Option Keying) (place : List ℕ)
      → written (calls.sealed_with P.sealing held n t c f room) place ≡ sealed_with P held n t c f ++ drop (length (sealed_with P held n t c f)) place
  sealed_written None place = refl
  sealed_written (Some k) place = rw may

-- a list first in a part of the output, and a header before it: the record
module _ (o w l : List ℕ) (at m kind n : ℕ) (h : at + 5 + m ≤ length o) (small : m ≤ 65535) (e : w ≡ l ++ drop (length l) (take m (drop (at + 5) o))) (lw : length w ≡ m) (en : n ≡ length l) where
  part_length : length (take m (drop (at + 5) o)) ≡ m
  part_length = length-take-le m (drop (at + 5) o) (simp length-drop (omega arith))

  list_fits : length l ≤ m
  list_fits =
      let a : length w ≡ length l + length (drop (length l) (take m (drop (at + 5) o))) = ap length e ∙ length-append l _ in
      let b : length (drop (length l) (take m (drop (at + 5) o))) ≡ length (take m (drop (at + 5) o)) - length l = length-drop (length l) _ in
      let d = part_length in
      omega arith

  after_part : put_mid (at + 5) m o w ≡ laid o (at + 5) l
  after_part = part_laid o l w (at + 5) m h list_fits e

  fitting : (o1 : List ℕ) → length o1 ≡ length o → fits o1 at n ≡ true
  fitting o1 q =
      let z = list_fits in
      let a : n ≤ 65535 = omega arith in
      let b : at + (5 + n) ≤ length o1 = omega arith in
      and_from _ _ (le-leb n 65535 a) (le-leb (at + (5 + n)) (length o1) b)

  pub record_end_is : (o1 : List ℕ) → length o1 ≡ length o → unwrap_or (record_end o1 at n) at ≡ at + length (framed kind l)
  record_end_is o1 q = rw (fitting o1 q, en) (omega arith)

  pub record_after : (o1 : List ℕ) → o1 ≡ put_mid (at + 5) m o w → with_header o1 at kind n ≡ laid o at (framed kind l)
  record_after o1 q =
      let a : o1 ≡ laid o (at + 5) l = q ∙ after_part in
      let b : length o1 ≡ length o = ap length a ∙ length-laid o l (at + 5) in
      cond-true _ _ _ (fitting o1 b) ∙ ap (λ k. laid o1 at (header kind k)) en ∙ ap (λ x. laid x at (header kind (length l))) a
      ∙ laid_under o (header kind (length l)) l at (at + 5) refl

-- all that a sealed record comes to, from what each call in turn yields
pub sealed_record : (P : Protection) (held : Option Keying) (n t : ℕ) (c f o : List ℕ) (at m : ℕ) {w o2 : List ℕ} {s : Option ℕ} {e : Option ℕ} {k r : ℕ}
    → 1 ≤ length c → length c ≤ 16384 → length f ≡ 16 → at + (length c + 2053) ≤ length o → m ≡ length c + 2048
    → s ≡ option_map length (calls.sealed_with P.sealing held n t c f (length (take m (drop (at + 5) o))))
    → w ≡ written (calls.sealed_with P.sealing held n t c f (length (take m (drop (at + 5) o)))) (take m (drop (at + 5) o))
    → length w ≡ m → k ≡ unwrap_or s 0
    → o2 ≡ with_header (put_mid (at + 5) m o w) at t k → e ≡ record_end (put_mid (at + 5) m o w) at k → r ≡ unwrap_or e at
    → (r ≡ at + length (framed t (sealed_with P held n t c f))) × (o2 ≡ laid o at (framed t (sealed_with P held n t c f)))
sealed_record P held n t c f o at m {w} {o2} {s} {e} {k} {r} lo hi fr sp em ea ew lw ek eo ee er =
    let l = sealed_with P held n t c f in
    let h : at + 5 + m ≤ length o = omega arith in
    let small : m ≤ 65535 = omega arith in
    let room : length (take m (drop (at + 5) o)) ≡ m = length-take-le m (drop (at + 5) o) (simp length-drop (omega arith)) in
    let sp2 : length c + 2048 ≤ length (take m (drop (at + 5) o)) = omega arith in
    let q : w ≡ l ++ drop (length l) (take m (drop (at + 5) o)) = ew ∙ sealed_written P n t c f _ lo hi fr sp2 held (take m (drop (at + 5) o)) in
    let p : k ≡ length l = ek ∙ ap (λ v. unwrap_or v 0) ea ∙ sealed_length P n t c f _ lo hi fr sp2 held in
    let lo1 : length (put_mid (at + 5) m o w) ≡ length o = search (rules, places) in (
      er ∙ ap (λ v. unwrap_or v at) ee ∙ record_end_is o w l at m t k h small q lw p (put_mid (at + 5) m o w) lo1,
      eo ∙ record_after o w l at m t k h small q lw p (put_mid (at + 5) m o w) refl,
    )
