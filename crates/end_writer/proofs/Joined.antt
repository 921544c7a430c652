-- A handshake message in a record of its own, from what each call in turn yields.
use Rattle.std.proofs.Common.{◌≡◌, ℕ, ◌+◌, ◌-◌, ◌≤◌, true, List, length, take, drop, Option, unwrap_or, refl, ap, ◌∙◌, arith}
use Rattle.std.proofs.lemmas.Bool.{cond-true, le-leb, and_from}
use Rattle.octets.specs.Laid.{laid}
use Rattle.octets.proofs.Lays.{laid_under, length-laid, read_laid}
use Rattle.records.specs.Records.{header, record_end, with_header}
use Rattle.sm3.specs.Hash.{Running, absorb}
use Rattle.handshake.specs.declared.types.HandshakeType.{HandshakeType}
use Rattle.handshake.specs.Kinds.{Parts, body_of, writable, has_room, message_end, with_message}
use Rattle.end_writer.specs.Written.{message_of, message_record}
use Rattle.end_writer.proofs.Framed.{fitting}

-- what is known once a message stands in its record
pub record Joined (k : HandshakeType) (p : Parts) (o : List ℕ) (at : ℕ) (h : Running) (o2 : List ℕ) (r : ℕ) (h1 : Running) : Type 0 where
  pub end : r ≡ at + length (message_record (message_of k p))
  pub after : o2 ≡ laid o at (message_record (message_of k p))
  pub joined : h1 ≡ absorb h (message_of k p)

pub joins : (k : HandshakeType) (p : Parts) (o : List ℕ) (at : ℕ) (h : Running) {e e2 : Option ℕ} {o1 o2 : List ℕ} {end r : ℕ} {h1 : Running}
    → writable p ≡ true → length (body_of p) ≤ 16380 → at + (9 + length (body_of p)) ≤ length o
    → e ≡ message_end p o (at + 5) → o1 ≡ with_message k p o (at + 5) → end ≡ unwrap_or e (at + 5)
    → h1 ≡ absorb h (take (end - (at + 5)) (drop (at + 5) o1))
    → e2 ≡ record_end o1 at (end - (at + 5)) → o2 ≡ with_header o1 at 22 (end - (at + 5)) → r ≡ unwrap_or e2 at
    → Joined k p o at h o2 r h1
joins k p o at h {e} {e2} {o1} {o2} {end} {r} {h1} w s q ee eo en eh ef eg er =
    let m = message_of k p in
    let n : length m ≡ 4 + length (body_of p) = omega arith in
    let room : has_room p o (at + 5) ≡ true = and_from _ _ w (le-leb _ _ (omega arith)) in
    let a : o1 ≡ laid o (at + 5) m = eo ∙ cond-true _ _ _ room in
    let l1 : length o1 ≡ length o = ap length a ∙ length-laid o m (at + 5) in
    let b : end ≡ at + 5 + length m = en ∙ ap (λ v. unwrap_or v (at + 5)) ee ∙ rw room (omega arith) in
    let d : end - (at + 5) ≡ length m = omega arith in
    let f = fitting o1 at (length m) (omega arith) (omega arith) in
    record {
      end = er ∙ ap (λ v. unwrap_or v at) ef ∙ ap (λ z. unwrap_or (record_end o1 at z) at) d ∙ rw f (omega arith);
      after = eg ∙ ap (with_header o1 at 22) d ∙ cond-true _ _ _ f ∙ ap (λ x. laid x at (header 22 (length m))) a ∙ laid_under o (header 22 (length m)) m at (at + 5) refl;
      joined = eh ∙ ap (absorb h) (ap (λ x. take (end - (at + 5)) (drop (at + 5) x)) a ∙ read_laid o m (at + 5) end b (omega arith));
    }
