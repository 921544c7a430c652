-- Records laid one after another, and the records that the definitions of an end name.
use Rattle.std.proofs.Common.{◌≡◌, ℕ, ◌+◌, true, List, [], ◌∷◌, ◌++◌, length, Option, refl, ap, ◌∙◌, arith}
use Rattle.std.proofs.lemmas.Bool.{cond-true, le-leb, eq-eqb, and_from}
use Rattle.std.proofs.lemmas.List.{length-append, append-nil, drop_all}
use Rattle.octets.specs.Laid.{laid}
use Rattle.octets.proofs.Lays.{laid-laid, laid_first}
use Rattle.protection.specs.Keys.{Keying}
use Rattle.handshake.specs.declared.types.HandshakeType.TheVariants.{Finished}
use Rattle.handshake.specs.Kinds.{finished_parts, has_room, with_message}
use Rattle.model.specs.Protections.{Protection}
use Rattle.model.specs.Endpoint.{Parts}
use Rattle.model.specs.Outcomes.{flat}
use Rattle.model.specs.Deeds.{in_records, flight}
use Rattle.model.specs.Messages.{finished}
use Rattle.end_writer.specs.Written.{message_record}
use Rattle.end_writer.specs.Flights.{flight_of, message_records}

-- a list laid over a buffer at a place, and where it ends
pub record Placed (o : List ℕ) (at : ℕ) (l o1 : List ℕ) (to : ℕ) : Type 0 where
  pub end : to ≡ at + length l
  pub after : o1 ≡ laid o at l

pub placed : {o l o1 : List ℕ} {at to : ℕ} → to ≡ at + length l → o1 ≡ laid o at l → Placed o at l o1 to
placed e a = record { end = e; after = a }

-- one list after another
pub then : {o a o1 b o2 : List ℕ} {at t1 t2 : ℕ} → Placed o at a o1 t1 → Placed o1 t1 b o2 t2 → Placed o at (a ++ b) o2 t2
then {o} {a} {o1} {b} {o2} {at} {t1} {t2} p q =
    let pe = p.end in
    let qe = q.end in
    let n = length-append a b in
    record {
      end = omega arith;
      after = q.after ∙ ap (λ x. laid x t1 b) p.after ∙ laid-laid o a b at t1 pe;
    }

-- and nothing after it
pub last : {o a o1 : List ℕ} {at to : ℕ} → Placed o at a o1 to → Placed o at (a ++ []) o1 to
last {o} {a} {o1} {at} {to} p = rw (append-nil a) p

-- where a list ends that is laid first
pub first_end : {o l o1 : List ℕ} {to : ℕ} → Placed o 0 l o1 to → to ≡ length l
first_end p = let e = p.end in omega arith

-- bare records do not depend on the protection
pub flat_records : (P : Protection) (q : Option Keying) (ms : List (List ℕ)) → flat P q (in_records ms) ≡ message_records ms
flat_records P q [] = refl
flat_records P q (m ∷ ms) = ap (λ l. message_record m ++ l) (flat_records P q ms)

-- so are those of the server's first flight, whatever else the answer brings
pub flat_flight : (P : Protection) (q : Option Keying) (p : Parts) (s : ℕ)
    → flat P q (in_records (flight p s)) ≡ message_records (flight_of p.random p.session s p.certificates p.signature)
flat_flight P q p s = flat_records P q (flight p s)

-- a Finished written over 16 octets is all of them
pub finished_whole : (o v : List ℕ) {o1 : List ℕ} → length o ≡ 16 → length v ≡ 12 → o1 ≡ with_message Finished (finished_parts v) o 0 → o1 ≡ finished v
finished_whole o v {o1} n l e =
    let w : has_room (finished_parts v) o 0 ≡ true = and_from _ _ (and_from _ _ (eq-eqb _ _ l) (le-leb _ _ (omega arith))) (le-leb _ _ (omega arith)) in
    e ∙ cond-true _ _ _ w ∙ laid_first o (finished v) (omega arith) ∙ ap (λ x. finished v ++ x) (drop_all (length (finished v)) o (omega arith)) ∙ append-nil (finished v)
