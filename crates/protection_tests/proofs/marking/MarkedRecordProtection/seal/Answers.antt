use Rattle.std.proofs.Common.{◌≡◌, ◌+◌, ◌≤◌, true, length, Some, refl, arith, rules}
use Rattle.std.specs.Option.{option_map}
use Rattle.std.proofs.lemmas.List.{length-append}
use Rattle.protection.specs.Calls.{may_seal}
use Rattle.protection.proofs.Places as places
use Rattle.protection_tests.specs.Marks.{mark_sealing}
use Rattle.protection_tests.specs.Held.{keying_of}
use Rattle.protection_tests.proofs.Fronts.{seals}
use Rattle.protection_tests.proofs.marking.MarkedRecordProtection.seal.Goals as goal

pub returns : goal.returns
returns g c =
    let x = c.args.content.now in
    let f = c.args.fresh.now in
    let out = c.args.out.now in
    let N = g.M.Mark.number in
    let k = keying_of N c.in-Some.keys in
    let h : option_map (keying_of N) c.args.self.now.keys ≡ Some k = search rules in
    let m : may_seal (length x) (length f) (length out) ≡ true = search rules in
    let fit : 3 + length x ≤ length out = (let w = places.may_seal_says (length x) (length f) (length out) m in omega arith) in
    let s = seals g.M.Mark.number k c.args.number c.args.kind x f out c.lay-at.new.out c.lay.new.out c.lay-at.result c.lay.result fit c.lay-at.ensures.end (rw c.number.ensures at c.lay-at.ensures.after) c.lay.ensures.end c.lay.ensures.after in
    let z = places.seals (mark_sealing g.M.Mark.number) _ k c.args.number c.args.kind x f out c.lay.new.out (mark_sealing g.M.Mark.number k c.args.number c.args.kind x f) c.lay.result h m refl (simp length-append (omega arith)) s.0 (omega arith) in
    record { answer = z.0; after = z.1 }
