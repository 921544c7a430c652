use Rattle.std.proofs.Common.{◌≡◌, ◌-◌, ◌≤◌, true, length, drop, replicate, Some, ap, ◌∙◌, arith, rules}
use Rattle.std.specs.Option.{option_map}
use Rattle.std.proofs.lemmas.List.{take_rest, length-drop, length-replicate}
use Rattle.octets.specs.Laid.{laid}
use Rattle.protection.specs.Calls.{may_open}
use Rattle.protection.proofs.Places.{opens_to, may_open_says}
use Rattle.protection_tests.specs.Marks.{mark_opening}
use Rattle.protection_tests.specs.Held.{keying_of}
use Rattle.protection_tests.proofs.Fronts.{opens}
use Rattle.protection_tests.proofs.marking.MarkedRecordProtection.open.Goals as goal

pub returns : goal.returns
returns g c =
    let l = c.args.octets.now in
    let place = c.args.place.now in
    let N = g.M.Mark.number in
    let k = keying_of N c.in-Some.keys in
    let h : option_map (keying_of N) c.args.self.now.keys ≡ Some k = search rules in
    let m : may_open (length l) (length place) ≡ true = search rules in
    let w = may_open_says (length l) (length place) m in
    let fit : length (drop 3 l) ≤ length place = simp length-drop (omega arith) in
    let o = opens g.M.Mark.number k c.args.number c.args.kind l c.if-octets-lt3.false (rw c.number.ensures at c.same.ensures) c.if-not-same.false in
    let a : c.lay.new.out ≡ laid (replicate (length place) 0) 0 (drop 3 l) =
    rw (take_rest l 3, c.wipe.ensures) at c.lay.ensures.after in
    let z : length c.wipe.new.place ≡ length place = ap length c.wipe.ensures ∙ length-replicate _ 0 in
    let d : length (drop 3 l) ≡ length l - 3 = length-drop 3 l in
    let q : c.lay.result ≡ length (drop 3 l) = rw (take_rest l 3) at c.lay.ensures.end ∙ omega arith in
    let z = opens_to (mark_opening g.M.Mark.number) _ k c.args.number c.args.kind l place c.lay.new.out (drop 3 l) c.lay.result h m o fit a q in
    record { answer = z.0; after = z.1 }
