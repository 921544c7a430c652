use Rattle.std.proofs.Common.{◌≡◌, true, length, Some, sym, ap, ◌∙◌, rules}
use Rattle.protection.specs.Calls.{may_open, opened_length, placed}
use Rattle.protection.proofs.Places.{opened_is}
use Rattle.cbc_protection.specs.Records.{cbc_opening}
use Rattle.cbc_protection.specs.View.{keying_of, cbc_holds}
use Rattle.cbc_protection.proofs.interface.CbcProtectionRecordProtection.open.Goals as goal

pub returns-in-Some : goal.returns-in-Some
returns-in-Some c =
    let l = c.args.octets.now in
    let place = c.args.place.now in
    let k = keying_of c.in-Some.keys in
    let h : cbc_holds c.args.self.now ≡ Some k = search rules in
    let m : may_open (length l) (length place) ≡ true = search rules in
    let i = opened_is cbc_opening (cbc_holds c.args.self.now) k c.args.number c.args.kind l (length place) h m in
    record {
      answer = c.open.ensures.answer ∙ ap opened_length (sym i);
      after = c.open.ensures.after ∙ ap (λ o. placed o place) (sym i);
    }
