use Rattle.std.proofs.Common.{◌≡◌, true, length, Some, rules}
use Rattle.protection.specs.Calls.{may_open}
use Rattle.protection.proofs.Places.{opens_by}
use Rattle.gcm_protection.specs.Records.{gcm_opening}
use Rattle.gcm_protection.specs.View.{keying_of, gcm_holds}
use Rattle.gcm_protection.proofs.interface.GcmProtectionRecordProtection.open.Goals as goal

pub returns-in-Some : goal.returns-in-Some
returns-in-Some c =
    let l = c.args.octets.now in
    let place = c.args.place.now in
    let k = keying_of c.in-Some.keys in
    let h : gcm_holds c.args.self.now ≡ Some k = search rules in
    let m : may_open (length l) (length place) ≡ true = search rules in
    let z = opens_by gcm_opening (gcm_holds c.args.self.now) k c.args.number c.args.kind l place c.open.new.place c.open.result h m c.open.ensures.answer c.open.ensures.after in
    record { answer = z.0; after = z.1 }
