use Rattle.std.proofs.Common.{◌≡◌, ◌≤◌, true, length, Some, refl, arith, rules}
use Rattle.protection.specs.Calls.{may_seal}
use Rattle.protection.proofs.Places.{seals, may_seal_says}
use Rattle.gcm_protection.specs.Records.{gcm_sealing}
use Rattle.gcm_protection.specs.View.{keying_of, gcm_holds}
use Rattle.gcm_protection.specs.Sealed.{sealed_length}
use Rattle.gcm_protection.proofs.interface.GcmProtectionRecordProtection.seal.Goals as goal

pub returns : goal.returns
returns c =
    let x = c.args.content.now in
    let f = c.args.fresh.now in
    let out = c.args.out.now in
    let n = c.args.number in
    let t = c.args.kind in
    let k = keying_of c.in-Some.keys in
    let h : gcm_holds c.args.self.now ≡ Some k = search rules in
    let m : may_seal (length x) (length f) (length out) ≡ true = search rules in
    let w = may_seal_says (length x) (length f) (length out) m in
    let l = sealed_length k n t x f in
    let fit : length (gcm_sealing k n t x f) ≤ length out = omega arith in
    let z = seals gcm_sealing (gcm_holds c.args.self.now) k n t x f out c.seal.new.out (gcm_sealing k n t x f) c.seal.result h m refl fit c.seal.ensures.after c.seal.ensures.end in
    record { answer = z.0; after = z.1 }
