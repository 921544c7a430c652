use Rattle.std.proofs.Common.{◌-◌, length, refl, arith}
use Rattle.cbc_protection.specs.View.{keying_of}
use Rattle.cbc_protection.specs.Opened.{opened_none, opened_some, opened_size}
use Rattle.cbc_protection.proofs.keys.CbcKeys.open.Goals as goal

pub slice_bounds-wipe-count : goal.slice_bounds-wipe-count
slice_bounds-wipe-count c =
    let k = c.args.self.now in
    let l = c.args.octets.now in
    opened_size (keying_of k) c.args.number c.args.kind l c.args.place.now (length l - 16) (omega arith) (omega arith) (omega arith) refl
    c.wipe.ensures k.reads c.sixteen-iv.ensures c.lay.ensures.after c.decrypt.ensures.after c.in-Some.size c.in-Some.ensures

pub slice_bounds-wipe-start : goal.slice_bounds-wipe-start
slice_bounds-wipe-start c =
    let k = c.args.self.now in
    let l = c.args.octets.now in
    opened_size (keying_of k) c.args.number c.args.kind l c.args.place.now (length l - 16) (omega arith) (omega arith) (omega arith) refl
    c.wipe.ensures k.reads c.sixteen-iv.ensures c.lay.ensures.after c.decrypt.ensures.after c.in-Some.size c.in-Some.ensures

pub returns-in-None : goal.returns-in-None
returns-in-None c =
    let k = c.args.self.now in
    let l = c.args.octets.now in
    let z = opened_none (keying_of k) c.args.number c.args.kind l c.args.place.now (length l - 16) (omega arith) (omega arith) (omega arith) refl
    c.wipe.ensures k.reads c.sixteen-iv.ensures c.lay.ensures.after c.decrypt.ensures.after c.in-None.ensures c.wipe-in-None.ensures in
    record { answer = z.0; after = z.1 }

pub returns-in-Some : goal.returns-in-Some
returns-in-Some c =
    let k = c.args.self.now in
    let l = c.args.octets.now in
    let z = opened_some (keying_of k) c.args.number c.args.kind l c.args.place.now (length l - 16) (omega arith) (omega arith) (omega arith) refl
    c.wipe.ensures k.reads c.sixteen-iv.ensures c.lay.ensures.after c.decrypt.ensures.after c.in-Some.size c.in-Some.ensures c.wipe-in-Some.ensures in
    record { answer = z.0; after = z.1 }
