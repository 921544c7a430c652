use Rattle.std.proofs.Common.{◌≡◌, suc, length, sym, ap, arith}
use Rattle.handshake.specs.Certificates.{certificates_seen}
use Rattle.handshake.proofs.Cutting.{part3_lengths}
use Rattle.handshake_reader.proofs.Chained.{seen_more, seen_none, seen_short}
use Rattle.handshake_reader.proofs.certificates.Certificate.len.Goals as goal
use Rattle.handshake_reader.proofs.certificates.Certificate.len.Goals.{In-Some}

one_more : (c : In-Some) → length (certificates_seen c.loop-first.left.now c.loop-first.left.now)
    ≡ suc (length (certificates_seen c.in-Some.first.rest.now c.in-Some.first.rest.now))
one_more c = ap length (seen_more c.loop-first.left.now c.in-Some.first.part.now c.in-Some.first.rest.now (sym c.in-Some.ensures))

pub overflow_add-count : goal.overflow_add-count
overflow_add-count c =
    let e = one_more (goal.at.overflow_add-count c).In-Some in
    let s = seen_short c.args.self.now.list.now c.args.self.now.list.now in
    omega (arith, c.loop-first.invariant)

pub loop-first-smaller : goal.loop-first-smaller
loop-first-smaller c =
    let l = part3_lengths c.loop-first.left.now c.in-Some.first.part.now c.in-Some.first.rest.now (sym c.in-Some.ensures) in
    omega arith

pub loop-first-preserved : goal.loop-first-preserved
loop-first-preserved c = let e = one_more (goal.at.loop-first-preserved c).In-Some in omega (arith, c.loop-first.invariant)

pub returns : goal.returns
returns c =
    let e : length (certificates_seen c.loop-first.left.now c.loop-first.left.now) ≡ 0 = ap length (seen_none c.loop-first.left.now (sym c.in_default.ensures)) in
    omega (arith, c.loop-first.invariant)
