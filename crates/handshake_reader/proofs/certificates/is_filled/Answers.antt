use Rattle.std.proofs.Common.{◌≤◌, length, is_some, sym, ap, ◌∙◌, arith}
use Rattle.std.proofs.lemmas.List.{nil_from_length}
use Rattle.std.proofs.lemmas.Bool.{eqb-true, eqb-false}
use Rattle.handshake.specs.Certificates.{certificates_in}
use Rattle.handshake.proofs.Cutting.{part3_lengths}
use Rattle.handshake_reader.proofs.Chained.{filled_more}
use Rattle.handshake_reader.proofs.certificates.is_filled.Goals as goal

pub loop-left-preserved : goal.loop-left-preserved
loop-left-preserved c =
    let n = eqb-false _ _ (sym c.if-is_empty.ensures) in
    let h : 1 ≤ length c.in-Some.first.part.now = omega (arith, n) in
    filled_more c.loop-left.left.now c.in-Some.first.part.now c.in-Some.first.rest.now (sym c.in-Some.ensures) h ∙ c.loop-left.invariant

pub loop-left-smaller : goal.loop-left-smaller
loop-left-smaller c =
    let l = part3_lengths c.loop-left.left.now c.in-Some.first.part.now c.in-Some.first.rest.now (sym c.in-Some.ensures) in
    omega arith

pub returns : goal.returns
returns c =
    let e = nil_from_length c.loop-left.left.now (eqb-true _ _ (sym c.loop-left-test.ensures)) in
    sym (ap (λ xs. is_some (certificates_in xs xs)) e) ∙ c.loop-left.invariant
