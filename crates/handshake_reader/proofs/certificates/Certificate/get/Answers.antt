use Rattle.std.proofs.Common.{◌≡◌, suc, ◌+◌, ◌-◌, sym, ap, ◌∙◌, arith}
use Rattle.std.specs.List.{slice_get}
use Rattle.handshake.specs.Certificates.{certificates_seen}
use Rattle.handshake.specs.Places.{spans}
use Rattle.handshake.proofs.Cutting.{part3_lengths}
use Rattle.handshake_reader.proofs.Chained.{spans_more, spans_here, spans_none}
use Rattle.handshake_reader.proofs.certificates.Certificate.get.Goals as goal

pub returns-in_err-first : goal.returns-in_err-first
returns-in_err-first c =
    c.from_residual.ensures
    ∙ sym (spans_none c.loop-i.offset c.loop-i.left.now (c.args.index - c.loop-i._i) (sym c.in_err-first.ensures))
    ∙ c.loop-i.invariant.0

pub overflow_add-offset-in-loop-i : goal.overflow_add-offset-in-loop-i
overflow_add-offset-in-loop-i c =
    let l = part3_lengths c.loop-i.left.now c.in_ok-first.first.part.now c.in_ok-first.first.rest.now (sym c.in_ok-first.ensures) in
    omega (arith, c.loop-i.invariant.1)

pub loop-i-preserved : goal.loop-i-preserved
loop-i-preserved c =
    let e = sym c.in_ok-first.ensures in
    let l = part3_lengths c.loop-i.left.now c.in_ok-first.first.part.now c.in_ok-first.first.rest.now e in
    let n : c.args.index - c.loop-i._i ≡ suc (c.args.index - (c.loop-i._i + 1)) = omega arith in (
      sym (spans_more c.loop-i.offset c.loop-i.left.now c.in_ok-first.first.part.now c.in_ok-first.first.rest.now _ e)
          ∙ ap (slice_get (spans c.loop-i.offset (certificates_seen c.loop-i.left.now c.loop-i.left.now))) (sym n)
          ∙ c.loop-i.invariant.0,
      omega (arith, c.loop-i.invariant.1),
    )

pub returns-in_err-first-2 : goal.returns-in_err-first-2
returns-in_err-first-2 c =
    c.from_residual-in_err-first-2.ensures
    ∙ sym (spans_none c.loop-i.offset c.loop-i.left.now (c.args.index - c.loop-i._i) (sym c.in_err-first-2.ensures))
    ∙ c.loop-i.invariant.0

pub overflow_add-result : goal.overflow_add-result
overflow_add-result c =
    let l = part3_lengths c.loop-i.left.now c.in_ok-first-2.first.part.now c.in_ok-first-2.first.rest.now (sym c.in_ok-first-2.ensures) in
    omega (arith, c.loop-i.invariant.1)

pub returns : goal.returns
returns c =
    let n : c.args.index - c.loop-i._i ≡ 0 = omega arith in
    sym (spans_here c.loop-i.offset c.loop-i.left.now c.in_ok-first-2.first.part.now c.in_ok-first-2.first.rest.now (sym c.in_ok-first-2.ensures))
    ∙ ap (slice_get (spans c.loop-i.offset (certificates_seen c.loop-i.left.now c.loop-i.left.now))) (sym n)
    ∙ c.loop-i.invariant.0
