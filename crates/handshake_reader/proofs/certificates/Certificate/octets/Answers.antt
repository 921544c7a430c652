use Rattle.std.proofs.Common.{◌≡◌, suc, ◌+◌, ◌-◌, sym, ap, ◌∙◌, arith}
use Rattle.std.specs.List.{slice_get}
use Rattle.std.specs.Option.{option_map}
use Rattle.handshake.specs.Certificates.{certificates_seen}
use Rattle.handshake_reader.proofs.Chained.{nth_more, nth_here, nth_none}
use Rattle.handshake_reader.proofs.certificates.Certificate.octets.Goals as goal

pub returns-in_err-first : goal.returns-in_err-first
returns-in_err-first c =
    ap (option_map (λ x. x.now)) c.from_residual.ensures
    ∙ sym (nth_none c.loop-i.left.now (c.args.index - c.loop-i._i) (sym c.in_err-first.ensures))
    ∙ c.loop-i.invariant

pub loop-i-preserved : goal.loop-i-preserved
loop-i-preserved c =
    let n : c.args.index - c.loop-i._i ≡ suc (c.args.index - (c.loop-i._i + 1)) = omega arith in
    sym (nth_more c.loop-i.left.now c.in_ok-first.first.part.now c.in_ok-first.first.rest.now _ (sym c.in_ok-first.ensures))
    ∙ ap (slice_get (certificates_seen c.loop-i.left.now c.loop-i.left.now)) (sym n)
    ∙ c.loop-i.invariant

pub returns-in_err-first-2 : goal.returns-in_err-first-2
returns-in_err-first-2 c =
    ap (option_map (λ x. x.now)) c.from_residual-in_err-first-2.ensures
    ∙ sym (nth_none c.loop-i.left.now (c.args.index - c.loop-i._i) (sym c.in_err-first-2.ensures))
    ∙ c.loop-i.invariant

pub returns : goal.returns
returns c =
    let n : c.args.index - c.loop-i._i ≡ 0 = omega arith in
    sym (nth_here c.loop-i.left.now c.in_ok-first-2.first.part.now c.in_ok-first-2.first.rest.now (sym c.in_ok-first-2.ensures))
    ∙ ap (slice_get (certificates_seen c.loop-i.left.now c.loop-i.left.now)) (sym n)
    ∙ c.loop-i.invariant
