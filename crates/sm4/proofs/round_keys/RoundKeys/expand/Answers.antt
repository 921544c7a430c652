use Rattle.std.proofs.Common.{◌<◌, length, refl, ap, ◌∙◌, arith}
use Rattle.std.proofs.lemmas.List.{length-set}
use Rattle.sm4.specs.Cipher.{Quad, cks, round_keys, schedule, whitened}
use Rattle.sm4.specs.View.{quad_of}
use Rattle.sm4.proofs.Loops.{schedule_more, schedule_all}
use Rattle.sm4.proofs.round_keys.RoundKeys.expand.Goals as goal

pub loop-i-preserved : goal.loop-i-preserved
unfolding cks
loop-i-preserved c =
    let h : c.loop-i.i < 32 = omega arith in
    let ho : c.loop-i.i < length c.loop-i.words = omega arith in (
      length-set c.loop-i.words c.loop-i.i _ ∙ c.loop-i.invariant.0,
      schedule_more cks c.loop-i.words c.loop-i.i (quad_of c.loop-i.state) h ho c.key_round-state.ensures refl c.loop-i.invariant.1,
    )

pub returns : goal.returns
unfolding round_keys cks
returns c =
    schedule_all cks c.loop-i.words c.loop-i.i (quad_of c.loop-i.state) c.loop-i-test.false (omega arith) c.loop-i.invariant.1
    ∙ ap (λ (q : Quad). schedule cks q) (c.whiten-state.ensures ∙ ap (λ (q : Quad). whitened q) c.load.ensures)
