use Rattle.std.proofs.Common.{◌≡◌, length, refl, ◌∙◌, arith, rules}
use Rattle.std.proofs.lemmas.List.{length-set}
use Rattle.cbc.proofs.Loops.{xors_more, xors_all}
use Rattle.cbc.proofs.blocks.xor.Goals as goal

pub loop-i-preserved : goal.loop-i-preserved
loop-i-preserved c =
    let e : length c.args.other ≡ 16 = search rules in (
      length-set c.loop-i.out c.loop-i.i _ ∙ c.loop-i.invariant.0,
      xors_more c.loop-i.out c.args.other c.loop-i.i (omega arith) (omega arith) refl c.loop-i.invariant.1,
    )

pub returns : goal.returns
returns c = xors_all c.loop-i.out c.args.other c.loop-i.i (omega arith) c.loop-i.invariant.1
