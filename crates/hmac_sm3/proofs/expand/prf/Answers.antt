use Rattle.std.proofs.Common.{◌≡◌, ◌+◌, ◌++◌, refl, arith}
use Rattle.hmac_sm3.specs.Pieces.{pieced}
use Rattle.hmac_sm3.specs.Prf.{link}
use Rattle.hmac_sm3.proofs.Expansions.{link_next, length-link, laid_none, laid_more, filled_prf}
use Rattle.hmac_sm3.proofs.expand.prf.Goals as goal

pub loop-i-init : goal.loop-i-init
loop-i-init c = (
  refl,
  λ h. absurd (omega arith),
  laid_none c.args.secret.now (c.args.label.now ++ pieced (λ x. x.now) c.args.seed.now) c.args.out.now,
)

pub loop-i-preserved : goal.loop-i-preserved
loop-i-preserved c =
    let k = c.args.secret.now in
    let l = c.args.label.now in
    let s = pieced (λ x. x.now) c.args.seed.now in
    let e : c.next_link-next.result ≡ link (c.loop-i.i + 1) k (l ++ s) =
    link_next k l s c.loop-i.i c.new-keyed.ensures c.loop-i.invariant.1 c.next_link-next.ensures in (
      length-link c.loop-i.i k (l ++ s) e,
      λ _. e,
      laid_more c.loop-i.i k l s c.args.out.now c.new-keyed.ensures e c.loop-i.invariant.2 c.put_block.ensures,
    )

pub returns : goal.returns
returns c =
    filled_prf c.args.secret.now c.args.label.now (pieced (λ x. x.now) c.args.seed.now) c.args.out.now c.loop-i.i (omega arith) c.loop-i.invariant.2
