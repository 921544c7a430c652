use Rattle.std.proofs.Common.{◌+◌, ◌^◌, ◌<◌, ◌≤◌, length, sym, refl, ◌∙◌, arith}
use Rattle.sm3.proofs.Filling.{same}
use Rattle.sm3.proofs.Running.{absorb_none}
use Rattle.sm3.proofs.Updating.{block_more, blocks_all}
use Rattle.sm3.proofs.hash.Sm3.take_blocks.Goals as goal

pub loop-at-init : goal.loop-at-init
loop-at-init c = (refl, omega arith, refl, λ n h. same refl refl (omega arith) ∙ sym (absorb_none _))

pub loop-at-preserved : goal.loop-at-preserved
loop-at-preserved c =
    let le : c.loop-at.at + 64 ≤ length c.args.octets.now = omega arith in (
      omega arith,
      le,
      c.loop-at.invariant.2,
      λ n h. block_more c.args.self.now.chain.words c.loop-at.self.chain.words c.compress.new.self.words c.args.octets.now
          n c.loop-at.at h le (c.loop-at.invariant.3 n h) c.compress.ensures,
    )

pub returns : goal.returns
returns c =
    let h : c.loop-at.self.count < 2 ^ 64 = omega arith in
    blocks_all c.args.self.now.chain.words c.loop-at.self.chain.words c.args.self.now.block c.loop-at.self.block c.args.octets.now
    c.args.self.now.count c.loop-at.self.count c.loop-at.at c.loop-at.invariant.2 c.requires.0 c.requires.1 (omega arith)
    (c.loop-at.invariant.3 c.args.self.now.count (omega arith))
