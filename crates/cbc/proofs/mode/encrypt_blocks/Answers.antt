use Rattle.std.proofs.Common.{◌/◌, length, arith, rules}
use Rattle.sm4.specs.View.{keys_of}
use Rattle.cbc.specs.Cbc.{cbc_encrypt}
use Rattle.cbc.proofs.Chains.{encrypt_more, encrypt_all}
use Rattle.cbc.proofs.mode.encrypt_blocks.Goals as goal

pub loop-i-preserved : goal.loop-i-preserved
loop-i-preserved c = (
  search rules,
  encrypt_more (keys_of c.args.cipher.now) c.loop-i.octets c.loop-i.before c.loop-i.i (length c.args.octets.now / 16) (omega arith)
      (omega arith) c.block_at-block.ensures c.encrypt_block-next.ensures c.put_block.ensures c.loop-i.invariant.1,
)

pub returns : goal.returns
unfolding cbc_encrypt
returns c =
    encrypt_all (keys_of c.args.cipher.now) c.loop-i.octets c.loop-i.before c.loop-i.i (length c.args.octets.now / 16) (omega arith)
    c.loop-i.invariant.1
