use Rattle.std.proofs.Common.{refl}
use Rattle.sm3.specs.Compress.{rounds, words, expand, compress}
use Rattle.sm3.specs.Hash.{sm3, pad, padding, blocks, output}
use Rattle.sm3.proofs.laws.examples_hold.Goals as goal

pub returns : goal.returns
unfolding sm3 pad padding blocks output rounds words expand compress
returns c = record { abc = refl; abcd = refl; long = refl }
