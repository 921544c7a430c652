-- What the code's hash under way stands for.
use Rattle.std.specs.Prelude.{◌%◌, take}
use Rattle.sm3.specs.Hash.{Running}
use Rattle.sm3.specs.declared.hash.Sm3.{Sm3}

-- the pending octets stand first in the block; what stands behind them does not count
abbrev pub view : Sm3 → Running
view h = record { chain = h.chain.words; pending = take (h.count % 64) h.block; count = h.count }
