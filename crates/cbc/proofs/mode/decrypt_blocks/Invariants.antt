use Rattle.std.proofs.Common.{◌≡◌, ◌-◌, ◌*◌, ◌/◌, ◌++◌, length, take, drop}
use Rattle.cbc.specs.Cbc.{decrypt_blocks}
use Rattle.sm4.specs.View.{keys_of}
use Rattle.cbc.proofs.mode.decrypt_blocks.Given as goal

abbrev pub invariant-loop-i : goal.invariant-loop-i
invariant-loop-i l =
    (length l.before ≡ 16)
    × (take (l.i * 16) l.octets ++ decrypt_blocks (keys_of l.cipher) (length l.initial.octets / 16 - l.i) l.before (drop (l.i * 16) l.octets)
    ≡ decrypt_blocks (keys_of l.cipher) (length l.initial.octets / 16) l.iv l.initial.octets)
